-- The same prices on smaller ranges.
use Rattle.std.specs.Prelude.{ℕ, ◌≡◌, ◌<◌, ◌≤◌, ℤ, ◌≤ℤ◌, List, length}
use Rattle.std.specs.List.{All}
use Rattle.tqd_instance.specs.declared.job.Job.{Job}
use Rattle.tqd_instance.specs.Job.{suppliers}
use Rattle.interval_box.specs.declared.boxes.IntervalBox.{IntervalBox}
use Rattle.interval_box.specs.Ranges.{low_of, high_of, Admits}
use Rattle.interval_box.specs.Halves.{low_half, high_half}
use Rattle.bound_tree.specs.Prices.{Prices, places_to, place_of, price_at, segment_price, IsPrice, Fits}
use Rattle.bound_tree.specs.Value.{value, free_value}

-- a box within another: each supplier's range is a part of its range there
pub record IsPartAt (part area : IntervalBox) (i : ℕ) : Type 0 where
  pub low : low_of area i ≤ low_of part i
  pub high : high_of part i ≤ high_of area i

abbrev pub IsPartOf : Job → IntervalBox → IntervalBox → Type 0
IsPartOf job part area = (i : ℕ) → i < suppliers job → IsPartAt part area i

-- the two halves of a split are parts of the box
pub record AreParts (job : Job) (area : IntervalBox) (i s : ℕ) : Type 0 where
  pub low : IsPartOf job (low_half area i s) area
  pub high : IsPartOf job (high_half area i s) area

-- the row of a box narrowed to a part of it: a row of the part with the same prices, whose values are not lower
pub record IsNarrowed (job : Job) (area part : IntervalBox) (row narrowed : Prices) : Type 0 where
  pub fits : Fits job part narrowed
  pub goods : narrowed.goods ≡ row.goods
  pub segments : (i j : ℕ) → i < suppliers job → 1 ≤ j → Admits part i j → segment_price part narrowed i j ≡ segment_price area row i j
  pub value : value job area row ≤ℤ value job part narrowed
  pub free_value : free_value job area row ≤ℤ free_value job part narrowed

-- the prices of a box's places that are places of a part of it too
pub record AreNarrowedPlaces (job : Job) (area part : IntervalBox) (places narrowed : List ℤ) : Type 0 where
  pub count : length narrowed ≡ places_to part (suppliers job)
  pub same : (i j : ℕ) → i < suppliers job → 1 ≤ j → Admits part i j → price_at narrowed (place_of part i j) ≡ price_at places (place_of area i j)
  pub in_range : All IsPrice narrowed
