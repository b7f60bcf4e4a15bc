-- A row of a box as a row of another box: the same prices at the places that both have.
use Rattle.std.specs.Prelude.{ℕ, zero, suc, ◌+◌, ◌&&◌, Bool, nat_le, if◌then◌else◌, ℤ, pos, List, [], ◌∷◌, ◌++◌}
use Rattle.tqd_instance.specs.declared.job.Job.{Job}
use Rattle.tqd_instance.specs.Job.{suppliers}
use Rattle.interval_box.specs.declared.boxes.IntervalBox.{IntervalBox}
use Rattle.interval_box.specs.Ranges.{low_of, high_of}
use Rattle.bound_tree.specs.Prices.{Prices, first_of, count_of, place_of, price_at, segment_price}
use Rattle.bound_tree.specs.Root.{root_of}

-- f a, f (a + 1), .. f (a + n - 1)
unfoldable pub prices_from : ℕ → ℕ → (ℕ → ℤ) → List ℤ
prices_from a zero f = []
prices_from a (suc n) f = prices_from a n f ++ f (a + n) ∷ []

-- the price f i j at the place of each segment j, but segment 0, in the ranges of the first n suppliers
unfoldable pub places_by : IntervalBox → ℕ → (ℕ → ℕ → ℤ) → List ℤ
places_by area zero f = []
places_by area (suc i) f = places_by area i f ++ prices_from (first_of area i) (count_of area i) (f i)

-- a row of a box as a row of a part of the box
unfoldable pub narrowed : Job → IntervalBox → IntervalBox → Prices → Prices
narrowed job area part row = record { goods = row.goods; places = places_by part (suppliers job) (segment_price area row) }

abbrev pub admits : IntervalBox → ℕ → ℕ → Bool
admits area i j = nat_le (low_of area i) j && nat_le j (high_of area i)

-- the price of a segment, or 0 where it is not in the box
abbrev pub price_or_zero : IntervalBox → List ℤ → ℕ → ℕ → ℤ
price_or_zero area places i j = if admits area i j then price_at places (place_of area i j) else pos 0

-- the prices at the places of a box, and 0 at all other places of the root
abbrev pub root_places : Job → IntervalBox → List ℤ → List ℤ
root_places job area places = places_by (root_of job) (suppliers job) (price_or_zero area places)

-- a row of a box as a row of the root
unfoldable pub widened : Job → IntervalBox → Prices → Prices
widened job area row = record { goods = row.goods; places = root_places job area row.places }
