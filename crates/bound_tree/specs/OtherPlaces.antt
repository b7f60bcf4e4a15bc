-- Prices at the places of two boxes compared.
use Rattle.std.specs.Prelude.{ℕ, ◌≡◌, ◌+◌, ◌-◌, ◌<◌, ◌≤◌, if◌then◌else◌, ℤ, pos, List}
use Rattle.tqd_instance.specs.declared.job.Job.{Job}
use Rattle.tqd_instance.specs.Job.{suppliers}
use Rattle.interval_box.specs.declared.boxes.IntervalBox.{IntervalBox}
use Rattle.interval_box.specs.Ranges.{Admits}
use Rattle.bound_tree.specs.Prices.{first_of, places_to, price_at}
use Rattle.bound_tree.specs.OtherBox.{admits}

-- the price of a segment of a supplier's range, where the range has its places from `at` on
abbrev pub price_from : IntervalBox → List ℤ → ℕ → ℕ → ℕ → ℤ
price_from area places at i j = price_at places (at + (j - first_of area i))

-- the same, or 0 where the range does not have the segment
abbrev pub price_from_or_zero : IntervalBox → List ℤ → ℕ → ℕ → ℕ → ℤ
price_from_or_zero area places at i j = if admits area i j then price_from area places at i j else pos 0

-- the prices of a supplier's range in a box are those of another box, and 0 where that has no place
abbrev pub SameRange : IntervalBox → List ℤ → ℕ → IntervalBox → List ℤ → ℕ → ℕ → Type 0
SameRange kept_area kept kept_at area places at i =
    (j : ℕ) → 1 ≤ j → Admits area i j → price_from area places at i j ≡ price_from_or_zero kept_area kept kept_at i j

-- the same of all suppliers
abbrev pub SamePlaces : Job → IntervalBox → List ℤ → IntervalBox → List ℤ → Type 0
SamePlaces job kept_area kept area places = (i : ℕ) → i < suppliers job
    → SameRange kept_area kept (places_to kept_area i) area places (places_to area i) i
