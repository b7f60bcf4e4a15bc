-- What is kept of a supplier: the values of its segments, by their numbers, and the least of those in its range.
use Rattle.std.specs.Prelude.{ℕ, ◌≡◌, ◌+◌, ◌-◌, ◌<◌, ◌≤◌, ◌⊎◌, ℤ, pos, length, slice_index_or}
use Rattle.tqd_instance.specs.declared.job.Job.{Job}
use Rattle.tqd_instance.specs.Job.{goods}
use Rattle.interval_box.specs.declared.boxes.IntervalBox.{IntervalBox}
use Rattle.interval_box.specs.Ranges.{low_of, high_of}
use Rattle.bound_tree.specs.LeastFrom.{least_from}
use Rattle.bound_tree.specs.Prices.{Prices, count_of, places_to, segment_price}
use Rattle.bound_tree.specs.Value.{charges_of, segment_value}
use Rattle.price_climb.specs.declared.column.Column.{Column}

-- W(i,j): the value of a segment in a row of a box
unfoldable pub segment_in : Job → IntervalBox → Prices → ℕ → ℕ → ℤ
segment_in job area row i j = segment_value (charges_of job) job row.goods (segment_price area row i j) i j

-- the value that is kept of a segment
unfoldable pub value_in : Column → ℕ → ℤ
value_in column j = slice_index_or column.values j (pos 0)

-- the values of f at low and at the n numbers after it are kept, and the least of them
pub record Keeps (low n : ℕ) (f : ℕ → ℤ) (column : Column) : Type 0 where
  pub size : length column.values ≡ 17
  pub values : (j : ℕ) → low ≤ j → j ≤ low + n → value_in column j ≡ f j
  pub least : column.least ≡ least_from low n f

-- the values of a supplier's segments in a row
abbrev pub IsColumn : Job → IntervalBox → Prices → ℕ → Column → Type 0
IsColumn job area row i = Keeps (low_of area i) (high_of area i - low_of area i) (segment_in job area row i)

-- the price of a number stands in the value of a segment of a supplier's range: it is that of a good, or of the segment
abbrev pub Touches : Job → IntervalBox → ℕ → ℕ → Type 0
Touches job area n i = (n < goods job)
    ⊎ ((places_to area i ≤ n - goods job) × (n - goods job < places_to area i + count_of area i))
