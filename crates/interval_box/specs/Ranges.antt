-- A box: for each supplier a range of segment numbers, in which a purchase picks. Segment 0 is the one in which nothing is bought.
use Rattle.std.specs.Prelude.{ℕ, ◌≡◌, ◌<◌, ◌≤◌, length, slice_index, IsSomeAnd}
use Rattle.tqd_base.specs.declared.limits.TheConstants.{SUPPLIERS_MAX}
use Rattle.tqd_instance.specs.declared.job.Job.{Job}
use Rattle.tqd_instance.specs.Job.{suppliers, segments, pick}
use Rattle.tqd_instance.specs.Purchase.{Purchase, total}
use Rattle.interval_box.specs.declared.boxes.IntervalBox.{IntervalBox}

-- the least number in the range of a supplier
unfoldable pub low_of : IntervalBox → ℕ → ℕ
low_of area i = slice_index area.lows i

-- the greatest number in the range of a supplier
unfoldable pub high_of : IntervalBox → ℕ → ℕ
high_of area i = slice_index area.highs i

-- a segment number is in the range of a supplier
pub record Admits (area : IntervalBox) (i j : ℕ) : Type 0 where
  pub from_low : low_of area i ≤ j
  pub to_high : j ≤ high_of area i

-- a range of segments that the supplier has
pub record IsRangeOf (job : Job) (area : IntervalBox) (i : ℕ) : Type 0 where
  pub ordered : low_of area i ≤ high_of area i
  pub within : high_of area i ≤ segments job i

-- the range of a place that no supplier has
pub record IsUnused (area : IntervalBox) (i : ℕ) : Type 0 where
  pub low : low_of area i ≡ 0
  pub high : high_of area i ≡ 0

-- a box of a job: a range of segments for each supplier, and 0 in all other places
pub record IsBoxOf (job : Job) (area : IntervalBox) : Type 0 where
  pub low_places : length area.lows ≡ SUPPLIERS_MAX
  pub high_places : length area.highs ≡ SUPPLIERS_MAX
  pub ranges : (i : ℕ) → i < suppliers job → IsRangeOf job area i
  pub others : (i : ℕ) → suppliers job ≤ i → IsUnused area i

-- a supplier's total has a pick, and the pick is in the range
abbrev pub PicksIn : Job → IntervalBox → Purchase → ℕ → Type 0
PicksIn job area x i = IsSomeAnd (pick job i (total job x i)) (Admits area i)

-- the box with 0 in all places
pub record IsZero (area : IntervalBox) : Type 0 where
  pub low_places : length area.lows ≡ SUPPLIERS_MAX
  pub high_places : length area.highs ≡ SUPPLIERS_MAX
  pub unused : (i : ℕ) → IsUnused area i

-- a purchase is in a box: each total has a pick that is in the supplier's range
abbrev pub IsIn : Job → IntervalBox → Purchase → Type 0
IsIn job area x = (i : ℕ) → i < suppliers job → PicksIn job area x i

-- the whole range of a supplier
pub record IsWholeRange (job : Job) (area : IntervalBox) (i : ℕ) : Type 0 where
  pub from_zero : low_of area i ≡ 0
  pub to_last : high_of area i ≡ segments job i

-- the root: the box of the job in which each range is whole
pub record IsRoot (job : Job) (area : IntervalBox) : Type 0 where
  pub of_job : IsBoxOf job area
  pub whole : (i : ℕ) → i < suppliers job → IsWholeRange job area i

-- each range has one number
abbrev pub IsSingle : Job → IntervalBox → Type 0
IsSingle job area = (i : ℕ) → i < suppliers job → low_of area i ≡ high_of area i
