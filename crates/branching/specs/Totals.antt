-- The totals that a plan may have in a box, where all segments of a range are taken together.
use Rattle.std.specs.Prelude.{ℕ, ◌<◌, ◌≤◌}
use Rattle.tqd_instance.specs.declared.job.Job.{Job}
use Rattle.tqd_instance.specs.Job.{suppliers, low, high}
use Rattle.tqd_instance.specs.Purchase.{Purchase, total}
use Rattle.interval_box.specs.declared.boxes.IntervalBox.{IntervalBox}
use Rattle.interval_box.specs.Ranges.{low_of, high_of}

-- a supplier's total lies from the low of the first segment of the range, 0 where that is segment 0, to the high of
-- the last
pub record KeepsTotal (job : Job) (area : IntervalBox) (x : Purchase) (i : ℕ) : Type 0 where
  pub from_low : low job i (low_of area i) ≤ total job x i
  pub to_high : total job x i ≤ high job i (high_of area i)

abbrev pub KeepsTotals : Job → IntervalBox → Purchase → Type 0
KeepsTotals job area x = (i : ℕ) → i < suppliers job → KeepsTotal job area x i
