-- A supplier at which a box may be split.
use Rattle.std.specs.Prelude.{ℕ, ◌<◌}
use Rattle.tqd_instance.specs.declared.job.Job.{Job}
use Rattle.tqd_instance.specs.Job.{suppliers}
use Rattle.interval_box.specs.declared.boxes.IntervalBox.{IntervalBox}
use Rattle.interval_box.specs.Ranges.{low_of, high_of}
use Rattle.search_run.specs.declared.branch.Choice.{Choice}

-- a supplier whose range has more than one number
pub record IsWide (job : Job) (area : IntervalBox) (i : ℕ) : Type 0 where
  pub supplier : i < suppliers job
  pub wide : low_of area i < high_of area i

abbrev pub IsChoice : Job → IntervalBox → Choice → Type 0
IsChoice job area choice = IsWide job area choice.supplier
