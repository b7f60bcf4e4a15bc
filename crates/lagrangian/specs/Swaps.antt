-- Changes of one pick.
use Rattle.std.specs.Prelude.{◌<◌}
use Rattle.tqd_instance.specs.declared.job.Job.{Job}
use Rattle.tqd_instance.specs.Job.{suppliers}
use Rattle.interval_box.specs.declared.boxes.IntervalBox.{IntervalBox}
use Rattle.interval_box.specs.Ranges.{Admits}
use Rattle.lagrangian.specs.declared.swap.Swap.{Swap}

-- another pick of a supplier, in its range
pub record IsSwap (job : Job) (area : IntervalBox) (swap : Swap) : Type 0 where
  pub known : swap.supplier < suppliers job
  pub admitted : Admits area swap.supplier swap.segment
