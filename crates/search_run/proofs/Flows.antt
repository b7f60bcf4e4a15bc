-- The totals of the plan of a bound.
use Rattle.tqd_instance.specs.declared.job.Job.{Job}
use Rattle.tqd_instance.specs.Purchase.{Purchase}
use Rattle.interval_box.specs.declared.boxes.IntervalBox.{IntervalBox}
use Rattle.box_bound.specs.Relaxed.{least_total, greatest_total, Relaxed}
use Rattle.branching.specs.Totals.{KeepsTotals}

-- a relaxed purchase keeps the bounds on totals by which a split is chosen
pub keeps_totals : (job : Job) (area : IntervalBox) (x : Purchase) → Relaxed job area x → KeepsTotals job area x
unfolding least_total greatest_total
keeps_totals job area x r = λ i below. (let t = r.totals i below in record { from_low = t.from_least; to_high = t.to_greatest })
