use Rattle.std.proofs.Common.{arith}
use Rattle.interval_box.proofs.Root.{begins, goes_on, ends}
use Rattle.interval_box.proofs.boxes.IntervalBox.root.Goals as goal

pub loop-i-init : goal.loop-i-init
loop-i-init c = begins c.args.job.now c.zeros-area.result c.zeros-area.ensures

pub loop-i-preserved : goal.loop-i-preserved
loop-i-preserved c = goes_on c.args.job.now c.loop-i.area c.loop-i.i c.segments.result (omega arith) c.segments.ensures.value c.loop-i.invariant

pub returns : goal.returns
returns c =
    let is = ends c.args.job.now c.loop-i.area c.loop-i.i (omega arith) (omega arith) c.loop-i.invariant in
    record { of_job = is.of_job; whole = is }
