use Rattle.std.proofs.Common.{arith}
use Rattle.interval_box.proofs.Singles.{picked_none, picked_more, picked_all}
use Rattle.interval_box.proofs.boxes.IntervalBox.of_picks.Goals as goal

pub loop-i-init : goal.loop-i-init
loop-i-init c = picked_none c.zeros-area.result c.args.picks.now c.zeros-area.ensures

pub loop-i-preserved : goal.loop-i-preserved
loop-i-preserved c = picked_more c.args.job.now c.loop-i.area c.args.picks.now c.loop-i.i (omega arith) c.loop-i.invariant

pub returns : goal.returns
returns c = picked_all c.args.job.now c.loop-i.area c.args.picks.now c.loop-i.i (omega arith) (omega arith) c.requires.segments c.loop-i.invariant
