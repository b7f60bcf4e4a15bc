use Rattle.tqd_base.proofs.Counting.{half_done-step}
use Rattle.tqd_base.proofs.plan.count_all.Goals as goal

pub loop-fault-preserved : goal.loop-fault-preserved
loop-fault-preserved c = half_done-step _ _ _ _ _ _ c.loop-fault-test.true c.loop-fault.invariant c.count.ensures
