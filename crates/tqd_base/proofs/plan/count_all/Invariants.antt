use Rattle.std.proofs.Common.{◌≡◌}
use Rattle.tqd_base.specs.Planned.{one_less}
use Rattle.tqd_base.proofs.Counting.{half_done}
use Rattle.tqd_base.proofs.plan.count_all.Given as goal

abbrev pub invariant-loop-fault : goal.invariant-loop-fault
invariant-loop-fault l = l.faults ≡ half_done (one_less l.call) l.fault-index l.initial.faults
