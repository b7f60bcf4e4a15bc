use Rattle.std.proofs.Common.{ℕ, ◌<◌}
use Rattle.tqd_instance.specs.Feasible.{HasPick}
use Rattle.tqd_instance.specs.Plan.{units}
use Rattle.tqd_instance.proofs.job.Job.failing_pick.Given as goal

abbrev pub invariant-loop-i : goal.invariant-loop-i
invariant-loop-i l = (i : ℕ) → i < l.i → HasPick l.self (units l.plan) i
