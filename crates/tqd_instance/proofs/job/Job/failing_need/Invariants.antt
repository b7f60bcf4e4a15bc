use Rattle.std.proofs.Common.{ℕ, ◌<◌}
use Rattle.tqd_instance.specs.Feasible.{MeetsNeed}
use Rattle.tqd_instance.specs.Plan.{units}
use Rattle.tqd_instance.proofs.job.Job.failing_need.Given as goal

abbrev pub invariant-loop-k : goal.invariant-loop-k
invariant-loop-k l = (k : ℕ) → k < l.k → MeetsNeed l.self (units l.plan) k
