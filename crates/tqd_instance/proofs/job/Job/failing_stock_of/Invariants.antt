use Rattle.std.proofs.Common.{ℕ, ◌<◌}
use Rattle.tqd_instance.specs.Feasible.{MeetsStock}
use Rattle.tqd_instance.specs.Plan.{units}
use Rattle.tqd_instance.proofs.job.Job.failing_stock_of.Given as goal

abbrev pub invariant-loop-k : goal.invariant-loop-k
invariant-loop-k l = (k : ℕ) → k < l.k → MeetsStock l.self (units l.plan) l.i k
