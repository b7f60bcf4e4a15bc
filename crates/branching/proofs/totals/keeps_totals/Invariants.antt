use Rattle.std.proofs.Common.{ℕ, ◌<◌}
use Rattle.tqd_instance.specs.Plan.{units}
use Rattle.branching.specs.Totals.{KeepsTotal}
use Rattle.branching.proofs.totals.keeps_totals.Given as goal

abbrev pub invariant-loop-i : goal.invariant-loop-i
invariant-loop-i l = (i : ℕ) → i < l.i → KeepsTotal l.job l.area (units l.plan) i
