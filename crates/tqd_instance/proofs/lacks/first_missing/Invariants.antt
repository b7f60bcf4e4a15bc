use Rattle.std.proofs.Common.{ℕ, ◌<◌}
use Rattle.tqd_instance.specs.Rows.{IsMissing}
use Rattle.tqd_instance.proofs.lacks.first_missing.Given as goal

abbrev pub invariant-loop-k : goal.invariant-loop-k
invariant-loop-k l = (good : ℕ) → good < l.k → IsMissing l.offered l.prices good → ⊥
