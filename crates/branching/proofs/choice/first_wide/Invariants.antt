use Rattle.std.proofs.Common.{ℕ, ◌<◌}
use Rattle.branching.specs.Chosen.{IsWide}
use Rattle.branching.proofs.choice.first_wide.Given as goal

abbrev pub invariant-loop-i : goal.invariant-loop-i
invariant-loop-i l = (k : ℕ) → k < l.i → IsWide l.job l.area k → ⊥
