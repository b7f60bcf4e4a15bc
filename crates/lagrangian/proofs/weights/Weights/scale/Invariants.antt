use Rattle.std.proofs.Common.{ℕ, ◌≡◌, ◌≤◌, ◌+◌, sum, length, get_or}
use Rattle.lagrangian.specs.declared.weights.TheConstants.{COLUMNS_MAX, WHOLE}
use Rattle.lagrangian.proofs.weights.Weights.scale.Given as goal

abbrev pub invariant-loop-at : goal.invariant-loop-at
invariant-loop-at l = record {
  count : length l.scaled ≡ COLUMNS_MAX;
  whole : sum l.scaled + l.left ≡ WHOLE;
  unset : (k : ℕ) → l.at ≤ k → get_or l.scaled k 0 ≡ 0;
}
