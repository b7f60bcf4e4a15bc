use Rattle.std.proofs.Common.{◌≡◌, ℕ, ◌+◌, ◌-◌, ◌<◌, ◌≤◌, get_or}
use Rattle.mcf_lower.proofs.pseudoflow.raise.Given as goal

abbrev pub invariant-loop-v : goal.invariant-loop-v
invariant-loop-v l = record {
  raised : (k : ℕ) → k < l.v → get_or l.numbers k 0 ≡ get_or l.initial.numbers k 0 + (l.far - get_or l.distance k 0);
  rest : (k : ℕ) → l.v ≤ k → get_or l.numbers k 0 ≡ get_or l.initial.numbers k 0;
}
