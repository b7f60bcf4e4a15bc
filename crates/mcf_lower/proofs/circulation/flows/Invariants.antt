use Rattle.std.proofs.Common.{◌≡◌, ℕ, ◌<◌, length, get_or}
use Rattle.mcf_lower.specs.Pseudoflow.{carried}
use Rattle.mcf_lower.proofs.circulation.flows.Given as goal

abbrev pub invariant-loop-a : goal.invariant-loop-a
invariant-loop-a l = record {
  length : length l.flow.items ≡ l.a;
  each : (k : ℕ) → k < l.a → get_or l.flow.items k 0 ≡ carried l.net l.room k;
}
