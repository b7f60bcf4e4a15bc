use Rattle.std.proofs.Common.{◌≡◌, ℕ, ◌<◌, length, get_or}
use Rattle.mcf_lower.specs.Edges.{edges}
use Rattle.mcf_lower.specs.Pseudoflow.{first_room}
use Rattle.mcf_lower.proofs.pseudoflow.rooms.Given as goal

abbrev pub invariant-loop-e : goal.invariant-loop-e
invariant-loop-e l = record {
  edges : l.edges ≡ edges l.net;
  length : length l.room.items ≡ l.e;
  each : (k : ℕ) → k < l.e → get_or l.room.items k 0 ≡ first_room l.net l.numbers k;
}
