use Rattle.std.proofs.Common.{ℕ, ◌+◌, ◌<◌, length, get_or}
use Rattle.mcf_lower.specs.Net.{IsNetwork}
use Rattle.mcf_lower.specs.Ends.{AreBacks, IsListed}
use Rattle.mcf_lower.proofs.backs.Backs.of.Given as goal

abbrev pub invariant-loop-a : goal.invariant-loop-a
invariant-loop-a l = record {
  network : IsNetwork l.net;
  backs : AreBacks l.net l.backs;
  listed : (k : ℕ) → k < l.a → 0 < get_or l.room (k + length l.net.arcs) 0 → IsListed l.backs k;
}
