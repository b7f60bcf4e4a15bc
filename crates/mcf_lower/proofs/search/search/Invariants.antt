use Rattle.std.proofs.Common.{◌≡◌, ℕ, ◌+◌, ◌<◌, ◌≤◌, get_or}
use Rattle.mcf_lower.specs.declared.labels.TheConstants.{UNSETTLED}
use Rattle.mcf_lower.specs.Net.{IsNetwork}
use Rattle.mcf_lower.specs.Tree.{Tree, IsClosed, Keyed}
use Rattle.mcf_lower.proofs.Settling.{unsettled}
use Rattle.mcf_lower.proofs.search.search.Given as goal

abbrev pub invariant-loop-v : goal.invariant-loop-v
invariant-loop-v l = record {
  network : IsNetwork l.net;
  tree : Tree l.net l.flow.room.items l.flow.numbers.items l.labels;
  keyed : Keyed l.labels;
  places : l.labels.keys.places ≡ l.net.nodes;
  root : l.labels.root ≡ l.root;
  closed : IsClosed l.net l.flow.room.items l.flow.numbers.items l.labels.distance.items l.labels.rank.items;
  unsupplied : (v : ℕ) → v < l.net.nodes → get_or l.labels.rank.items v 0 < UNSETTLED → get_or l.flow.supply.items v 0 ≡ 0;
  count : l.labels.settled + unsettled l.labels.rank.items ≤ l.net.nodes;
}

abbrev pub decreases-loop-v : goal.decreases-loop-v
decreases-loop-v l = unsettled l.labels.rank.items
