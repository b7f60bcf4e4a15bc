use Rattle.std.proofs.Common.{◌≡◌, ◌<◌, ◌≤◌, ◌-◌, length}
use Rattle.mcf_lower.specs.Net.{arc_of}
use Rattle.mcf_lower.proofs.Ends.{AreAddedFrom}
use Rattle.mcf_lower.proofs.index.Chains.add_to.Given as goal

abbrev pub invariant-loop-cursor : goal.invariant-loop-cursor
invariant-loop-cursor l = record {
  added : AreAddedFrom l.net l.v l.cursor l.initial.ends.items l.ends.items;
  below : l.cursor ≤ length l.net.arcs;
  there : 0 < l.cursor → (arc_of l.net (l.cursor - 1)).head ≡ l.v;
}

abbrev pub decreases-loop-cursor : goal.decreases-loop-cursor
decreases-loop-cursor l = l.cursor
