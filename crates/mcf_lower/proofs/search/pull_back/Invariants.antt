use Rattle.std.proofs.Common.{◌≡◌, ℕ, ◌+◌, ◌-◌, ◌<◌, ◌≤◌, length, get_or}
use Rattle.mcf_lower.specs.Net.{arc_of}
use Rattle.mcf_lower.specs.Ends.{end_of}
use Rattle.mcf_lower.specs.Tree.{Tree, Last, Keyed, IsMet}
use Rattle.mcf_lower.specs.Search.{IsOffered}
use Rattle.mcf_lower.proofs.search.pull_back.Given as goal

abbrev pub invariant-loop-cursor : goal.invariant-loop-cursor
invariant-loop-cursor l = record {
  tree : Tree l.net l.room l.numbers l.labels;
  keyed : Keyed l.labels;
  last : Last l.net l.numbers l.labels l.v;
  offered : IsOffered l.net.nodes l.initial.labels l.labels;
  below : l.cursor ≤ length l.backs.ends.items;
  there : 0 < l.cursor → (arc_of l.net (end_of l.backs.ends.items (l.cursor - 1)).arc).tail ≡ l.v;
  met : (k : ℕ) → k < length l.backs.ends.items → (arc_of l.net (end_of l.backs.ends.items k).arc).tail ≡ l.v → l.cursor ≤ k
      → 0 < get_or l.room ((end_of l.backs.ends.items k).arc + length l.net.arcs) 0
      → IsMet l.net l.numbers l.labels.distance.items ((end_of l.backs.ends.items k).arc + length l.net.arcs);
}

abbrev pub decreases-loop-cursor : goal.decreases-loop-cursor
decreases-loop-cursor l = l.cursor
