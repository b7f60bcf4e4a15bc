use Rattle.std.proofs.Common.{ℕ, ◌<◌, ◌≤◌, get_or}
use Rattle.mcf_lower.specs.Ends.{end_of}
use Rattle.mcf_lower.specs.Tree.{Tree, Last, Keyed, IsMet}
use Rattle.mcf_lower.specs.Search.{IsOffered}
use Rattle.mcf_lower.proofs.search.pull_along.Given as goal

abbrev pub invariant-loop-p : goal.invariant-loop-p
invariant-loop-p l = record {
  tree : Tree l.net l.room l.numbers l.labels;
  keyed : Keyed l.labels;
  last : Last l.net l.numbers l.labels l.v;
  offered : IsOffered l.net.nodes l.initial.labels l.labels;
  met : (q : ℕ) → get_or l.index.starts.items l.v 0 ≤ q → q < l.p → 0 < get_or l.room (end_of l.index.ends.items q).arc 0
      → IsMet l.net l.numbers l.labels.distance.items (end_of l.index.ends.items q).arc;
}
