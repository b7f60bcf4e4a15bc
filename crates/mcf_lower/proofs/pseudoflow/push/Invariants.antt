use Rattle.std.proofs.Common.{ℕ, ◌<◌, ◌≤◌, ◌≢◌, get_or}
use Rattle.mcf_lower.specs.Ends.{ListsBacks}
use Rattle.mcf_lower.specs.Tree.{IsPriced}
use Rattle.mcf_lower.specs.Pseudoflow.{IsBounded, BalanceMoves}
use Rattle.mcf_lower.proofs.pseudoflow.push.Given as goal

abbrev pub invariant-loop-v : goal.invariant-loop-v
invariant-loop-v l = record {
  inside : l.v < l.net.nodes;
  near : get_or l.labels.distance.items l.v 0 ≤ get_or l.labels.distance.items l.from 0;
  wide : l.amount ≤ get_or l.labels.width.items l.v 0;
  priced : IsPriced l.net l.room l.numbers;
  bounded : IsBounded l.net l.room;
  backs : ListsBacks l.net l.room l.backs;
  takes : (w : ℕ) → w < l.net.nodes → get_or l.labels.rank.items w 0 ≤ get_or l.labels.rank.items l.v 0 → get_or l.labels.distance.items w 0 ≤ get_or l.labels.distance.items l.from 0
      → w ≢ l.labels.root → get_or l.labels.width.items w 0 ≤ get_or l.room (get_or l.labels.parent.items w 0) 0;
  moved : BalanceMoves l.net l.initial.room l.room l.from l.v l.amount;
}

abbrev pub decreases-loop-v : goal.decreases-loop-v
decreases-loop-v l = get_or l.labels.rank.items l.v 0
