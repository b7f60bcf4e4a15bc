use Rattle.std.specs.List.{All}
use Rattle.bound_tree.specs.Prices.{IsPrice, price_at}
use Rattle.box_bound.specs.NodeRow.{HasNext}
use Rattle.box_bound.proofs.row.push_goods.Given as goal

abbrev pub invariant-loop-k : goal.invariant-loop-k
invariant-loop-k l = record {
  next : HasNext l.fn.numbers.items l.numbers.items l.k (price_at l.start.goods);
  in_range : All IsPrice l.numbers.items;
}
