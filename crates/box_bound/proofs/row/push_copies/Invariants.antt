use Rattle.std.specs.List.{All}
use Rattle.bound_tree.specs.Prices.{IsPrice}
use Rattle.box_bound.specs.NodeRow.{HasNext}
use Rattle.box_bound.proofs.row.push_copies.Given as goal

abbrev pub invariant-loop-copy : goal.invariant-loop-copy
invariant-loop-copy l = record {
  next : HasNext l.fn.prices.items l.prices.items l._copy (λ _. l.price);
  in_range : All IsPrice l.prices.items;
}
