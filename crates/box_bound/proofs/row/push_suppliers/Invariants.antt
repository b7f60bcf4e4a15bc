use Rattle.std.proofs.Common.{◌≡◌, ◌*◌, ◌≤◌}
use Rattle.std.specs.List.{All}
use Rattle.bound_tree.specs.Prices.{IsPrice, places_to}
use Rattle.box_bound.specs.NodeRow.{HasNext, start_number}
use Rattle.box_bound.proofs.row.push_suppliers.Given as goal

abbrev pub invariant-loop-i : goal.invariant-loop-i
invariant-loop-i l = record {
  place : l.at ≡ places_to l.area l.i;
  few : l.at ≤ l.i * 16;
  next : HasNext l.fn.numbers.items l.numbers.items l.i (start_number l.area l.start);
  in_range : All IsPrice l.numbers.items;
}
