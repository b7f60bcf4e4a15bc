use Rattle.std.proofs.Common.{◌≡◌, ◌*◌, ◌≤◌}
use Rattle.bound_tree.specs.Prices.{places_to}
use Rattle.price_climb.specs.Table.{AreColumns}
use Rattle.price_climb.proofs.table.columns_of.Given as goal

abbrev pub invariant-loop-i : goal.invariant-loop-i
invariant-loop-i l = record {
  from : l.from ≡ places_to l.area l.i;
  few : l.from ≤ l.i * 16;
  columns : AreColumns l.job l.area l.row l.i l.columns.items;
}
