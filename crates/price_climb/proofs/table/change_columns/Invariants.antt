use Rattle.std.proofs.Common.{◌≡◌, ◌*◌, ◌≤◌}
use Rattle.bound_tree.specs.Prices.{places_to}
use Rattle.price_climb.specs.PriceList.{with_price}
use Rattle.price_climb.proofs.Untouched.{AreChanged}
use Rattle.price_climb.proofs.table.change_columns.Given as goal

abbrev pub invariant-loop-i : goal.invariant-loop-i
invariant-loop-i l = record {
  from : l.from ≡ places_to l.area l.i;
  few : l.from ≤ l.i * 16;
  columns : AreChanged l.job l.area l.row (with_price l.job l.row l.change.place l.change.price) l.i l.columns;
}
