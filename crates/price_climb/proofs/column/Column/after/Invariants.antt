use Rattle.std.proofs.Common.{◌+◌, ◌-◌}
use Rattle.price_climb.specs.PriceList.{with_price}
use Rattle.price_climb.specs.Columns.{segment_in, Keeps}
use Rattle.price_climb.proofs.column.Column.after.Given as goal

abbrev pub invariant-loop-j : goal.invariant-loop-j
invariant-loop-j l = Keeps l.low (l.j - (l.low + 1)) (segment_in l.job l.area (with_price l.job l.row l.change.place l.change.price) l.i) l.column
