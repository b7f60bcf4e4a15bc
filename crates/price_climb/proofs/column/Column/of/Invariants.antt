use Rattle.std.proofs.Common.{◌+◌, ◌-◌}
use Rattle.price_climb.specs.Columns.{segment_in, Keeps}
use Rattle.price_climb.proofs.column.Column.of.Given as goal

abbrev pub invariant-loop-j : goal.invariant-loop-j
invariant-loop-j l = Keeps l.low (l.j - (l.low + 1)) (segment_in l.job l.area l.row l.i) l.column
