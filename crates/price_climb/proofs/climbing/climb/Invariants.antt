use Rattle.std.proofs.Common.{◌≡◌, ◌+ℤ◌, ◌≤ℤ◌, pos}
use Rattle.bound_tree.specs.Value.{value}
use Rattle.price_climb.proofs.climbing.climb.Given as goal

abbrev pub invariant-loop-round : goal.invariant-loop-round
invariant-loop-round l = record {
  job : l.table.job ≡ l.job;
  area : l.table.area ≡ l.area;
  risen : (value l.job l.area l.fn.row +ℤ pos l._round) ≤ℤ value l.job l.area l.table.row;
}
