use Rattle.std.proofs.Common.{◌≡◌, length}
use Rattle.bound_tree.specs.Value.{cap}
use Rattle.lagrangian.specs.Priced.{level_of}
use Rattle.lagrangian.proofs.Filled.{IsFilledTo}
use Rattle.lagrangian.proofs.fill.fill_to.Given as goal

abbrev pub invariant-loop-k : goal.invariant-loop-k
invariant-loop-k l = record {
  len : length l.units ≡ length l.fn.units;
  filled : IsFilledTo l.k (level_of l.job l.good_prices l.i l.j) (cap l.job l.i) l.top l.spare-2 l.spare l.units;
}
