use Rattle.std.proofs.Common.{◌≡◌, ◌≤◌, length, take}
use Rattle.bound_tree.specs.Value.{cap}
use Rattle.lagrangian.specs.Levels.{AreOffersOf}
use Rattle.lagrangian.specs.Priced.{level_of}
use Rattle.lagrangian.proofs.gather.gather.Given as goal

abbrev pub invariant-loop-k : goal.invariant-loop-k
invariant-loop-k l = record {
  len : length l.offers ≡ length l.fn.offers;
  few : l.count ≤ l.k;
  gathered : AreOffersOf l.k (level_of l.job l.good_prices l.i l.j) (cap l.job l.i) (take l.count l.offers);
}
