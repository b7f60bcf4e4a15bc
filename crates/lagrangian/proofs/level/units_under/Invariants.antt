use Rattle.std.proofs.Common.{◌≡◌, ◌*◌, ◌≤◌, take}
use Rattle.lagrangian.specs.Levels.{units_under}
use Rattle.lagrangian.proofs.level.units_under.Given as goal

abbrev pub invariant-loop-offer : goal.invariant-loop-offer
invariant-loop-offer l = record {
  is_sum : l.units ≡ units_under l.top (take l.offer-index l.offers);
  few : l.units ≤ l.offer-index * 100000000;
}
