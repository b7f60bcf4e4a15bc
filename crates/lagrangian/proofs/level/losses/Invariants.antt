use Rattle.std.proofs.Common.{◌≡◌, ◌*◌, ◌≤◌, take}
use Rattle.lagrangian.specs.Levels.{losses_of}
use Rattle.lagrangian.proofs.level.losses.Given as goal

abbrev pub invariant-loop-offer : goal.invariant-loop-offer
invariant-loop-offer l = record {
  is_sum : l.sum ≡ losses_of l.top (take l.offer-index l.offers);
  few : l.sum ≤ l.offer-index * 800000000000000000000000;
}
