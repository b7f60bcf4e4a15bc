use Rattle.std.proofs.Common.{◌≡◌, length}
use Rattle.tqd_instance.specs.Job.{goods}
use Rattle.box_bound.specs.BoxNet.{HasOffers}
use Rattle.box_bound.proofs.net.add_offers.Given as goal

abbrev pub invariant-loop-i : goal.invariant-loop-i
invariant-loop-i l = record {
  offers : HasOffers l.job l.area l.fn.net l.net l.i;
  prices : length l.prices ≡ goods l.job;
}
