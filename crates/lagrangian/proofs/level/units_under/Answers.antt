use Rattle.std.proofs.Common.{arith}
use Rattle.lagrangian.proofs.OfferSums.{units_under-none, units_under-more}
use Rattle.lagrangian.proofs.level.units_under.Goals as goal

pub loop-offer-init : goal.loop-offer-init
loop-offer-init c = record { is_sum = omega (arith, units_under-none c.args.top); few = omega arith }

pub loop-offer-preserved : goal.loop-offer-preserved
loop-offer-preserved c =
    let o = c.offer-item.result in
    let more = units_under-more c.args.top c.args.offers.now c.loop-offer.offer-index o (omega arith) c.offer-item.is in
    record { is_sum = omega arith; few = omega (arith, o.within) }
