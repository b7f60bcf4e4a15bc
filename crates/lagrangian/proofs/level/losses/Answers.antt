use Rattle.std.proofs.Common.{arith}
use Rattle.std.proofs.lemmas.Nat.{mul-le}
use Rattle.lagrangian.proofs.OfferSums.{losses_of-none, losses_of-more, loss-computed}
use Rattle.lagrangian.proofs.level.losses.Goals as goal

pub loop-offer-init : goal.loop-offer-init
loop-offer-init c = record { is_sum = omega (arith, losses_of-none c.args.top); few = omega arith }

pub loop-offer-preserved : goal.loop-offer-preserved
loop-offer-preserved c =
    let o = c.offer-item.result in
    let more = losses_of-more c.args.top c.args.offers.now c.loop-offer.offer-index o (omega arith) c.offer-item.is in
    let here = loss-computed c.args.top o.level o.cap c.from.result c.from-in-loop-offer.result c.saturating_sub.result c.from.ensures c.saturating_sub.ensures c.from-in-loop-offer.ensures in
    let few = mul-le c.from.result c.from-in-loop-offer.result 100000000 8000000000000000 (omega (arith, o.within)) (omega arith) in
    record { is_sum = omega arith; few = omega arith }
