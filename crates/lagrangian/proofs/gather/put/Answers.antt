use Rattle.std.proofs.Common.{ℕ, ◌≡◌, ◌+◌, ◌∙◌, ap, arith, set, take}
use Rattle.std.specs.List.{sum_by}
use Rattle.lagrangian.specs.declared.offer.Offer.{Offer}
use Rattle.lagrangian.proofs.OfferSums.{put_none, put_some}
use Rattle.lagrangian.proofs.gather.put.Goals.{then-offer-eq0, else-offer-eq0}
use Rattle.lagrangian.proofs.gather.put.Goals as goal

pub returns-clause-added : goal.returns-clause-added
returns-clause-added c = λ f none. (
    let sum = λ (n : ℕ). sum_by (λ (o : Offer). f o.level o.cap) (take n (set c.args.offers.now c.args.count c.args.offer)) in
    elim c.if-offer-eq0.branch [
      | then-offer-eq0 w ↦
          (let here : c.args.count + c.if-offer-eq0.more ≡ c.args.count = omega (arith, w.more-is) in
          ap sum here ∙ put_none f c.args.offers.now c.args.count c.args.offer none w.if-offer-eq0.true)
      | else-offer-eq0 w ↦
          (let next : c.args.count + c.if-offer-eq0.more ≡ c.args.count + 1 = omega (arith, w.more-is) in
          ap sum next ∙ put_some f c.args.offers.now c.args.count c.args.offer c.requires)
    ])
