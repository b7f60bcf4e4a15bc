use Rattle.std.proofs.Common.{pos, slice_index_or, subst, refl, rules}
use Rattle.std.specs.List.{All}
use Rattle.std.proofs.lemmas.Int.{to_z-of_z}
use Rattle.std.proofs.lemmas.List.{take_all}
use Rattle.std.proofs.lemmas.List.Elements.{All-more}
use mir.Syntax.{w64}
use mir.Val.{SFits}
use Rattle.lagrangian.specs.Priced.{IsGoodPrice}
use Rattle.lagrangian_tests.proofs.pricings.are_good.Goals as goal

pub loop-price-preserved : goal.loop-price-preserved
loop-price-preserved c =
    let prices = c.args.prices.now in
    let at = c.loop-price.price-index in
    let fits : SFits w64 (slice_index_or prices at (pos 0)) = search rules in
    let here : IsGoodPrice (slice_index_or prices at (pos 0)) = subst IsGoodPrice (to_z-of_z w64 (slice_index_or prices at (pos 0)) fits) (c.if-not-is_good.ensures.0 refl) in
    All-more IsGoodPrice prices at (pos 0) c.loop-price-test.true c.loop-price.invariant here

pub returns : goal.returns
returns c =
    let prices = c.args.prices.now in
    let whole = take_all c.loop-price.price-index prices c.loop-price-test.false in
    (λ _. subst (All IsGoodPrice) whole c.loop-price.invariant, λ _. refl)
