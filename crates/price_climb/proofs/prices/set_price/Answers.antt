use Rattle.std.proofs.Common.{◌-◌, ℤ, ℕ, set, sym, ap, ◌∙◌, arith, rules}
use Rattle.std.proofs.lemmas.Int.{to_z-of_z}
use mir.Syntax.{w64}
use mir.Val.{SFits}
use Rattle.price_climb.proofs.PriceLists.{with_price-good, with_price-place, place_within}
use Rattle.price_climb.proofs.prices.set_price.Goals as goal

pub set_place-requires : goal.set_place-requires
set_place-requires c = omega (arith, place_within c.args.job.now c.args._area.now c.args.row.now c.args.change.place c.requires.fits c.requires.place (omega arith))

pub returns-then-change-goods : goal.returns-then-change-goods
returns-then-change-goods c =
    let fits : SFits w64 c.args.change.price = search rules in
    c.set_good.ensures
    ∙ (ap (λ (p : ℤ). record { goods = set c.args.row.now.goods c.args.change.place p; places = c.args.row.now.places }) (to_z-of_z w64 c.args.change.price fits)
    ∙ sym (with_price-good c.args.job.now c.args.row.now c.args.change.place c.args.change.price c.requires.fits.goods (omega arith)))

pub returns-else-change-goods : goal.returns-else-change-goods
returns-else-change-goods c =
    let fits : SFits w64 c.args.change.price = search rules in
    c.set_place.ensures
    ∙ (ap (λ (p : ℤ). record { goods = c.args.row.now.goods; places = set c.args.row.now.places (c.args.change.place - c.goods-goods.result) p }) (to_z-of_z w64 c.args.change.price fits)
    ∙ (ap (λ (n : ℕ). record { goods = c.args.row.now.goods; places = set c.args.row.now.places (c.args.change.place - n) c.args.change.price }) c.goods-goods.ensures.value
    ∙ sym (with_price-place c.args.job.now c.args.row.now c.args.change.place c.args.change.price c.requires.fits.goods (omega arith))))
