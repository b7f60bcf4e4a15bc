use Rattle.std.proofs.Common.{◌≡◌, ◌-◌, sym, subst, ◌∙◌, arith}
use Rattle.tqd_instance.specs.Job.{goods}
use Rattle.bound_tree.specs.Prices.{price_at}
use Rattle.price_climb.proofs.PriceLists.{price_of-good, price_of-place, place_within, read_back, read_in}
use Rattle.price_climb.proofs.prices.price_of.Goals as goal

pub place-requires : goal.place-requires
place-requires c = omega (arith, place_within c.args.job.now c.args._area.now c.args.row.now c.args.place c.requires.fits c.requires.place (omega arith))

pub returns-then-place-goods-clause-value : goal.returns-then-place-goods-clause-value
returns-then-place-goods-clause-value c =
    read_back c.good.result c.args.row.now.goods c.args.place c.requires.fits.good_prices c.good.ensures
    ∙ sym (price_of-good c.args.job.now c.args.row.now c.args.place c.requires.fits.goods (omega arith))

pub returns-then-place-goods-clause-in_range : goal.returns-then-place-goods-clause-in_range
returns-then-place-goods-clause-in_range c = read_in c.good.result c.args.row.now.goods c.args.place c.requires.fits.good_prices c.good.ensures

-- the place among those of the box
at_place : (c : goal.After-place) → c.place.result ≡ price_at c.args.row.now.places (c.args.place - goods c.args.job.now)
at_place c = subst (λ n. c.place.result ≡ price_at c.args.row.now.places (c.args.place - n)) c.goods-goods.ensures.value c.place.ensures

pub returns-else-place-goods-clause-value : goal.returns-else-place-goods-clause-value
returns-else-place-goods-clause-value c =
    read_back c.place.result c.args.row.now.places (c.args.place - goods c.args.job.now) c.requires.fits.place_prices (at_place c)
    ∙ sym (price_of-place c.args.job.now c.args.row.now c.args.place c.requires.fits.goods (omega arith))

pub returns-else-place-goods-clause-in_range : goal.returns-else-place-goods-clause-in_range
returns-else-place-goods-clause-in_range c = read_in c.place.result c.args.row.now.places (c.args.place - goods c.args.job.now) c.requires.fits.place_prices (at_place c)
