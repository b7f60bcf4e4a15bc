use Rattle.std.proofs.Common.{arith}
use Rattle.std.proofs.lemmas.Int.{ints, to_z-of_z}
use mir.Syntax.{w64}
use Rattle.tqd_instance.specs.Job.{need, most}
use Rattle.bound_tree.specs.Prices.{price_at}
use Rattle.bound_tree.proofs.PriceReads.{price_fits}
use Rattle.price_climb.proofs.PriceLists.{read_back, read_in}
use Rattle.price_climb.proofs.Bounds.{goods_within}
use Rattle.price_climb.proofs.Moves.{goods_moves, goods_stay, times_are}
use Rattle.price_climb.proofs.segment.goods_after.Goals as goal

pub returns-then-goods-k : goal.returns-then-goods-k
returns-then-goods-k c =
    omega (arith, ints, c.requires.sum, goods_stay c.args.job.now c.args.row.now c.args.change.place c.args.change.price c.requires.fitting.fits.goods (omega arith))

pub least_times-old-requires-clause-price : goal.least_times-old-requires-clause-price
least_times-old-requires-clause-price c = read_in c.good.result c.args.row.now.goods c.args.change.place c.requires.fitting.fits.good_prices c.good.ensures

pub replaced-requires-clause-sum_not_less : goal.replaced-requires-clause-sum_not_less
replaced-requires-clause-sum_not_less c = omega (arith, ints, c.requires.sum, (goods_within c.args.job.now c.args.row.now.goods c.requires.fitting.fits.good_prices).not_less)

pub replaced-requires-clause-sum_not_more : goal.replaced-requires-clause-sum_not_more
replaced-requires-clause-sum_not_more c = omega (arith, ints, c.requires.sum, (goods_within c.args.job.now c.args.row.now.goods c.requires.fitting.fits.good_prices).not_more)

pub returns : goal.returns
returns c =
    let job = c.args.job.now in
    let k = c.args.change.place in
    let g = price_at c.args.row.now.goods k in
    let old = times_are c.least_times-old.result _ g _ _ (need job k) (most job k) (read_back c.good.result c.args.row.now.goods k c.requires.fitting.fits.good_prices c.good.ensures)
    c.need-need.ensures.value c.most-most.ensures.value c.least_times-old.ensures.value in
    let new = times_are c.least_times-new.result _ c.args.change.price _ _ (need job k) (most job k) (to_z-of_z w64 c.args.change.price (price_fits c.args.change.price c.requires.price))
    c.need-need.ensures.value c.most-most.ensures.value c.least_times-new.ensures.value in
    let moves = goods_moves job c.args.row.now k c.args.change.price c.requires.fitting.fits.goods (omega arith) in
    omega (arith, ints, c.replaced.ensures, c.requires.sum)
