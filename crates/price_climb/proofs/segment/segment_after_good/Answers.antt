use Rattle.std.proofs.Common.{refl, ap, sym, ◌∙◌, arith}
use Rattle.std.proofs.lemmas.Int.{ints, to_z-of_z}
use mir.Syntax.{w64}
use Rattle.tqd_instance.specs.Job.{price}
use Rattle.bound_tree.specs.Prices.{price_at, segment_price}
use Rattle.bound_tree.proofs.PriceReads.{price_fits, units_are}
use Rattle.price_climb.proofs.PriceLists.{read_back, read_in}
use Rattle.price_climb.proofs.Bounds.{segment_within}
use Rattle.price_climb.proofs.Fitting.{supplier_few, places_few, place_in_row}
use Rattle.price_climb.proofs.Moves.{segment_moves, segment_price-is, saving_is}
use Rattle.price_climb.proofs.segment.segment_after_good.Goals as goal

pub place_of-requires-clause-supplier : goal.place_of-requires-clause-supplier
place_of-requires-clause-supplier c = supplier_few c.args.job.now c.args.i c.requires.supplier

pub place_of-requires-clause-few : goal.place_of-requires-clause-few
place_of-requires-clause-few c = omega (arith, c.requires.from, places_few c.args.job.now c.args.area.now c.args.i c.requires.fitting.of_job c.requires.supplier)

pub place-place-requires : goal.place-place-requires
place-place-requires c =
    omega (arith, c.place_of.ensures, place_in_row c.args.job.now c.args.area.now c.args.row.now c.args.i c.args.j c.requires.fitting.fits c.requires.supplier c.requires.some c.requires.segment)

pub saving-old-requires-clause-good : goal.saving-old-requires-clause-good
saving-old-requires-clause-good c = read_in c.good.result c.args.row.now.goods c.args.change.place c.requires.fitting.fits.good_prices c.good.ensures

pub saving-old-requires-clause-place : goal.saving-old-requires-clause-place
saving-old-requires-clause-place c = read_in c.place-place.result c.args.row.now.places c.place_of.result c.requires.fitting.fits.place_prices c.place-place.ensures

pub saving-new-requires-clause-place : goal.saving-new-requires-clause-place
saving-new-requires-clause-place c = read_in c.place-place.result c.args.row.now.places c.place_of.result c.requires.fitting.fits.place_prices c.place-place.ensures

pub moved-requires-clause-not_less : goal.moved-requires-clause-not_less
moved-requires-clause-not_less c =
    omega (arith, ints, c.requires.value, (segment_within c.args.job.now c.args.area.now c.args.row.now c.args.i c.args.j c.requires.fitting.of_job c.requires.fitting.fits c.requires.supplier c.requires.segment).not_less)

pub moved-requires-clause-not_more : goal.moved-requires-clause-not_more
moved-requires-clause-not_more c =
    omega (arith, ints, c.requires.value, (segment_within c.args.job.now c.args.area.now c.args.row.now c.args.i c.args.j c.requires.fitting.of_job c.requires.fitting.fits c.requires.supplier c.requires.segment).not_more)

pub returns : goal.returns
returns c =
    let job = c.args.job.now in
    let area = c.args.area.now in
    let row = c.args.row.now in
    let i = c.args.i in
    let j = c.args.j in
    let k = c.args.change.place in
    let units = units_are job i k c.stock.result c.most.result c.min-units.result c.min-units.result c.stock.ensures.value c.most.ensures.value c.min-units.ensures refl in
    let h = read_back c.place-place.result row.places c.place_of.result c.requires.fitting.fits.place_prices c.place-place.ensures
    ∙ ap (price_at row.places) c.place_of.ensures ∙ sym (segment_price-is area row i j) in
    let g = read_back c.good.result row.goods k c.requires.fitting.fits.good_prices c.good.ensures in
    let p = to_z-of_z w64 c.args.change.price (price_fits c.args.change.price c.requires.price) in
    let saved = saving_is c.saving-old.result c.price-charge.result (price job i j k) _ _ (price_at row.goods k) (segment_price area row i j) c.price-charge.ensures.value g h c.saving-old.ensures.value in
    let saves = saving_is c.saving-new.result c.price-charge.result (price job i j k) _ _ c.args.change.price (segment_price area row i j) c.price-charge.ensures.value p h c.saving-new.ensures.value in
    let moves = segment_moves job area row i j k c.min-units.result c.saving-old.result c.saving-new.result c.args.change.price
    c.requires.fitting.fits.goods c.requires.good c.requires.some units saved saves in
    omega (arith, ints, c.moved.ensures, c.requires.value)
