use Rattle.std.proofs.Common.{◌≢◌, ◌-◌, ◌≤◌, sym, arith}
use Rattle.std.proofs.lemmas.Int.{ints, to_z-of_z}
use mir.Syntax.{w64}
use Rattle.tqd_instance.specs.Job.{goods}
use Rattle.bound_tree.specs.Prices.{place_of}
use Rattle.bound_tree.proofs.PriceReads.{price_fits}
use Rattle.price_climb.proofs.PriceLists.{place_within}
use Rattle.price_climb.proofs.Fitting.{supplier_few, places_few}
use Rattle.price_climb.proofs.Moves.{segment_zero, segment_stays, segment_priced, priced_is}
use Rattle.price_climb.proofs.segment.segment_after.Goals as goal

pub place_of-requires-clause-supplier : goal.place_of-requires-clause-supplier
place_of-requires-clause-supplier c = supplier_few c.args.job.now c.args.i c.requires.supplier

pub place_of-requires-clause-few : goal.place_of-requires-clause-few
place_of-requires-clause-few c = omega (arith, c.requires.from, places_few c.args.job.now c.args.area.now c.args.i c.requires.fitting.of_job c.requires.supplier)

pub returns-then-j-eq0 : goal.returns-then-j-eq0
returns-then-j-eq0 c = sym (segment_zero c.args.job.now c.args.area.now _ c.args.i c.args.j c.if-j-eq0.true)

pub returns-then-change-goods-2 : goal.returns-then-change-goods-2
returns-then-change-goods-2 c =
    let other : c.args.change.place - goods c.args.job.now ≢ place_of c.args.area.now c.args.i c.args.j = λ e. omega (arith, c.if-change-goods-2.true, c.goods-2.ensures.value, c.place_of.ensures) in
    omega (
      arith,
      ints,
      c.requires.value,
      segment_stays c.args.job.now c.args.area.now c.args.row.now c.args.i c.args.j c.args.change.place c.args.change.price
          c.requires.fitting.fits.goods (omega (arith, c.goods.ensures.value)) other,
    )

pub returns : goal.returns
returns c =
    let job = c.args.job.now in
    let row = c.args.row.now in
    let n = c.args.change.place in
    let p = c.args.change.price in
    let from : goods job ≤ n = omega (arith, c.goods.ensures.value) in
    let read = priced_is job c.args.i c.args.j c.goods-3.result.now row.goods _ p c.segment_value.result c.goods-3.ensures (to_z-of_z w64 p (price_fits p c.requires.price)) c.segment_value.ensures.value in
    let is = segment_priced job c.args.area.now row c.args.i c.args.j n p c.requires.fitting.fits.goods from
    (omega (arith, c.if-change-goods-2.false, c.goods-2.ensures.value, c.place_of.ensures))
    (place_within job c.args.area.now row n c.requires.fitting.fits c.requires.place from) in
    omega (arith, ints)
