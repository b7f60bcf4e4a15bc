use Rattle.std.proofs.Common.{◌≡◌, ap, length, arith}
use Rattle.std.proofs.lemmas.Int.{ints}
use Rattle.price_climb.specs.Columns.{segment_in}
use Rattle.price_climb.proofs.Fitting.{supplier_few, places_few, place_in_row, segment_last, segment_read}
use Rattle.price_climb.proofs.segment.segment_in.Goals as goal

pub place_of-at-requires-clause-supplier : goal.place_of-at-requires-clause-supplier
place_of-at-requires-clause-supplier c = supplier_few c.args.job.now c.args.i c.requires.supplier

pub place_of-at-requires-clause-few : goal.place_of-at-requires-clause-few
place_of-at-requires-clause-few c = omega (arith, c.requires.from, places_few c.args.job.now c.args.area.now c.args.i c.requires.fitting.of_job c.requires.supplier)

pub segment_value-requires-clause-segment : goal.segment_value-requires-clause-segment
segment_value-requires-clause-segment c = segment_last c.args.job.now c.args.area.now c.args.i c.args.j c.requires.fitting.of_job c.requires.supplier c.requires.segment

pub segment_value-requires-clause-place : goal.segment_value-requires-clause-place
segment_value-requires-clause-place c = λ some.
    omega (
      arith,
      c.place_of-at.ensures,
      ap length c.places.ensures,
      place_in_row c.args.job.now c.args.area.now c.args.row.now c.args.i c.args.j c.requires.fitting.fits c.requires.supplier some c.requires.segment,
    )

pub returns : goal.returns
returns c =
    let is : c.segment_value.result ≡ segment_in c.args.job.now c.args.area.now c.args.row.now c.args.i c.args.j =
    segment_read c.args.job.now c.args.area.now c.args.row.now c.args.i c.args.j c.place_of-at.result c.goods.result.now c.places.result.now c.segment_value.result
    c.goods.ensures c.places.ensures c.place_of-at.ensures c.segment_value.ensures.value in
    omega (arith, ints)
