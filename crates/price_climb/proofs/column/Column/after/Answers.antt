use Rattle.std.proofs.Common.{arith}
use Rattle.std.proofs.lemmas.Int.{ints}
use Rattle.price_climb.specs.PriceList.{with_price}
use Rattle.price_climb.specs.Columns.{segment_in}
use Rattle.price_climb.proofs.Fitting.{supplier_few, places_few, low_read, high_read}
use Rattle.price_climb.proofs.Columns.{keeps_first}
use Rattle.price_climb.proofs.Untouched.{column_stays}
use Rattle.price_climb.proofs.column.Column.after.Goals as goal

pub touches-requires-clause-few : goal.touches-requires-clause-few
touches-requires-clause-few c = omega (arith, c.requires.from, places_few c.args.job.now c.args.area.now c.args.i c.requires.fitting.of_job c.requires.supplier)

pub returns-then-not-touches : goal.returns-then-not-touches
returns-then-not-touches c =
    column_stays c.args.job.now c.args.area.now c.args.row.now c.args.i c.args.change.place c.args.change.price c.args.self.now c.requires.fitting c.requires.supplier
    (λ t. (let x = c.if-not-touches.ensures.1 t in absurd (cc))) c.requires.column

pub low_of-low-requires : goal.low_of-low-requires
low_of-low-requires c = supplier_few c.args.job.now c.args.i c.requires.supplier

pub high_of-high-requires : goal.high_of-high-requires
high_of-high-requires c = supplier_few c.args.job.now c.args.i c.requires.supplier

pub value-requires : goal.value-requires
value-requires c = low_read c.args.job.now c.args.area.now c.args.i c.low_of-low.result c.requires.fitting.of_job c.requires.supplier c.low_of-low.ensures

pub first-column-requires : goal.first-column-requires
first-column-requires c = low_read c.args.job.now c.args.area.now c.args.i c.low_of-low.result c.requires.fitting.of_job c.requires.supplier c.low_of-low.ensures

pub overflow_step-j : goal.overflow_step-j
overflow_step-j c = omega (arith, low_read c.args.job.now c.args.area.now c.args.i c.low_of-low.result c.requires.fitting.of_job c.requires.supplier c.low_of-low.ensures)

pub overflow_add-j-end : goal.overflow_add-j-end
overflow_add-j-end c = omega (arith, high_read c.args.job.now c.args.area.now c.args.i c.high_of-high.result c.requires.fitting.of_job c.requires.supplier c.high_of-high.ensures)

pub loop-j-init : goal.loop-j-init
loop-j-init c =
    let f = segment_in c.args.job.now c.args.area.now (with_price c.args.job.now c.args.row.now c.args.change.place c.args.change.price) c.args.i in
    keeps_first c.low_of-low.result f c.first-column.result (c.first-column.ensures f (omega (arith, ints, c.segment_after-first.ensures)))

pub value-requires-in-loop-j : goal.value-requires-in-loop-j
value-requires-in-loop-j c = omega (arith, c.loop-j-test.true, high_read c.args.job.now c.args.area.now c.args.i c.high_of-high.result c.requires.fitting.of_job c.requires.supplier c.high_of-high.ensures)

pub add-requires : goal.add-requires
add-requires c = omega (arith, c.loop-j-test.true, high_read c.args.job.now c.args.area.now c.args.i c.high_of-high.result c.requires.fitting.of_job c.requires.supplier c.high_of-high.ensures)
