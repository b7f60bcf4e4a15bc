use Rattle.std.proofs.Common.{arith}
use Rattle.std.proofs.lemmas.Int.{ints}
use Rattle.price_climb.specs.Columns.{segment_in}
use Rattle.price_climb.proofs.Fitting.{supplier_few, low_read, high_read}
use Rattle.price_climb.proofs.Columns.{keeps_first}
use Rattle.price_climb.proofs.column.Column.of.Goals as goal

pub low_of-low-requires : goal.low_of-low-requires
low_of-low-requires c = supplier_few c.args.job.now c.args.i c.requires.supplier

pub high_of-high-requires : goal.high_of-high-requires
high_of-high-requires c = supplier_few c.args.job.now c.args.i c.requires.supplier

pub first-column-requires : goal.first-column-requires
first-column-requires c = low_read c.args.job.now c.args.area.now c.args.i c.low_of-low.result c.requires.fitting.of_job c.requires.supplier c.low_of-low.ensures

pub overflow_step-j : goal.overflow_step-j
overflow_step-j c = omega (arith, low_read c.args.job.now c.args.area.now c.args.i c.low_of-low.result c.requires.fitting.of_job c.requires.supplier c.low_of-low.ensures)

pub overflow_add-j-end : goal.overflow_add-j-end
overflow_add-j-end c = omega (arith, high_read c.args.job.now c.args.area.now c.args.i c.high_of-high.result c.requires.fitting.of_job c.requires.supplier c.high_of-high.ensures)

pub loop-j-init : goal.loop-j-init
loop-j-init c = keeps_first c.low_of-low.result (segment_in c.args.job.now c.args.area.now c.args.row.now c.args.i) c.first-column.result
    (c.first-column.ensures (segment_in c.args.job.now c.args.area.now c.args.row.now c.args.i) (omega (arith, ints, c.segment_in.ensures)))

pub add-requires : goal.add-requires
add-requires c = omega (arith, c.loop-j-test.true, high_read c.args.job.now c.args.area.now c.args.i c.high_of-high.result c.requires.fitting.of_job c.requires.supplier c.high_of-high.ensures)
