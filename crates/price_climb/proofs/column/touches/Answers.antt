use Rattle.std.proofs.Common.{arith}
use Rattle.bound_tree.proofs.BoxPlaces.{count_few}
use Rattle.price_climb.proofs.Fitting.{supplier_few}
use Rattle.price_climb.proofs.column.touches.Goals as goal

pub count_of-requires-clause-supplier : goal.count_of-requires-clause-supplier
count_of-requires-clause-supplier c = supplier_few c.args.job.now c.args.i c.requires.supplier

pub overflow_add-result : goal.overflow_add-result
overflow_add-result c = omega (arith, c.count_of.ensures, c.requires.few, count_few c.args.job.now c.args.area.now c.requires.fitting c.args.i c.requires.supplier)
