use Rattle.std.proofs.Common.{arith}
use Rattle.lagrangian.proofs.Repairs.{supplier_few, range_few}
use Rattle.lagrangian.proofs.swap.best_of.Goals as goal

pub low_of-j-requires : goal.low_of-j-requires
low_of-j-requires c = supplier_few c.args.job.now c.args.i c.requires.supplier

pub high_of-j-end-requires : goal.high_of-j-end-requires
high_of-j-end-requires c = supplier_few c.args.job.now c.args.i c.requires.supplier

pub overflow_add-j-end : goal.overflow_add-j-end
overflow_add-j-end c = omega (arith, range_few c.args.job.now c.args.area.now c.args.i c.high_of-j-end.result c.requires.of_job c.requires.supplier c.high_of-j-end.ensures)

pub cost-requires-clause-pick : goal.cost-requires-clause-pick
cost-requires-clause-pick c = omega (arith, c.requires.pick.to_high, range_few c.args.job.now c.args.area.now c.args.i c.high_of-j-end.result c.requires.of_job c.requires.supplier c.high_of-j-end.ensures, c.high_of-j-end.ensures)

pub cost-requires-clause-segment : goal.cost-requires-clause-segment
cost-requires-clause-segment c = omega (arith, c.loop-j-test.true, range_few c.args.job.now c.args.area.now c.args.i c.high_of-j-end.result c.requires.of_job c.requires.supplier c.high_of-j-end.ensures)
