use Rattle.std.proofs.Common.{sym, arith}
use Rattle.box_bound.proofs.Ranges.{greatest_total-none, supplier_few}
use Rattle.box_bound.proofs.least.greatest_total.Goals as goal

pub high_of-requires : goal.high_of-requires
high_of-requires c = supplier_few c.args.job.now c.args.i c.requires.supplier

pub returns-in-0-clause-value : goal.returns-in-0-clause-value
returns-in-0-clause-value c = sym (greatest_total-none c.args.job.now c.args.area.now c.args.i c.requires.supplier (omega (arith, c.in-0.is, c.high_of.ensures)))
