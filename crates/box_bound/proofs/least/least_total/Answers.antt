use Rattle.std.proofs.Common.{ap, sym, arith}
use Rattle.tqd_instance.specs.Job.{low}
use Rattle.box_bound.specs.Relaxed.{least_total}
use Rattle.box_bound.proofs.Ranges.{totals_are, least_total-none, supplier_few}
use Rattle.box_bound.proofs.least.least_total.Goals as goal

pub low_of-requires : goal.low_of-requires
low_of-requires c = supplier_few c.args.job.now c.args.i c.requires.supplier

pub returns-in-0-clause-value : goal.returns-in-0-clause-value
returns-in-0-clause-value c = sym (least_total-none c.args.job.now c.args.area.now c.args.i c.requires.supplier (omega (arith, c.in-0.is, c.low_of.ensures)))

pub returns-in_default-clause-ordered : goal.returns-in_default-clause-ordered
unfolding least_total
returns-in_default-clause-ordered c =
    omega (
      arith,
      (totals_are c.args.job.now c.args.area.now c.args.i c.requires.supplier c.requires.range).ordered,
      c.low.ensures.value,
      ap (low c.args.job.now c.args.i) c.low_of.ensures,
    )
