use Rattle.std.proofs.Common.{arith}
use Rattle.tqd_instance.proofs.Jobs.{job_in_range}
use Rattle.branching.proofs.totals.keeps_total.Goals as goal

pub low_of-requires : goal.low_of-requires
low_of-requires c = omega (arith, (job_in_range c.args.job.now).few_suppliers)

pub high_of-requires : goal.high_of-requires
high_of-requires c = omega (arith, (job_in_range c.args.job.now).few_suppliers)
