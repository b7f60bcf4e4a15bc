use Rattle.std.proofs.Common.{arith}
use Rattle.tqd_instance.proofs.Jobs.{job_in_range}
use Rattle.branching.proofs.choice.greatest_gap.Goals as goal

pub overflow_step-i : goal.overflow_step-i
overflow_step-i c = omega (arith, (job_in_range c.args.job.now).few_suppliers, c.first_wide-first.ensures.wide.supplier)
