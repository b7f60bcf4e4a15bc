use Rattle.std.proofs.Common.{arith}
use Rattle.tqd_instance.proofs.Jobs.{job_in_range}
use Rattle.lagrangian.proofs.swap.gain.Goals as goal

pub offset_bounds-limits-i : goal.offset_bounds-limits-i
offset_bounds-limits-i c = omega (arith, (job_in_range c.args.job.now).few_suppliers)

pub bounds-limits-i : goal.bounds-limits-i
bounds-limits-i c = omega (arith, c.requires.limits.places, (job_in_range c.args.job.now).few_suppliers)

pub offset_bounds-limits-i-in-TooFew : goal.offset_bounds-limits-i-in-TooFew
offset_bounds-limits-i-in-TooFew c = omega (arith, (job_in_range c.args.job.now).few_suppliers)

pub bounds-limits-i-in-TooFew : goal.bounds-limits-i-in-TooFew
bounds-limits-i-in-TooFew c = omega (arith, c.requires.limits.places, (job_in_range c.args.job.now).few_suppliers)
