use Rattle.std.proofs.Common.{arith, ap}
use Rattle.tqd_instance.specs.Job.{low}
use Rattle.tqd_instance.proofs.Jobs.{job_in_range}
use Rattle.branching.proofs.totals.low.Goals as goal

pub returns-then-j-eq0 : goal.returns-then-j-eq0
returns-then-j-eq0 c =
    omega (arith, ap (low c.args.job.now c.args.i) c.if-j-eq0.true, ((job_in_range c.args.job.now).each_supplier c.args.i c.requires.supplier).nothing_low)
