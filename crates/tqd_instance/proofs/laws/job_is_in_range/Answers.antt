use Rattle.tqd_instance.proofs.Jobs.{job_in_range}
use Rattle.tqd_instance.proofs.laws.job_is_in_range.Goals as goal

pub returns : goal.returns
returns c = job_in_range c.args._job.now
