use Rattle.tqd_instance.proofs.FromsExist.{job_one}
use Rattle.tqd_instance.proofs.laws.parts_describe_one_job.Goals as goal

pub returns : goal.returns
returns c = λ formed a b of_a of_b. job_one c.args._parts.now a b formed of_a of_b
