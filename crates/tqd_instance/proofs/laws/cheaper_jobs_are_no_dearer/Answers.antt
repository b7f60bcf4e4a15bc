use Rattle.tqd_instance.proofs.Cheaper.{cheaper_no_dearer}
use Rattle.tqd_instance.proofs.laws.cheaper_jobs_are_no_dearer.Goals as goal

pub returns : goal.returns
returns c = cheaper_no_dearer
