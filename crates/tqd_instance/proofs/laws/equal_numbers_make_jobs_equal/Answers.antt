use Rattle.tqd_instance.proofs.SameNumbers.{same_numbers}
use Rattle.tqd_instance.proofs.laws.equal_numbers_make_jobs_equal.Goals as goal

pub returns : goal.returns
returns c = same_numbers
