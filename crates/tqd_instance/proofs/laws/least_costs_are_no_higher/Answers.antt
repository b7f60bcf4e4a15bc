use Rattle.tqd_instance.proofs.Cheaper.{least_no_higher}
use Rattle.tqd_instance.proofs.laws.least_costs_are_no_higher.Goals as goal

pub returns : goal.returns
returns c = least_no_higher
