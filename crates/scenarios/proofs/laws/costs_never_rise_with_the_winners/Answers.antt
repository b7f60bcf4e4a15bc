use Rattle.scenarios.proofs.Tables.{table_never_rises}
use Rattle.scenarios.proofs.laws.costs_never_rise_with_the_winners.Goals as goal

pub returns : goal.returns
returns c = table_never_rises c.args._job.now
