use Rattle.tqd_instance.proofs.Picks.{picks_where_it_lies}
use Rattle.tqd_instance.proofs.laws.total_picks_where_it_lies.Goals as goal

pub returns : goal.returns
returns c = picks_where_it_lies c.args._job.now
