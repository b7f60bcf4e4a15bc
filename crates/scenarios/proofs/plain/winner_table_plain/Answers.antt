use Rattle.scenarios.proofs.Tables.{is_winner_table}
use Rattle.scenarios.proofs.plain.winner_table_plain.Goals as goal

pub returns : goal.returns
returns g c = is_winner_table c.args.job.now c.in_ok-costs.costs.items c.of.result c.of.ensures c.in_ok-costs.ensures.count c.in_ok-costs.ensures.each
