use Rattle.scenarios.proofs.Tables.{are_costs}
use Rattle.scenarios.proofs.shared.solve_all.Goals as goal

pub returns : goal.returns
returns g c = are_costs c.args.jobs.now c.in_ok-costs.costs.items c.of.result c.of.ensures c.in_ok-costs.ensures.count c.in_ok-costs.ensures.each
