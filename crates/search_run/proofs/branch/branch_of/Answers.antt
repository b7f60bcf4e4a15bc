use Rattle.tqd_instance.specs.Plan.{units}
use Rattle.search_run.proofs.Flows.{keeps_totals}
use Rattle.search_run.proofs.branch.branch_of.Goals as goal

pub choose-supplier-requires-clause-totals : goal.choose-supplier-requires-clause-totals
choose-supplier-requires-clause-totals c = keeps_totals c.args.job.now c.args.area.now (units c.args.plan.now) c.requires.flow.1.least.is_relaxed
