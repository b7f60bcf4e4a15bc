use Rattle.std.proofs.Common.{◌∙◌, sym, arith}
use Rattle.tqd_instance.specs.Plan.{units}
use Rattle.tqd_instance.proofs.Jobs.{job_in_range}
use Rattle.branching.proofs.Paid.{proper_below, proper_before, proper_none}
use Rattle.branching.proofs.choice.choose.Goals as goal

pub high_of-requires : goal.high_of-requires
high_of-requires c = omega (arith, (job_in_range c.args.job.now).few_suppliers, c.greatest_gap-i.ensures.itself.supplier)

pub returns-then-high_of-p-clause-proper : goal.returns-then-high_of-p-clause-proper
returns-then-high_of-p-clause-proper c =
    proper_before c.args.job.now c.args.area.now (units c.args.plan.now) c.greatest_gap-i.result c.total-total.result c.in-Some.p
    c.requires.of_job c.greatest_gap-i.ensures.itself (c.requires.totals c.greatest_gap-i.result c.greatest_gap-i.ensures.itself.supplier) c.total-total.ensures.value (sym c.pick.ensures.value ∙ c.in-Some.is)
    (omega arith)

pub returns-else-high_of-p-clause-proper : goal.returns-else-high_of-p-clause-proper
returns-else-high_of-p-clause-proper c =
    proper_below c.args.job.now c.args.area.now (units c.args.plan.now) c.greatest_gap-i.result c.total-total.result c.in-Some.p
    c.requires.of_job c.greatest_gap-i.ensures.itself (c.requires.totals c.greatest_gap-i.result c.greatest_gap-i.ensures.itself.supplier) c.total-total.ensures.value (sym c.pick.ensures.value ∙ c.in-Some.is)
    (omega arith)

pub returns-in-None-clause-proper : goal.returns-in-None-clause-proper
returns-in-None-clause-proper c =
    proper_none c.args.job.now c.args.area.now (units c.args.plan.now) c.greatest_gap-i.result c.total-total.result
    c.requires.of_job c.greatest_gap-i.ensures.itself (c.requires.totals c.greatest_gap-i.result c.greatest_gap-i.ensures.itself.supplier) c.total-total.ensures.value (sym c.pick.ensures.value ∙ c.in-None.is)
