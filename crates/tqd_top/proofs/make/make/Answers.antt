-- A made job has a least purchase, and the text sums it up.
use Rattle.tqd_top.proofs.Solutions.{summed}
use Rattle.tqd_top.proofs.make.make.Goals as goal

pub returns-clause-text : goal.returns-clause-text
returns-clause-text c =
    summed c.args.seed c.args.goods c.args.suppliers c.in_ok-job.job c.in_ok-done.done.plan (c.in-Some.field-0-0, c.in-Some.cost) _
    c.in_ok-job.ensures.job c.in_ok-done.ensures.solution c.in-Some.is c.in_ok-text.ensures
