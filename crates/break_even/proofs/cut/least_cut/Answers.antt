use Rattle.break_even.proofs.Cuts.{least_found, none_found}
use Rattle.break_even.proofs.cut.least_cut.Goals as goal

pub returns-in-None : goal.returns-in-None
returns-in-None g c = (
  least_found c.args.job.now c.in_ok-before.field-0 c.in-Some.before c.in_ok-before.ensures c.in-Some.is,
  none_found c.args.job.now c.args.i c.in-Some.before 1000 c.in_ok-after.field-0 c.in_ok-after.ensures c.in-None.is,
)
