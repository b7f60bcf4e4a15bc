-- A total above 0 does not lie in segment 0.
use Rattle.std.proofs.Common.{ℕ, zero, suc, ◌≡◌, ◌<◌, ◌≤◌, Some, arith, sym, ◌∙◌}
use Rattle.tqd_instance.specs.declared.job.Job.{Job}
use Rattle.tqd_instance.specs.Job.{suppliers, pick}
use Rattle.tqd_instance.proofs.Jobs.{job_in_range}
use Rattle.tqd_instance.proofs.Picks.{picks_where_it_lies}
use Rattle.plan_report.proofs.plan.segment_of.Goals as goal

some_pick : (job : Job) (i units j : ℕ) → i < suppliers job → 1 ≤ units → pick job i units ≡ Some j → 1 ≤ j
some_pick job i units zero below some e =
    let lies = ((picks_where_it_lies job i units below).some 0).0 e in
    omega (arith, lies.to_high, ((job_in_range job).each_supplier i below).nothing_high)
some_pick job i units (suc j) below some e = omega arith

pub returns-clause-some : goal.returns-clause-some
returns-clause-some c = some_pick c.args.job.now c.args.i c.args.total _ c.requires.supplier c.requires.some (sym c.pick.ensures.value ∙ c.unwrap.ensures)
