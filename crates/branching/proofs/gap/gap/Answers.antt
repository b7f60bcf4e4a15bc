use Rattle.std.proofs.Common.{◌∙◌, sym}
use Rattle.tqd_instance.specs.Plan.{units}
use Rattle.branching.proofs.Paid.{IsPayable, picked_payable, unpicked_payable, paid_segment-some, paid_segment-none}
use Rattle.branching.proofs.Gaps.{gap-none, gap-at}
use Rattle.branching.proofs.gap.gap.Goals as goal

pub returns-then-total-eq0 : goal.returns-then-total-eq0
returns-then-total-eq0 c =
    sym (gap-none c.args.job.now c.args.area.now (units c.args.plan.now) c.args.i (sym c.total-total.ensures.value ∙ c.if-total-eq0.true))

picked : (c : goal.In-Some) → IsPayable c.args.area.now c.args.i c.in-Some.p
picked c =
    picked_payable c.args.job.now c.args.area.now (units c.args.plan.now) c.args.i c.total-total.result c.in-Some.p c.requires.of_job
    c.requires.wide (c.requires.totals c.args.i c.requires.wide.supplier) c.total-total.ensures.value c.if-total-eq0.false
    (sym c.pick.ensures.value ∙ c.in-Some.is)

pub gap_at-requires-clause-from_first : goal.gap_at-requires-clause-from_first
gap_at-requires-clause-from_first c = (picked c).from_first

pub gap_at-requires-clause-to_last : goal.gap_at-requires-clause-to_last
gap_at-requires-clause-to_last c = (picked c).to_last

unpicked : (c : goal.In-None) → IsPayable c.args.area.now c.args.i 1
unpicked c =
    unpicked_payable c.args.job.now c.args.area.now (units c.args.plan.now) c.args.i c.total-total.result c.requires.of_job
    c.requires.wide (c.requires.totals c.args.i c.requires.wide.supplier) c.total-total.ensures.value (sym c.pick.ensures.value ∙ c.in-None.is)

pub gap_at-requires-in-None-clause-from_first : goal.gap_at-requires-in-None-clause-from_first
gap_at-requires-in-None-clause-from_first c = (unpicked c).from_first

pub gap_at-requires-in-None-clause-to_last : goal.gap_at-requires-in-None-clause-to_last
gap_at-requires-in-None-clause-to_last c = (unpicked c).to_last

pub returns-in-Some : goal.returns-in-Some
returns-in-Some c =
    gap-at c.args.job.now c.args.area.now (units c.args.plan.now) c.args.i c.in-Some.p c.gap_at.result
    (paid_segment-some c.args.job.now (units c.args.plan.now) c.args.i c.total-total.result c.in-Some.p c.total-total.ensures.value
    (sym c.pick.ensures.value ∙ c.in-Some.is)) c.gap_at.ensures

pub returns-in-None : goal.returns-in-None
returns-in-None c =
    gap-at c.args.job.now c.args.area.now (units c.args.plan.now) c.args.i 1 c.gap_at-in-None.result
    (paid_segment-none c.args.job.now (units c.args.plan.now) c.args.i c.total-total.result c.total-total.ensures.value
    (sym c.pick.ensures.value ∙ c.in-None.is)) c.gap_at-in-None.ensures
