use Rattle.break_even.proofs.Cuts.{gains_from, nothing_from_cost, nothing_from_none}
use Rattle.break_even.proofs.cut.lower_cost.Goals.{in_default-2, in_default}
use Rattle.break_even.proofs.cut.lower_cost.Goals as goal

pub returns-in-Some : goal.returns-in-Some
returns-in-Some g c =
    gains_from c.args.job.now c.in_ok-cheaper.cheaper c.args.i c.args.before c.args.cut c.in-Some.after c.in_ok-after.field-0
    c.in_ok-cheaper.ensures c.in_ok-after.ensures c.in-Some.is c.if-after-before.true

pub returns : goal.returns
returns g c = elim c.match-branch-3.branch [
  | in_default-2 w ↦ rw w.result-is
      (nothing_from_cost c.args.job.now c.in_ok-cheaper.cheaper c.args.i c.args.before c.args.cut w.in-Some.after c.in_ok-after.field-0
      c.in_ok-cheaper.ensures c.in_ok-after.ensures w.in-Some.is w.if-after-before.false)
  | in_default w ↦ rw w.result-is
      (nothing_from_none c.args.job.now c.in_ok-cheaper.cheaper c.args.i c.args.before c.args.cut c.in_ok-after.field-0
      c.in_ok-cheaper.ensures c.in_ok-after.ensures w.in_default.is)
]
