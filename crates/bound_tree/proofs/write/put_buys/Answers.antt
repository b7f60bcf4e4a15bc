use Rattle.std.proofs.Common.{ℕ, ap, arith}
use Rattle.tqd_instance.specs.Job.{goods}
use Rattle.tqd_instance.specs.Plan.{units}
use Rattle.bound_tree.specs.TreeText.{lines_to, units_line, buy_line, lines_text}
use Rattle.bound_tree.specs.WriteTree.{WriteGives}
use Rattle.bound_tree.proofs.Writing.{at_err}
use Rattle.bound_tree.proofs.WritingLines.{lines_begin, lines_more, lines_halt}
use Rattle.bound_tree.proofs.write.put_buys.Goals as goal

pub loop-k-init : goal.loop-k-init
loop-k-init g c = lines_begin _ c.args.slot _ c.requires.writes

pub returns-in_err-put_buy : goal.returns-in_err-put_buy
returns-in_err-put_buy g c =
    let f = buy_line (units c.args.plan.now) c.args.i in
    at_err (WriteGives (g.D.Desk.state c.args.desk.now) (g.D.Desk.state c.put_buy.new.desk) c.args.slot (lines_text (lines_to (goods c.args.job.now) f))) _ c.in_err-put_buy.field-0.0 c.from_residual.ensures.1
    (lines_halt (g.D.Desk.state c.args.desk.now) (g.D.Desk.state c.loop-k.desk) (g.D.Desk.state c.put_buy.new.desk) c.args.slot f (goods c.args.job.now) c.loop-k.k (units_line c.args.i c.loop-k.k c.get.result) c.in_err-put_buy.field-0.0
    (omega (arith, c.loop-k-test.true, c.goods-k-end.ensures.value)) (ap (λ (n : ℕ). units_line c.args.i c.loop-k.k n) c.get.ensures.value) c.loop-k.invariant c.in_err-put_buy.ensures)

pub loop-k-preserved : goal.loop-k-preserved
loop-k-preserved g c =
    lines_more (g.D.Desk.state c.args.desk.now) (g.D.Desk.state c.loop-k.desk) (g.D.Desk.state c.put_buy.new.desk) c.args.slot (buy_line (units c.args.plan.now) c.args.i) c.loop-k.k
    (units_line c.args.i c.loop-k.k c.get.result) (ap (λ (n : ℕ). units_line c.args.i c.loop-k.k n) c.get.ensures.value) c.loop-k.invariant c.in_ok-put_buy.ensures
