use Rattle.std.proofs.Common.{◌≡◌, ℕ, length, ap, sym, ◌∙◌, arith}
use Rattle.tqd_instance.specs.Job.{goods, suppliers}
use Rattle.tqd_instance.specs.Plan.{units}
use Rattle.bound_tree.specs.TreeText.{lines_to, buy_line}
use Rattle.bound_tree.proofs.TreeLines.{lines_to-zero}
use Rattle.bound_tree.proofs.WritingLines.{count_more, buys_of}
use Rattle.bound_tree.proofs.write.buy_count.Goals as goal

pub loop-i-init : goal.loop-i-init
loop-i-init c = record { counted = sym (ap length (lines_to-zero _)); few = omega arith }

pub loop-i-preserved : goal.loop-i-preserved
loop-i-preserved c =
    let e = count_more c.loop-i.i (λ i. lines_to (goods c.args.job.now) (buy_line (units c.args.plan.now) i)) in
    record {
      counted = omega (arith, c.loop-i.invariant.counted, c.supplier_buy_count-count.ensures.value, e);
      few = omega (arith, c.loop-i.invariant.few, c.supplier_buy_count-count.ensures.few);
    }

pub returns-clause-value : goal.returns-clause-value
returns-clause-value c =
    let last : c.loop-i.i ≡ suppliers c.args.job.now = omega (arith, c.loop-i-test.false, c.loop-i.auto.i-end, c.suppliers-i-end.ensures.value) in
    c.loop-i.invariant.counted ∙ (ap (λ (n : ℕ). length (lines_to n (λ i. lines_to (goods c.args.job.now) (buy_line (units c.args.plan.now) i)))) last
    ∙ ap length (sym (buys_of c.args.job.now (units c.args.plan.now))))
