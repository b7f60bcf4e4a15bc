use Rattle.std.proofs.Common.{ℕ, length, ap, sym, arith}
use Rattle.tqd_instance.specs.Plan.{units}
use Rattle.bound_tree.specs.TreeText.{buy_line, units_line}
use Rattle.bound_tree.proofs.TreeLines.{lines_to-zero}
use Rattle.bound_tree.proofs.WritingLines.{count_more, length_none, length_some}
use Rattle.bound_tree.proofs.write.supplier_buy_count.Goals as goal
use Rattle.bound_tree.proofs.write.supplier_buy_count.Goals.{then-get-ne0, else-get-ne0}

pub loop-k-init : goal.loop-k-init
loop-k-init c = record { counted = sym (ap length (lines_to-zero _)); few = omega arith }

pub loop-k-preserved : goal.loop-k-preserved
loop-k-preserved c =
    let f = buy_line (units c.args.plan.now) c.args.i in
    let e = count_more c.loop-k.k f in
    let same = ap (λ (n : ℕ). length (units_line c.args.i c.loop-k.k n)) c.get.ensures.value in
    elim c.if-get-ne0.branch [
      | then-get-ne0 w ↦ let one = length_some c.args.i c.loop-k.k c.get.result w.if-get-ne0.true in
          record { counted = omega (arith, w.count-is, c.loop-k.invariant.counted, e, same, one); few = omega (arith, w.count-is, c.loop-k.invariant.few) }
      | else-get-ne0 w ↦ let none = length_none c.args.i c.loop-k.k c.get.result w.if-get-ne0.false in
          record { counted = omega (arith, w.count-is, c.loop-k.invariant.counted, e, same, none); few = omega (arith, w.count-is, c.loop-k.invariant.few) }
    ]
