use Rattle.std.proofs.Common.{arith}
use Rattle.tqd_instance.proofs.SumLemmas.{sum_to-more}
use Rattle.box_bound.specs.Relaxed.{sure_fee}
use Rattle.box_bound.proofs.LeastPrices.{sure_fee-none, sure_fee-some}
use Rattle.box_bound.proofs.flow.sure_fees.Goals.{then-low_of-ne0, else-low_of-ne0}
use Rattle.box_bound.proofs.flow.sure_fees.Goals as goal

pub loop-i-preserved : goal.loop-i-preserved
loop-i-preserved c =
    let job = c.args.job.now in
    let area = c.args.area.now in
    let i = c.loop-i.i in
    let inv = c.loop-i.invariant in
    let more = sum_to-more i (sure_fee job area) in
    elim c.if-low_of-ne0.branch [
      | then-low_of-ne0 w ↦
          (let some = sure_fee-some job area i (omega (arith, c.low_of.ensures, w.if-low_of-ne0.true)) in
          record { is_sum = omega (arith, w.fee-sum.ensures.value, w.sum-is); within = omega (arith, w.fee-sum.ensures.within, w.sum-is) })
      | else-low_of-ne0 w ↦
          (let none = sure_fee-none job area i (omega (arith, c.low_of.ensures, w.if-low_of-ne0.false)) in
          record { is_sum = omega (arith, w.sum-is); within = omega (arith, w.sum-is) })
    ]
