use Rattle.std.proofs.Common.{◌∙◌, arith}
use Rattle.std.proofs.lemmas.List.{length-set}
use Rattle.lagrangian.proofs.Weighing.{sum_changed, set_elsewhere}
use Rattle.lagrangian.proofs.weights.Weights.scale.Goals as goal

pub loop-at-preserved : goal.loop-at-preserved
loop-at-preserved c =
    let i = c.loop-at.invariant in
    let w = c.min-weight.result in
    let s = sum_changed c.loop-at.scaled c.loop-at.at w (omega arith) in
    let z = i.unset c.loop-at.at (omega arith) in
    record {
      count = length-set c.loop-at.scaled c.loop-at.at w ∙ i.count;
      whole = omega (arith, c.min-weight.ensures);
      unset = λ k h. set_elsewhere c.loop-at.scaled c.loop-at.at w k (omega arith) ∙ i.unset k (omega arith);
    }
