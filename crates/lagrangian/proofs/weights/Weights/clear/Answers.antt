use Rattle.std.proofs.Common.{◌∙◌, arith}
use Rattle.std.proofs.lemmas.List.{length-set}
use Rattle.lagrangian.proofs.Weighing.{sum_changed}
use Rattle.lagrangian.proofs.weights.Weights.clear.Goals as goal

pub invariant_of-self : goal.invariant_of-self
invariant_of-self c =
    let s = sum_changed c.self.inside.items c.args.at 0 (omega arith) in
    record { count = length-set c.self.inside.items c.args.at 0 ∙ c.self.invariant.count; within = omega arith }
