use Rattle.std.proofs.Common.{◌≡◌, ◌≤◌, take, sum}
use Rattle.tqd_base.specs.Sum.{sum_to}
use Rattle.lagrangian.specs.declared.weights.TheConstants.{WHOLE}
use Rattle.lagrangian.specs.Columns.{weight_at}
use Rattle.lagrangian.proofs.columns.Columns.weight.Given as goal

abbrev pub invariant-loop-at : goal.invariant-loop-at
invariant-loop-at l = record {
  value : l.sum ≡ sum_to l.at (weight_at l.self l.j);
  part : l.sum ≤ sum (take l.at l.self.weights);
  within : l.sum ≤ WHOLE;
}
