use Rattle.std.proofs.Common.{◌≡◌, ◌≤◌, ◌*◌, take, sum, get_or}
use Rattle.tqd_base.specs.Sum.{sum_to}
use Rattle.tqd_base.specs.declared.limits.TheConstants.{QTY_MAX}
use Rattle.lagrangian.specs.declared.weights.TheConstants.{WHOLE}
use Rattle.lagrangian.specs.Columns.{units_at}
use Rattle.lagrangian.proofs.columns.Columns.weighted.Given as goal

abbrev pub invariant-loop-at : goal.invariant-loop-at
invariant-loop-at l = record {
  value : l.sum ≡ sum_to l.at (units_at l.self l.k);
  part : l.sum ≤ get_or l.self.caps l.k 0 * sum (take l.at l.self.weights);
  within : l.sum ≤ get_or l.self.caps l.k 0 * WHOLE;
  small : l.sum ≤ QTY_MAX * WHOLE;
}
