use Rattle.std.proofs.Common.{◌≡◌, ◌≤◌, ◌*◌}
use Rattle.tqd_base.specs.Sum.{sum_to}
use Rattle.tqd_base.specs.declared.limits.TheConstants.{QTY_MAX}
use Rattle.lagrangian.specs.declared.weights.TheConstants.{WHOLE}
use Rattle.lagrangian.specs.Climbing.{weighted_of}
use Rattle.lagrangian.proofs.climb.Climber.weighted_total.Given as goal

abbrev pub invariant-loop-k : goal.invariant-loop-k
invariant-loop-k l = record {
  value : l.sum ≡ sum_to l.k (weighted_of l.self l.i);
  within : l.sum ≤ l.k * (QTY_MAX * WHOLE);
}
