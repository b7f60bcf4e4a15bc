use Rattle.std.proofs.Common.{◌≤◌}
use Rattle.tqd_base.specs.declared.limits.TheConstants.{PRICE_MAX}
use Rattle.tqd_instance.specs.Job.{price}
use Rattle.branching.proofs.LeastPrices.{IsLeastBelow}
use Rattle.branching.proofs.gap.relaxed_price.Given as goal

abbrev pub invariant-loop-j : goal.invariant-loop-j
invariant-loop-j l = record {
  is_least : IsLeastBelow (λ j. price l.job l.i j l.k) l.first l.j l.least;
  within : l.least ≤ PRICE_MAX;
}
