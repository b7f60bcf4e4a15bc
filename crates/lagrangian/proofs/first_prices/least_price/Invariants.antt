use Rattle.std.proofs.Common.{◌≤◌}
use Rattle.tqd_base.specs.declared.limits.TheConstants.{PRICE_MAX}
use Rattle.lagrangian.proofs.first_prices.least_price.Given as goal

abbrev pub invariant-loop-i : goal.invariant-loop-i
invariant-loop-i l = l.least ≤ PRICE_MAX
