use Rattle.std.proofs.Common.{◌≤◌}
use Rattle.tqd_base.specs.declared.limits.TheConstants.{PRICE_MAX}
use Rattle.lagrangian.proofs.first_prices.least_price_at.Given as goal

abbrev pub invariant-loop-j : goal.invariant-loop-j
invariant-loop-j l = l.least ≤ PRICE_MAX
