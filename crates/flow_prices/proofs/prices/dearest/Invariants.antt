use Rattle.std.proofs.Common.{◌≡◌, ◌≤◌}
use Rattle.tqd_base.specs.declared.limits.TheConstants.{PRICE_MAX}
use Rattle.mcf_lower.specs.Net.{arc_of}
use Rattle.flow_prices.specs.Prices.{greatest_to}
use Rattle.flow_prices.proofs.prices.dearest.Given as goal

abbrev pub invariant-loop-a : goal.invariant-loop-a
invariant-loop-a l = record {
  is : l.most ≡ greatest_to l.a (λ a. (arc_of l.net a).cost);
  most : l.most ≤ PRICE_MAX;
}
