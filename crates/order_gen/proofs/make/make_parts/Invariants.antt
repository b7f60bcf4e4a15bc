use Rattle.std.proofs.Common.{◌≡◌}
use Rattle.order_gen.specs.Draws.{first_state, state_after}
use Rattle.order_gen.specs.GenParts.{joined, draws_before, supplier_offers}
use Rattle.order_gen.proofs.Steps.{with_prices}
use Rattle.order_gen.proofs.make.make_parts.Given as goal

abbrev pub invariant-loop-supplier : goal.invariant-loop-supplier
invariant-loop-supplier l = record {
  parts : l.parts ≡ with_prices l.initial.parts
      (joined l.supplier (λ i. supplier_offers (state_after (first_state l.seed) (draws_before l.goods i)) i l.starts l.goods));
  draws : l.draws.state ≡ state_after (first_state l.seed) (draws_before l.goods l.supplier);
}
