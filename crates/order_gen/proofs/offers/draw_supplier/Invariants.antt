use Rattle.std.proofs.Common.{◌≡◌, ◌+◌}
use Rattle.order_gen.specs.Draws.{state_after}
use Rattle.order_gen.specs.GenParts.{joined, good_offers, base_price}
use Rattle.order_gen.proofs.Steps.{with_prices}
use Rattle.order_gen.proofs.offers.draw_supplier.Given as goal

abbrev pub invariant-loop-good : goal.invariant-loop-good
invariant-loop-good l = record {
  parts : l.parts ≡ with_prices l.fn.parts (joined l.good (λ k. good_offers l.supplier l.starts l.discounts k (base_price l.fn.draws.state k)));
  draws : l.draws.state ≡ state_after l.fn.draws.state (2 + l.good);
}
