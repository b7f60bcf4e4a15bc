use Rattle.std.proofs.lemmas.Result.{IfOk-weaker}
use Rattle.flow_prices.specs.Prices.{ServeAs}
use Rattle.flow_prices.proofs.Pricing.{IsPriced-made, IsPriced-near}
use Rattle.flow_prices.proofs.prices.bounded.Goals as goal

pub returns-then-are_near : goal.returns-then-are_near
returns-then-are_near c =
    let n = c.dearest-cost.ensures.network in
    let near = rw (c.from.ensures, c.nodes.ensures.is, c.dearest-cost.ensures.is) at c.if-are_near.ensures in
    IfOk-weaker c.lowered.result _ (λ bounded. ServeAs c.args.net.now c.args.numbers.now bounded.items)
    (λ bounded less flow f. IsPriced-near c.args.net.now flow c.args.numbers.now bounded.items n f near less)
    c.lowered.ensures

pub returns : goal.returns
returns c =
    let n = c.dearest-cost.ensures.network in
    let w = rw (c.dearest-cost.ensures.is) at c.in_ok-narrowed.ensures in
    IfOk-weaker c.lowered-2.result _ (λ bounded. ServeAs c.args.net.now c.args.numbers.now bounded.items)
    (λ bounded less flow f. IsPriced-made c.args.net.now flow c.args.numbers.now c.in_ok-narrowed.narrowed.items bounded.items n f w (rw (c.deref.ensures.value) at less))
    c.lowered-2.ensures
