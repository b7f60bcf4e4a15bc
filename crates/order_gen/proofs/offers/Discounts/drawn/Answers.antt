use Rattle.std.proofs.Common.{◌∙◌, arith}
use Rattle.order_gen.proofs.DrawLemmas.{draw-next, state-next, discounts-are}
use Rattle.order_gen.proofs.offers.Discounts.drawn.Goals as goal

pub returns-clause-value : goal.returns-clause-value
returns-clause-value c =
    discounts-are c.args.draws.now.state c.below-second.result c.below.result c.below-second.ensures.value
    (c.below.ensures.value ∙ draw-next c.args.draws.now.state c.below-second.new.self.state 1 5 c.below-second.ensures.state)

pub returns-clause-draws : goal.returns-clause-draws
returns-clause-draws c =
    c.below.ensures.state ∙ state-next c.args.draws.now.state c.below-second.new.self.state 1 2 c.below-second.ensures.state (omega arith)
