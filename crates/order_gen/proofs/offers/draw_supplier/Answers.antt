use Rattle.std.proofs.Common.{◌+◌, ◌∙◌, ap, arith}
use Rattle.order_gen.specs.GenParts.{good_offers, base_price}
use Rattle.order_gen.proofs.DrawLemmas.{draw-next, state-next, base-is}
use Rattle.order_gen.proofs.Steps.{none_offered, prices_more, supplier_added}
use Rattle.order_gen.proofs.offers.draw_supplier.Goals as goal

pub loop-good-init : goal.loop-good-init
loop-good-init c =
    let s = c.args.draws.now.state in
    record {
      parts = none_offered c.args.parts.now (λ k. good_offers c.args.supplier c.args.starts.now c.drawn-discounts.result k (base_price s k));
      draws = c.drawn-discounts.ensures.draws;
    }

pub loop-good-preserved : goal.loop-good-preserved
loop-good-preserved c =
    let s = c.args.draws.now.state in
    let k = c.loop-good.good in
    let base = base-is s k c.below-base.result (c.below-base.ensures.value ∙ draw-next s c.loop-good.draws.state (2 + k) 10000 c.loop-good.invariant.draws) in
    record {
      parts = prices_more c.args.parts.now c.loop-good.parts c.add_good.new.parts k
          (good_offers c.args.supplier c.args.starts.now c.drawn-discounts.result k (10000 + c.below-base.result))
          (λ k. good_offers c.args.supplier c.args.starts.now c.drawn-discounts.result k (base_price s k))
          c.loop-good.invariant.parts c.in_ok-add_good.ensures
          (ap (good_offers c.args.supplier c.args.starts.now c.drawn-discounts.result k) base);
      draws = c.below-base.ensures.state ∙ state-next s c.loop-good.draws.state (2 + k) (2 + (k + 1)) c.loop-good.invariant.draws (omega arith);
    }

pub returns-clause-parts : goal.returns-clause-parts
returns-clause-parts c =
    supplier_added c.args.parts.now c.loop-good.parts c.args.draws.now.state c.args.supplier c.args.starts.now c.drawn-discounts.result c.args.goods c.loop-good.good
    (omega arith) c.drawn-discounts.ensures.value c.loop-good.invariant.parts
