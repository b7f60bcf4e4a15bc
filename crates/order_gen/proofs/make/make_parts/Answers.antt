use Rattle.std.proofs.Common.{◌∙◌, ap, arith}
use Rattle.tqd_base.specs.Sum.{sum_to}
use Rattle.tqd_instance.specs.Built.{table}
use Rattle.order_gen.specs.Draws.{first_state, state_after}
use Rattle.order_gen.specs.GenParts.{drawn_need, draws_before, supplier_offers}
use Rattle.order_gen.proofs.DrawLemmas.{state-before-first, state-before-next}
use Rattle.order_gen.proofs.Steps.{with_needs, none_offered, prices_more, parts_are}
use Rattle.order_gen.proofs.make.make_parts.Goals as goal

pub loop-supplier-init : goal.loop-supplier-init
loop-supplier-init c =
    let s = first_state c.args.seed in
    record {
      parts = none_offered c.draw_needs.new.parts (λ i. supplier_offers (state_after s (draws_before c.args.goods i)) i c.by-starts.result c.args.goods);
      draws = state-before-first s c.draw_needs.new.draws.state c.args.goods
          (c.in_ok-sum.ensures.draws ∙ ap (λ u. state_after u c.args.goods) c.new-draws.ensures);
    }

pub loop-supplier-preserved : goal.loop-supplier-preserved
loop-supplier-preserved c =
    let s = first_state c.args.seed in
    let g = c.args.goods in
    let i = c.loop-supplier.supplier in
    let starts = c.by-starts.result in
    record {
      parts = prices_more c.draw_needs.new.parts c.loop-supplier.parts c.draw_supplier.new.parts i
          (supplier_offers c.loop-supplier.draws.state i starts g)
          (λ i. supplier_offers (state_after s (draws_before g i)) i starts g)
          c.loop-supplier.invariant.parts c.in_ok-draw_supplier.ensures.parts
          (ap (λ u. supplier_offers u i starts g) c.loop-supplier.invariant.draws);
      draws = c.in_ok-draw_supplier.ensures.draws ∙ state-before-next s c.loop-supplier.draws.state g i c.loop-supplier.invariant.draws;
    }

pub returns : goal.returns
returns c =
    let g = c.args.goods in
    parts_are (first_state c.args.seed) g c.args.suppliers c.in_ok-sum.sum c.loop-supplier.supplier c.in_ok-parts.parts c.draw_needs.new.parts
    c.loop-supplier.parts c.by-starts.result c.in_ok-parts.ensures
    (c.in_ok-sum.ensures.parts ∙ ap (λ u. with_needs c.in_ok-parts.parts (table g (drawn_need u))) c.new-draws.ensures)
    (c.in_ok-sum.ensures.sum ∙ ap (λ u. sum_to g (drawn_need u)) c.new-draws.ensures)
    c.by-starts.ensures (omega arith) c.loop-supplier.invariant.parts
