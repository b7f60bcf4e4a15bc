use Rattle.std.proofs.Common.{◌+◌, ◌∙◌, sym, arith, refl}
use Rattle.tqd_instance.proofs.SumLemmas.{sum_to-more}
use Rattle.order_gen.specs.GenParts.{drawn_need}
use Rattle.order_gen.proofs.DrawLemmas.{state_after-zero, draw-next, state-next, need-is}
use Rattle.order_gen.proofs.Steps.{none_needed, needs_more}
use Rattle.order_gen.proofs.make.draw_needs.Goals as goal

pub loop-init : goal.loop-init
loop-init c = record {
  parts = none_needed c.args.parts.now (drawn_need c.args.draws.now.state);
  draws = sym (state_after-zero c.args.draws.now.state);
  sum = refl;
  within = omega arith;
}

pub loop-preserved : goal.loop-preserved
loop-preserved c =
    let s = c.args.draws.now.state in
    let n = c.loop.counter in
    let is = need-is s n c.below-need.result (c.below-need.ensures.value ∙ draw-next s c.loop.draws.state n 1000 c.loop.invariant.draws) in
    record {
      parts = needs_more c.args.parts.now c.loop.parts c.add_need.new.self n (1 + c.below-need.result) (drawn_need s) c.loop.invariant.parts
          c.in_ok-add_need.ensures.added is;
      draws = c.below-need.ensures.state ∙ state-next s c.loop.draws.state n (n + 1) c.loop.invariant.draws refl;
      sum = omega (arith, is, sum_to-more n (drawn_need s), c.loop.invariant.sum);
      within = omega (arith, c.below-need.ensures.within, c.loop.invariant.within);
    }
