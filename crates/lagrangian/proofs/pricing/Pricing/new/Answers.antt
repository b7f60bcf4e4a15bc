use Rattle.std.proofs.Common.{ℕ, pos, ◌≡◌, ◌∙◌, ap, length, arith, sym, subst, replicate}
use Rattle.std.specs.List.{All}
use Rattle.std.proofs.lemmas.Int.{ints}
use Rattle.std.proofs.lemmas.List.{length-replicate}
use Rattle.std.proofs.lemmas.List.Elements.{All-same, All-replicate}
use Rattle.tqd_instance.specs.Job.{goods}
use Rattle.lagrangian.specs.Priced.{IsGoodPrice, IsInRange}
use Rattle.lagrangian.proofs.PriceReads.{good_zero}
use Rattle.lagrangian.proofs.pricing.Pricing.new.Goals as goal

pub invariant_of-result : goal.invariant_of-result
invariant_of-result c =
    let prices = c.in_ok-vec.field-0.items in
    let zeros = c.in_ok-vec.ensures.items_if_clones_equal (λ y e. e) in
    let nothing = c.in_ok-vec-2.ensures.items_if_clones_equal (λ y e. e) in
    let width : length prices ≡ goods c.args.job.now = ap length zeros ∙ length-replicate c.goods-2.result (pos 0) ∙ c.goods-2.ensures.value in
    let room = ap length nothing ∙ length-replicate c.goods-3.result _ ∙ c.goods-3.ensures.value in
    record {
      good_range = All-same IsGoodPrice prices (replicate c.goods-2.result (pos 0)) zeros (All-replicate IsGoodPrice c.goods-2.result (pos 0) good_zero);
      found_range = subst (λ (w : ℕ). All (IsInRange w) c.loop-i.found.items) (sym width) c.loop-i.invariant.in_range;
      not_less = omega (arith, ints);
      not_more = omega (arith, ints);
      room = room ∙ sym width;
    }
