use Rattle.std.proofs.Common.{◌+◌, ◌∙◌, ap₂, sym, arith}
use Rattle.tqd_instance.proofs.SumLemmas.{sum_to-more}
use Rattle.bound_tree.specs.Value.{cap}
use Rattle.lagrangian.specs.Priced.{level_of}
use Rattle.lagrangian.proofs.PriceReads.{good_read, level_is}
use Rattle.lagrangian.proofs.gather.gather.Goals as goal

pub loop-k-preserved : goal.loop-k-preserved
loop-k-preserved c =
    let job = c.args.job.now in
    let prices = c.args.good_prices.now in
    let k = c.loop-k.k in
    let inv = c.loop-k.invariant in
    let level = level_is job prices c.args.i c.args.j k _ c.level_of-level.result _ (c.prices-prices.ensures.value k) (good_read prices k c.requires.prices.in_range) c.level_of-level.ensures.value in
    record {
      len = c.put-count.ensures.len ∙ inv.len;
      few = omega (arith, c.put-count.ensures.next);
      gathered = λ f none.
          c.put-count.ensures.added f none
          ∙ ap₂ (λ a b. a + b) (inv.gathered f none) (ap₂ f level c.cap_of-cap.ensures.value)
          ∙ sym (sum_to-more k (λ k. f (level_of job prices c.args.i c.args.j k) (cap job c.args.i k)));
    }
