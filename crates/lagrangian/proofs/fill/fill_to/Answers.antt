use Rattle.std.proofs.Common.{◌≡◌, ◌+◌, ◌∙◌, ap, ap₂, refl, arith, length, length-set}
use Rattle.tqd_instance.specs.Job.{goods}
use Rattle.bound_tree.specs.Value.{cap}
use Rattle.lagrangian.specs.Levels.{under}
use Rattle.lagrangian.specs.Filling.{tied}
use Rattle.lagrangian.specs.Priced.{level_of}
use Rattle.lagrangian.proofs.PriceReads.{good_read, level_is}
use Rattle.lagrangian.proofs.Filled.{filled_none, filled_next, filled_all}
use Rattle.lagrangian.proofs.fill.fill_to.Goals as goal

pub loop-k-init : goal.loop-k-init
loop-k-init c = record {
  len = refl;
  filled = filled_none (level_of c.args.job.now c.args.good_prices.now c.args.i c.args.j) (cap c.args.job.now c.args.i) c.args.top c.args.spare c.args.units.now;
}

pub loop-k-preserved : goal.loop-k-preserved
loop-k-preserved c =
    let job = c.args.job.now in
    let prices = c.args.good_prices.now in
    let k = c.loop-k.k in
    let inv = c.loop-k.invariant in
    let level = level_is job prices c.args.i c.args.j k _ c.level_of-level.result _ (c.prices-prices.ensures.value k) (good_read prices k c.requires.prices.in_range) c.level_of-level.ensures.value in
    let most = c.cap_of-cap.ensures.value in
    let tie : c.tied-tie.result ≡ tied c.args.top (level_of job prices c.args.i c.args.j k) (cap job c.args.i k) = c.tied-tie.ensures.value ∙ ap₂ (tied c.args.top) level most in
    let low : c.under.result ≡ under c.args.top (level_of job prices c.args.i c.args.j k) (cap job c.args.i k) = c.under.ensures.value ∙ ap₂ (under c.args.top) level most in
    record {
      len = ap length c.set.ensures ∙ length-set c.loop-k.units k _ ∙ inv.len;
      filled = filled_next k (level_of job prices c.args.i c.args.j) (cap job c.args.i) c.args.top c.args.spare c.loop-k.spare c.saturating_sub-spare.result
          (c.under.result + c.min.result) c.loop-k.units c.set.new.self (omega (arith, inv.len)) c.set.ensures (omega (arith, c.min.ensures)) (omega (arith, c.saturating_sub-spare.ensures)) inv.filled;
    }

pub returns : goal.returns
returns c =
    let inv = c.loop-k.invariant in
    filled_all c.loop-k.k (goods c.args.job.now) (level_of c.args.job.now c.args.good_prices.now c.args.i c.args.j) (cap c.args.job.now c.args.i) c.args.top c.args.spare c.loop-k.spare c.loop-k.units
    (omega arith) (omega (arith, inv.len)) inv.filled
