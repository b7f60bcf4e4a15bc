use Rattle.std.proofs.Common.{arith}
use Rattle.lagrangian.proofs.Keeping.{kept_none, kept_next}
use Rattle.lagrangian.proofs.level.keep_between.Goals as goal

pub loop-n-init : goal.loop-n-init
loop-n-init c = kept_none c.args.from c.args.to c.args.offers.now

pub loop-n-preserved : goal.loop-n-preserved
loop-n-preserved c =
    kept_next c.args.from c.args.to c.args.offers.now c.loop-n.offers c.swap.new.self c.loop-n.count c.loop-n.n c.counted-count.result c.index-offers-n.result
    (omega arith) c.loop-n.invariant c.index-offers-n.is c.swap.ensures.after c.counted-count.ensures
