use Rattle.std.proofs.Common.{arith}
use Rattle.lagrangian.proofs.Bundles.{KeepsAll-set}
use Rattle.lagrangian.proofs.bundle.forget.Goals as goal

pub loop-i-preserved : goal.loop-i-preserved
loop-i-preserved c = KeepsAll-set c.args.list.now.items c.loop-i.list.items c.loop-i.i c.index_mut.result.now c.forget.new.self c.loop-i.invariant
    (omega (arith, c.loop-i.invariant.count)) c.index_mut.ensures.value c.forget.ensures
