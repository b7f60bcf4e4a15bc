use Rattle.std.proofs.Common.{arith}
use Rattle.lagrangian.proofs.Mixing.{AreColumns-same, Keeps-set}
use Rattle.lagrangian.proofs.columns.Columns.grow.Goals as goal

pub loop-at-preserved : goal.loop-at-preserved
loop-at-preserved c =
    let i = c.loop-at.invariant in
    let list = c.loop-at.self-inside.list.items in
    let was = c.index_mut.result.now in
    record {
      sound = AreColumns-same c.loop-at.self-inside.caps list c.loop-at.at was c.grow.new.self i.sound (omega (arith, i.sound.count)) c.index_mut.ensures.value c.grow.ensures.units;
      kept = Keeps-set c.args.self.now c.loop-at.self-inside.caps c.loop-at.self-inside.weights list c.loop-at.at was c.grow.new.self
          (omega (arith, i.sound.count)) c.index_mut.ensures.value c.grow.ensures.segment i.kept;
    }
