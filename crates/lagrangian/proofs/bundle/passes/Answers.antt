use Rattle.lagrangian.proofs.Bundles.{KeepsAll-then}
use Rattle.lagrangian.proofs.bundle.passes.Goals as goal

pub loop-preserved : goal.loop-preserved
loop-preserved c = KeepsAll-then c.args.list.now.items c.loop.list.items c.pass.new.list.items c.loop.invariant c.pass.ensures

pub returns-then-pass-little : goal.returns-then-pass-little
returns-then-pass-little c = KeepsAll-then c.args.list.now.items c.loop.list.items c.pass.new.list.items c.loop.invariant c.pass.ensures
