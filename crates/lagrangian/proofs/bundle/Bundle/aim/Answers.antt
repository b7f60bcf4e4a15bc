use Rattle.lagrangian.proofs.Bundles.{KeepsAll-then}
use Rattle.lagrangian.proofs.bundle.Bundle.aim.Goals as goal

pub returns-clause-kept : goal.returns-clause-kept
returns-clause-kept c =
    KeepsAll-then c.args.self.now.suppliers.items c.passes.new.list.items c.grow.new.list.items
    (KeepsAll-then c.args.self.now.suppliers.items c.forget.new.list.items c.passes.new.list.items c.forget.ensures c.passes.ensures)
    c.grow.ensures
