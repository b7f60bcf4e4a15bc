use Rattle.lagrangian.specs.Columns.{KeepsAll}
use Rattle.lagrangian.proofs.bundle.passes.Given as goal

abbrev pub invariant-loop : goal.invariant-loop
invariant-loop l = KeepsAll l.fn.list.items l.list.items
