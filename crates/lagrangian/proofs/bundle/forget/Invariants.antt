use Rattle.lagrangian.specs.Columns.{KeepsAll}
use Rattle.lagrangian.proofs.bundle.forget.Given as goal

abbrev pub invariant-loop-i : goal.invariant-loop-i
invariant-loop-i l = KeepsAll l.fn.list.items l.list.items
