use Rattle.lagrangian.specs.Columns.{AreColumns, Keeps}
use Rattle.lagrangian.proofs.columns.Columns.grow.Given as goal

abbrev pub invariant-loop-at : goal.invariant-loop-at
invariant-loop-at l = record {
  sound : AreColumns l.self-inside.caps l.self-inside.list.items;
  kept : Keeps l.fn.self (record { caps = l.self-inside.caps; weights = l.self-inside.weights; columns = l.self-inside.list.items });
}
