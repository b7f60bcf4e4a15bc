use Rattle.std.proofs.Common.{◌≡◌}
use Rattle.lagrangian.specs.Columns.{AreColumns, Keeps}
use Rattle.lagrangian.proofs.columns.Columns.mix.Given as goal

abbrev pub invariant-loop-k : goal.invariant-loop-k
invariant-loop-k l = record {
  sound : AreColumns l.self-inside.caps l.self-inside.list.items;
  kept : Keeps l.fn.self (record { caps = l.self-inside.caps; weights = l.self-inside.weights; columns = l.self-inside.list.items });
  weights : l.self-inside.weights ≡ l.fn.self.weights;
}
