use Rattle.std.proofs.Common.{ℕ, ◌≡◌, ◌<◌, get_or}
use Rattle.lagrangian.specs.declared.column.Column.{Column}
use Rattle.lagrangian.specs.Columns.{AreColumns, IsSegmentIn}
use Rattle.lagrangian.proofs.columns.Columns.confine.Given as goal

abbrev pub invariant-loop-at : goal.invariant-loop-at
invariant-loop-at l = record {
  sound : AreColumns l.self-inside.caps l.self-inside.list.items;
  caps : l.self-inside.caps ≡ l.fn.self.caps;
  done : (k : ℕ) (d : Column) → k < l.at → IsSegmentIn l.low l.high (get_or l.self-inside.list.items k d).segment;
}
