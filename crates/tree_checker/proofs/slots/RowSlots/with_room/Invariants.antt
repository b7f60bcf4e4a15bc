use Rattle.std.proofs.Common.{◌≡◌, length}
use Rattle.std.specs.List.{All}
use Rattle.tree_checker.proofs.HeldRows.{IsBare}
use Rattle.tree_checker.proofs.slots.RowSlots.with_room.Given as goal

abbrev pub invariant-loop : goal.invariant-loop
invariant-loop l = record {
  count : length l.rows.items ≡ l.counter;
  bare : All (IsBare l.wanted) l.rows.items;
}
