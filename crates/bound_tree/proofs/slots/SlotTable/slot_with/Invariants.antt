use Rattle.std.proofs.Common.{ℕ, ◌≡◌, ◌<◌, false}
use Rattle.bound_tree.specs.SlotTree.{row_in}
use Rattle.bound_tree.specs.Shared.{has_row}
use Rattle.bound_tree.specs.SlotTable.{given_of}
use Rattle.bound_tree.proofs.slots.SlotTable.slot_with.Given as goal

abbrev pub invariant-loop-slot : goal.invariant-loop-slot
invariant-loop-slot l = record {
  none : (k : ℕ) → k < l.slot → has_row l.job l.area l.row (row_in (given_of l.job l.self).slots k) ≡ false;
}
