-- What is kept of the rows that a text of format 2 gives in slots.
use Rattle.std.specs.Prelude.{ℤ, ◌≡◌, Bool, true, if◌then◌else◌, List, map, length, Option, None, Some}
use Rattle.std.specs.List.{All}
use Rattle.tqd_instance.specs.declared.job.Job.{Job}
use Rattle.bound_tree.specs.declared.slots.TheConstants.{SLOTS_MAX}
use Rattle.bound_tree.specs.Root.{root_of}
use Rattle.bound_tree.specs.Prices.{Prices, Fits, row_of}
use Rattle.bound_tree.specs.SlotTree.{Slots}
use Rattle.tree_checker.specs.declared.slots.SlotRow.{SlotRow}
use Rattle.tree_checker.specs.declared.slots.RowSlots.{RowSlots}
use Rattle.tree_checker.specs.Verdict.{RowStore, in_leaves, in_slots, prices_wanted}
use denote.Ref.{Bor}

-- the text is one of format 2
abbrev pub are_used : RowSlots → Bool
are_used kept = kept.in_use

-- the slots have the same rows, in use or not
pub record SameRows (old new : RowSlots) : Type 0 where
  pub wanted : new.wanted ≡ old.wanted
  pub rows : new.rows ≡ old.rows

-- the row of a slot that was given one
abbrev pub given_row : Job → SlotRow → Option Prices
given_row job row = if row.given then Some (row_of job row.prices.items) else None

-- the rows of the slots: of each the one that was given last, or none
abbrev pub rows_in : Job → RowSlots → Slots
rows_in job kept = map (given_row job) kept.rows.items

abbrev pub Holds : Job → RowSlots → Slots → Type 0
Holds job kept slots = rows_in job kept ≡ slots

-- where the rows are of a text that gave these
abbrev pub store_of : Job → RowSlots → RowStore
store_of job kept = if kept.in_use then in_slots (rows_in job kept) else in_leaves

-- a slot has room for a row of the root, and a row that it was given is one
pub record IsSlotRow (job : Job) (row : SlotRow) : Type 0 where
  pub count : length row.prices.items ≡ prices_wanted job (root_of job)
  pub fits : row.given ≡ true → Fits job (root_of job) (row_of job row.prices.items)

pub record AreSlotRows (job : Job) (kept : RowSlots) : Type 0 where
  pub wanted : kept.wanted ≡ prices_wanted job (root_of job)
  pub count : length kept.rows.items ≡ SLOTS_MAX
  pub each : All (IsSlotRow job) kept.rows.items

-- a row that is lent is the one that a slot has, and a row of the root; none is where it has none
abbrev pub LendsRow : Job → Option Prices → Option (Bor (List ℤ)) → Type 0
LendsRow job row (Some prices) = (row ≡ Some (row_of job prices.now)) × Fits job (root_of job) (row_of job prices.now)
LendsRow job row None = row ≡ None
