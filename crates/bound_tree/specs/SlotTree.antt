-- A tree whose leaves name rows: on the way rows of the root are put into slots, and a leaf names the slot of its row.
use Rattle.std.specs.Prelude.{ℕ, ◌<◌, List, [], ◌∷◌, ◌++◌, Option, None, Some, IsSome, unwrap_or, replicate, slice_index_or, slice_set}
use Rattle.tqd_instance.specs.declared.job.Job.{Job}
use Rattle.interval_box.specs.declared.boxes.IntervalBox.{IntervalBox}
use Rattle.interval_box.specs.Halves.{IsProper, low_half, high_half}
use Rattle.bound_tree.specs.declared.leaf.Leaf.{Leaf}
use Rattle.bound_tree.specs.declared.leaf.Leaf.TheVariants.{Bound, Empty, Winners}
use Rattle.bound_tree.specs.declared.slots.TheConstants.{SLOTS_MAX}
use Rattle.bound_tree.specs.Root.{root_of}
use Rattle.bound_tree.specs.Prices.{Prices, Fits}
use Rattle.bound_tree.specs.OtherBox.{narrowed}
use Rattle.bound_tree.specs.BoxTree.{BoxTree, at_leaf, at_split}

-- a leaf with the row in a slot, or by the winner limits
pub data SlotLeaf : Type 0 where
  bound_by : ℕ → SlotLeaf
  empty_by : ℕ → SlotLeaf
  by_winners : SlotLeaf

-- a row that is put into a slot, or a node: a split behind a segment of a supplier, or a leaf
pub data Item : Type 0 where
  row_item : ℕ → Prices → Item
  split_item : ℕ → ℕ → Item
  leaf_item : SlotLeaf → Item

-- nodes that are one whole tree, with the rows that come before each
pub data SlotTree : Type 0 where
  row_then : ℕ → Prices → SlotTree → SlotTree
  slot_split : ℕ → ℕ → SlotTree → SlotTree → SlotTree
  slot_leaf : SlotLeaf → SlotTree

-- the items in preorder; the last one is a node
unfoldable pub items_of : SlotTree → List Item
items_of (row_then n row tree) = row_item n row ∷ items_of tree
items_of (slot_split i s low high) = split_item i s ∷ (items_of low ++ items_of high)
items_of (slot_leaf leaf) = leaf_item leaf ∷ []

-- the rows in the 64 slots
abbrev pub Slots : Type 0
Slots = List (Option Prices)

unfoldable pub no_rows : Slots
no_rows = replicate SLOTS_MAX None

unfoldable pub row_in : Slots → ℕ → Option Prices
row_in slots n = slice_index_or slots n None

unfoldable pub with_row : Slots → ℕ → Prices → Slots
with_row slots n row = slice_set slots n (Some row)

-- the slots after a tree
unfoldable pub slots_after : Slots → SlotTree → Slots
slots_after slots (row_then n row tree) = slots_after (with_row slots n row) tree
slots_after slots (slot_split i s low high) = slots_after (slots_after slots low) high
slots_after slots (slot_leaf leaf) = slots

-- a leaf names a slot that has a row
abbrev pub IsSoundLeaf : Slots → SlotLeaf → Type 0
IsSoundLeaf slots (bound_by n) = IsSome (row_in slots n)
IsSoundLeaf slots (empty_by n) = IsSome (row_in slots n)
IsSoundLeaf slots by_winners = Unit {0}

-- a tree is sound for a box and slots: each row is one of the root in one of the slots, each split is proper, and each
-- leaf names a slot that has a row
unfoldable pub IsSoundIn : Job → IntervalBox → Slots → SlotTree → Type 0
IsSoundIn job area slots (row_then n row tree) = (n < SLOTS_MAX) × Fits job (root_of job) row × IsSoundIn job area (with_row slots n row) tree
IsSoundIn job area slots (slot_split i s low high) = IsProper area i s
    × IsSoundIn job (low_half area i s) slots low
    × IsSoundIn job (high_half area i s) (slots_after slots low) high
IsSoundIn job area slots (slot_leaf leaf) = IsSoundLeaf slots leaf

-- a tree is sound for a job: for the root, where no slot has a row at first
abbrev pub IsSound : Job → SlotTree → Type 0
IsSound job tree = IsSoundIn job (root_of job) no_rows tree

abbrev pub empty_row : Prices
empty_row = record { goods = []; places = [] }

-- the row in a slot, narrowed to a box
abbrev pub row_for : Job → IntervalBox → Slots → ℕ → Prices
row_for job area slots n = narrowed job (root_of job) area (unwrap_or (row_in slots n) empty_row)

abbrev pub leaf_for : Job → IntervalBox → Slots → SlotLeaf → Leaf
leaf_for job area slots (bound_by n) = Bound (row_for job area slots n)
leaf_for job area slots (empty_by n) = Empty (row_for job area slots n)
leaf_for job area slots by_winners = Winners

-- the tree in which each leaf has the latest row of the slot that it names, narrowed to the leaf's box
unfoldable pub unfolded_in : Job → IntervalBox → Slots → SlotTree → BoxTree
unfolded_in job area slots (row_then n row tree) = unfolded_in job area (with_row slots n row) tree
unfolded_in job area slots (slot_split i s low high) = at_split i s
    (unfolded_in job (low_half area i s) slots low)
    (unfolded_in job (high_half area i s) (slots_after slots low) high)
unfolded_in job area slots (slot_leaf leaf) = at_leaf (leaf_for job area slots leaf)

abbrev pub unfolded : Job → SlotTree → BoxTree
unfolded job tree = unfolded_in job (root_of job) no_rows tree
