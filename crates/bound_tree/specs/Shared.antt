-- How a tree is written with slots: a leaf names the first slot that has its row, and where none has, the row is put
-- into the next slot, 64 slots in turn.
use Rattle.std.specs.Prelude.{ℕ, ◌≡◌, ◌+◌, ◌%◌, ◌&&◌, Bool, false, List, Option, None, Some, position}
use Rattle.std.specs.Ordering.{int_eq}
use Rattle.std.specs.Cmp.Lexicographic.{pointwise}
use Rattle.tqd_instance.specs.declared.job.Job.{Job}
use Rattle.interval_box.specs.declared.boxes.IntervalBox.{IntervalBox}
use Rattle.interval_box.specs.Halves.{IsProper, low_half, high_half}
use Rattle.bound_tree.specs.declared.leaf.Leaf.{Leaf}
use Rattle.bound_tree.specs.declared.leaf.Leaf.TheVariants.{Bound, Empty, Winners}
use Rattle.bound_tree.specs.declared.leaf.TreeNode.{TreeNode}
use Rattle.bound_tree.specs.declared.slots.TheConstants.{SLOTS_MAX}
use Rattle.bound_tree.specs.Root.{root_of}
use Rattle.bound_tree.specs.Prices.{Prices}
use Rattle.bound_tree.specs.Kills.{LeafFits}
use Rattle.bound_tree.specs.OtherBox.{narrowed, widened}
use Rattle.bound_tree.specs.BoxTree.{BoxTree, at_leaf, at_split, nodes_of}
use Rattle.bound_tree.specs.SlotTree.{SlotLeaf, bound_by, empty_by, by_winners, SlotTree, row_then, slot_split, slot_leaf, Slots, no_rows, with_row}

-- the rows in the slots, and how many rows have been put into slots
pub record Given : Type 0 where
  pub slots : Slots
  pub count : ℕ

unfoldable pub none_given : Given
none_given = record { slots = no_rows; count = 0 }

unfoldable pub next_slot : Given → ℕ
next_slot given = given.count % SLOTS_MAX

unfoldable pub with_next : Given → Prices → Given
with_next given row = record { slots = with_row given.slots (next_slot given) row; count = given.count + 1 }

abbrev pub same_rows : Prices → Prices → Bool
same_rows row other = pointwise int_eq row.goods other.goods && pointwise int_eq row.places other.places

-- a slot has a row of the root that, narrowed to the box, is this row
abbrev pub has_row : Job → IntervalBox → Prices → Option Prices → Bool
has_row job area row None = false
has_row job area row (Some kept) = same_rows (narrowed job (root_of job) area kept) row

-- the first slot that has the row of a leaf
unfoldable pub slot_with : Job → IntervalBox → Slots → Prices → Option ℕ
slot_with job area slots row = position (has_row job area row) slots

-- a leaf, by the slot that has its row: where none has, the row is put into the next slot
abbrev pub slot_or_next : Given → Prices → (ℕ → SlotLeaf) → Option ℕ → SlotTree
slot_or_next given row leaf (Some n) = slot_leaf (leaf n)
slot_or_next given row leaf None = row_then (next_slot given) row (slot_leaf (leaf (next_slot given)))

abbrev pub given_or_next : Given → Prices → Option ℕ → Given
given_or_next given row (Some n) = given
given_or_next given row None = with_next given row

abbrev pub shared_row : Job → IntervalBox → Given → Prices → (ℕ → SlotLeaf) → SlotTree
shared_row job area given row leaf = slot_or_next given (widened job area row) leaf (slot_with job area given.slots row)

abbrev pub given_row : Job → IntervalBox → Given → Prices → Given
given_row job area given row = given_or_next given (widened job area row) (slot_with job area given.slots row)

abbrev pub shared_leaf : Job → IntervalBox → Given → Leaf → SlotTree
shared_leaf job area given (Bound row) = shared_row job area given row bound_by
shared_leaf job area given (Empty row) = shared_row job area given row empty_by
shared_leaf job area given Winners = slot_leaf by_winners

abbrev pub given_leaf : Job → IntervalBox → Given → Leaf → Given
given_leaf job area given (Bound row) = given_row job area given row
given_leaf job area given (Empty row) = given_row job area given row
given_leaf job area given Winners = given

-- what is given after a tree of a box
unfoldable pub given_after : Job → IntervalBox → Given → BoxTree → Given
given_after job area given (at_leaf leaf) = given_leaf job area given leaf
given_after job area given (at_split i s low high) =
    given_after job (high_half area i s) (given_after job (low_half area i s) given low) high

-- a tree of a box with slots, after what is given before it
unfoldable pub shared_in : Job → IntervalBox → Given → BoxTree → SlotTree
shared_in job area given (at_leaf leaf) = shared_leaf job area given leaf
shared_in job area given (at_split i s low high) = slot_split i s
    (shared_in job (low_half area i s) given low)
    (shared_in job (high_half area i s) (given_after job (low_half area i s) given low) high)

-- a tree of the root with slots
abbrev pub shared : Job → BoxTree → SlotTree
shared job tree = shared_in job (root_of job) none_given tree

-- a tree of a box: each split is proper, and each row fits its box
unfoldable pub IsTreeOf : Job → IntervalBox → BoxTree → Type 0
IsTreeOf job area (at_leaf leaf) = LeafFits job area leaf
IsTreeOf job area (at_split i s low high) = IsProper area i s
    × IsTreeOf job (low_half area i s) low
    × IsTreeOf job (high_half area i s) high

-- the nodes of a tree of the root
pub record AreRootNodes (job : Job) (nodes : List TreeNode) : Type 0 where
  pub tree : BoxTree
  pub of_root : IsTreeOf job (root_of job) tree
  pub nodes_are : nodes ≡ nodes_of tree
