-- The slots as they are kept while a tree is written: in place of a row of the root, a row and the box that it fits.
use Rattle.std.specs.Prelude.{ℕ, ◌≡◌, ◌<◌, List, [], ◌∷◌, ◌++◌, map, length, Option, None, Some}
use Rattle.std.specs.List.{All}
use Rattle.tqd_base.specs.World.{Bytes}
use Rattle.tqd_base.specs.declared.limits.TheConstants.{SUPPLIERS_MAX}
use Rattle.tqd_instance.specs.declared.job.Job.{Job}
use Rattle.interval_box.specs.declared.boxes.IntervalBox.{IntervalBox}
use Rattle.interval_box.specs.Ranges.{IsBoxOf}
use Rattle.interval_box.specs.Halves.{IsProper, low_half, high_half}
use Rattle.bound_tree.specs.declared.leaf.TreeNode.{TreeNode}
use Rattle.bound_tree.specs.declared.leaf.TreeNode.TheVariants.{Split as SplitNode, Leaf as LeafNode}
use Rattle.bound_tree.specs.declared.line.TreeLine.TheVariants.{Row}
use Rattle.bound_tree.specs.declared.word.Word.{Word}
use Rattle.bound_tree.specs.declared.slots.KeptRow.{KeptRow}
use Rattle.bound_tree.specs.declared.slots.SlotTable.{SlotTable}
use Rattle.bound_tree.specs.declared.slots.Named.{Named}
use Rattle.bound_tree.specs.declared.slots.Named.TheVariants.{Held, Next}
use Rattle.bound_tree.specs.declared.slots.TheConstants.{SLOTS_MAX}
use Rattle.bound_tree.specs.Prices.{Prices, Fits}
use Rattle.bound_tree.specs.OtherBox.{widened}
use Rattle.bound_tree.specs.Kills.{LeafFits}
use Rattle.bound_tree.specs.LineText.{counts_text}
use Rattle.bound_tree.specs.TreeText.{all_prices, ended}
use Rattle.bound_tree.specs.SlotTree.{Item, split_item, items_of}
use Rattle.bound_tree.specs.Shared.{Given, next_slot, shared_leaf, given_leaf}

-- the row of the root in a slot
abbrev pub kept_row : Job → Option KeptRow → Option Prices
kept_row job None = None
kept_row job (Some kept) = Some (widened job kept.area kept.row.now)

-- the row fits its box
abbrev pub KeptFits : Job → Option KeptRow → Type 0
KeptFits job None = Unit {0}
KeptFits job (Some kept) = IsBoxOf job kept.area × Fits job kept.area kept.row.now

-- what is given, as a table keeps it
unfoldable pub given_of : Job → SlotTable → Given
given_of job table = record { slots = map (kept_row job) table.slots.items; count = table.count }

-- a table with all slots, in which each row fits its box
pub record IsTable (job : Job) (table : SlotTable) : Type 0 where
  pub slots : length table.slots.items ≡ SLOTS_MAX
  pub fits : All (KeptFits job) table.slots.items

-- the slot that has a row, or the next one, into which the row is put
abbrev pub named : Given → Option ℕ → Named
named given (Some n) = Held n
named given None = Next (next_slot given)

-- a split of a node is proper for the box
abbrev pub IsSplitOf : IntervalBox → TreeNode → Type 0
IsSplitOf area (SplitNode i s) = (i < SUPPLIERS_MAX) × IsProper area i s
IsSplitOf area (LeafNode leaf) = Unit {0}

-- a split is proper for the box, and the row of a leaf fits it
abbrev pub NodeFits : Job → IntervalBox → TreeNode → Type 0
NodeFits job area (SplitNode i s) = IsProper area i s
NodeFits job area (LeafNode leaf) = LeafFits job area leaf

-- the text of a leaf that names a slot, after the row where it was put into the slot
abbrev pub named_text : Word → Prices → Named → Bytes
named_text word row (Held n) = counts_text word (n ∷ []) ++ 10 ∷ []
named_text word row (Next n) = ended (Row n (all_prices row)) ++ (counts_text word (n ∷ []) ++ 10 ∷ [])

-- the items of a node of a box, after what is given before it
abbrev pub items_at : Job → IntervalBox → Given → TreeNode → List Item
items_at job area given (SplitNode i s) = split_item i s ∷ []
items_at job area given (LeafNode leaf) = items_of (shared_leaf job area given leaf)

-- what is given after the node
abbrev pub given_at : Job → IntervalBox → Given → TreeNode → Given
given_at job area given (SplitNode i s) = given
given_at job area given (LeafNode leaf) = given_leaf job area given leaf

-- the boxes whose trees are due after it, from the last to the first
abbrev pub boxes_at : IntervalBox → TreeNode → List IntervalBox
boxes_at area (SplitNode i s) = high_half area i s ∷ low_half area i s ∷ []
boxes_at area (LeafNode leaf) = []
