-- The texts that are told apart: those of a job, with purchases and rows of its size.
use Rattle.std.specs.Prelude.{ℕ, ◌≡◌, ◌^◌, ◌<◌, ◌≤◌, ℤ, unsigned_abs, length, Option, None, Some}
use Rattle.std.specs.List.{All}
use Rattle.tqd_base.specs.World.{Bytes}
use Rattle.tqd_base.specs.declared.limits.TheConstants.{QTY_MAX}
use Rattle.tqd_instance.specs.declared.job.Job.{Job}
use Rattle.tqd_instance.specs.Job.{goods, suppliers}
use Rattle.tqd_instance.specs.Purchase.{Purchase}
use Rattle.bound_tree.specs.declared.leaf.Leaf.{Leaf}
use Rattle.bound_tree.specs.declared.leaf.Leaf.TheVariants.{Bound, Empty, Winners}
use Rattle.bound_tree.specs.declared.slots.TheConstants.{SLOTS_MAX}
use Rattle.bound_tree.specs.Root.{root_of}
use Rattle.bound_tree.specs.Prices.{Prices, Fits}
use Rattle.bound_tree.specs.BoxTree.{BoxTree, at_leaf, at_split, nodes_of}
use Rattle.bound_tree.specs.TreeText.{tree_text}
use Rattle.bound_tree.specs.SlotTree.{SlotLeaf, bound_by, empty_by, by_winners, Item, row_item, split_item, leaf_item, SlotTree, row_then, slot_split, slot_leaf, items_of, IsSound}
use Rattle.bound_tree.specs.SlotText.{slot_text}

-- quantities within the limit, as in each plan
abbrev pub HasQuantities : Job → Option Purchase → Type 0
HasQuantities job None = Unit {0}
HasQuantities job (Some x) = (i k : ℕ) → i < suppliers job → k < goods job → x i k ≤ QTY_MAX

-- a number of at most 64 digits, with either sign
abbrev pub HasDigits : ℤ → Type 0
HasDigits n = unsigned_abs n < 10 ^ 64

-- a row with a price for each good of a job, all prices of at most 64 digits
pub record IsRowFor (job : Job) (row : Prices) : Type 0 where
  pub goods : length row.goods ≡ goods job
  pub good_prices : All HasDigits row.goods
  pub place_prices : All HasDigits row.places

abbrev pub IsLeafFor : Job → Leaf → Type 0
IsLeafFor job (Bound row) = IsRowFor job row
IsLeafFor job (Empty row) = IsRowFor job row
IsLeafFor job Winners = Unit {0}

-- a tree of such rows, whose suppliers and segments have at most 64 digits too
unfoldable pub HasRows : Job → BoxTree → Type 0
HasRows job (at_leaf leaf) = IsLeafFor job leaf
HasRows job (at_split supplier segment low high) =
    (supplier < 10 ^ 64) × (segment < 10 ^ 64) × HasRows job low × HasRows job high

abbrev pub HasSlot : SlotLeaf → Type 0
HasSlot (bound_by n) = n < 10 ^ 64
HasSlot (empty_by n) = n < 10 ^ 64
HasSlot by_winners = Unit {0}

-- a tree with slots of such rows, whose slots, suppliers and segments have at most 64 digits too
unfoldable pub HasSlotRows : Job → SlotTree → Type 0
HasSlotRows job (row_then n row tree) = (n < 10 ^ 64) × IsRowFor job row × HasSlotRows job tree
HasSlotRows job (slot_split supplier segment low high) =
    (supplier < 10 ^ 64) × (segment < 10 ^ 64) × HasSlotRows job low × HasSlotRows job high
HasSlotRows job (slot_leaf leaf) = HasSlot leaf

-- an item whose row fits the root and has one of the slots, or a node with numbers of at most 23 digits
abbrev pub ItemFits : Job → Item → Type 0
ItemFits job (row_item n row) = (n < SLOTS_MAX) × Fits job (root_of job) row
ItemFits job (split_item supplier segment) = (supplier < 10 ^ 23) × (segment < 10 ^ 23)
ItemFits job (leaf_item (bound_by n)) = n < 10 ^ 23
ItemFits job (leaf_item (empty_by n)) = n < 10 ^ 23
ItemFits job (leaf_item by_winners) = Unit {0}

-- none twice, or purchases that are the same on the job
abbrev pub AreSame : Job → Option Purchase → Option Purchase → Type 0
AreSame job None None = Unit {0}
AreSame job (Some x) (Some y) = (i k : ℕ) → i < suppliers job → k < goods job → x i k ≡ y i k
AreSame job _ _ = ⊥

-- a text of a tree in the first format, or of a sound tree in the second
pub data IsTreeText (job : Job) (text : Bytes) : Type 0 where
  with_rows : (plan : Option Purchase) (tree : BoxTree) → HasQuantities job plan → HasRows job tree
      → text ≡ tree_text job plan (nodes_of tree) → IsTreeText job text
  with_slots : (plan : Option Purchase) (tree : SlotTree) → HasQuantities job plan → IsSound job tree
      → text ≡ slot_text job plan (items_of tree) → IsTreeText job text
