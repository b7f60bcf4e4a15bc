-- The text of a tree with slots: as the text of a tree, but that its header is the second, each row that is put into a
-- slot has a line of its own, and a leaf has the number of its slot in place of a row.
use Rattle.std.specs.Prelude.{pos, List, [], ◌∷◌, ◌++◌, map, Option}
use Rattle.tqd_base.specs.World.{Bytes}
use Rattle.tqd_instance.specs.declared.job.Job.{Job}
use Rattle.tqd_instance.specs.Purchase.{Purchase}
use Rattle.bound_tree.specs.declared.line.TreeLine.{TreeLine}
use Rattle.bound_tree.specs.declared.line.TreeLine.TheVariants.{Header2, Split, Row, Bound, Empty, Winners}
use Rattle.bound_tree.specs.TreeText.{all_prices, plan_lines, lines_text}
use Rattle.bound_tree.specs.SlotTree.{SlotLeaf, bound_by, empty_by, by_winners, Item, row_item, split_item, leaf_item}

abbrev pub slot_leaf_line : SlotLeaf → TreeLine
slot_leaf_line (bound_by n) = Bound (pos n ∷ [])
slot_leaf_line (empty_by n) = Empty (pos n ∷ [])
slot_leaf_line by_winners = Winners

abbrev pub item_line : Item → TreeLine
item_line (row_item n row) = Row n (all_prices row)
item_line (split_item i s) = Split i s
item_line (leaf_item leaf) = slot_leaf_line leaf

abbrev pub slot_lines : Job → Option Purchase → List Item → List TreeLine
slot_lines job plan items = Header2 ∷ (plan_lines job plan ++ map item_line items)

-- the text of a tree with slots, given by its items in preorder, with a purchase or without one
unfoldable pub slot_text : Job → Option Purchase → List Item → Bytes
slot_text job plan items = lines_text (slot_lines job plan items)
