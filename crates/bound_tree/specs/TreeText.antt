-- The text of a tree of a job, with a feasible purchase and its cost or without one: the header, the purchase, and the
-- nodes in preorder, each in a line of its own that a line feed (10) ends.
use Rattle.std.specs.Prelude.{ℕ, zero, suc, ◌==◌, if◌then◌else◌, ℤ, List, [], ◌∷◌, ◌++◌, map, length, Option, None, Some}
use Rattle.std.specs.List.{flat_map}
use Rattle.tqd_base.specs.World.{Bytes}
use Rattle.tqd_instance.specs.declared.job.Job.{Job}
use Rattle.tqd_instance.specs.Job.{goods, suppliers}
use Rattle.tqd_instance.specs.Purchase.{Purchase}
use Rattle.tqd_instance.specs.Cost.{cost}
use Rattle.bound_tree.specs.declared.leaf.Leaf.{Leaf}
use Rattle.bound_tree.specs.declared.leaf.Leaf.TheVariants.{Bound as BoundLeaf, Empty as EmptyLeaf, Winners as WinnersLeaf}
use Rattle.bound_tree.specs.declared.leaf.TreeNode.{TreeNode}
use Rattle.bound_tree.specs.declared.leaf.TreeNode.TheVariants.{Split as SplitNode, Leaf as LeafNode}
use Rattle.bound_tree.specs.declared.line.TreeLine.{TreeLine}
use Rattle.bound_tree.specs.declared.line.TreeLine.TheVariants.{Header, NoPlan, Plan, Buy, Split, Bound, Empty, Winners}
use Rattle.bound_tree.specs.Prices.{Prices}
use Rattle.bound_tree.specs.LineText.{line_text}

-- f 0, f 1, .. f (n - 1), one after another
unfoldable pub lines_to : ℕ → (ℕ → List TreeLine) → List TreeLine
lines_to zero f = []
lines_to (suc n) f = lines_to n f ++ f n

-- so many units of good k from supplier i, where there are any
unfoldable pub units_line : ℕ → ℕ → ℕ → List TreeLine
units_line i k n = if n == 0 then [] else Buy i k n ∷ []

abbrev pub buy_line : Purchase → ℕ → ℕ → List TreeLine
buy_line x i k = units_line i k (x i k)

-- what is bought, supplier by supplier and good by good
unfoldable pub buy_lines : Job → Purchase → List TreeLine
buy_lines job x = lines_to (suppliers job) (λ i. lines_to (goods job) (buy_line x i))

-- no purchase, or its cost, the number of the lines that follow, and what is bought
abbrev pub plan_lines : Job → Option Purchase → List TreeLine
plan_lines job None = NoPlan ∷ []
plan_lines job (Some x) = Plan (cost job x) (length (buy_lines job x)) ∷ buy_lines job x

-- the prices of a row in one list, those of the goods first
abbrev pub all_prices : Prices → List ℤ
all_prices row = row.goods ++ row.places

abbrev pub leaf_line : Leaf → TreeLine
leaf_line (BoundLeaf row) = Bound (all_prices row)
leaf_line (EmptyLeaf row) = Empty (all_prices row)
leaf_line WinnersLeaf = Winners

abbrev pub node_line : TreeNode → TreeLine
node_line (SplitNode supplier segment) = Split supplier segment
node_line (LeafNode leaf) = leaf_line leaf

abbrev pub tree_lines : Job → Option Purchase → List TreeNode → List TreeLine
tree_lines job plan nodes = Header ∷ (plan_lines job plan ++ map node_line nodes)

-- a line with its line feed
abbrev pub ended : TreeLine → Bytes
ended line = line_text line ++ 10 ∷ []

unfoldable pub lines_text : List TreeLine → Bytes
lines_text lines = flat_map ended lines

-- the text of a tree, given by its nodes in preorder, with a purchase or without one
unfoldable pub tree_text : Job → Option Purchase → List TreeNode → Bytes
tree_text job plan nodes = lines_text (tree_lines job plan nodes)
