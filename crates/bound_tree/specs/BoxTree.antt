-- A tree that splits a box until each part of it is killed by a leaf.
use Rattle.std.specs.Prelude.{ℕ, List, [], ◌∷◌, ◌++◌, Option, None, Some}
use Rattle.tqd_instance.specs.declared.job.Job.{Job}
use Rattle.interval_box.specs.declared.boxes.IntervalBox.{IntervalBox}
use Rattle.interval_box.specs.Halves.{IsProper, low_half, high_half}
use Rattle.bound_tree.specs.declared.leaf.Leaf.{Leaf}
use Rattle.bound_tree.specs.declared.leaf.TreeNode.{TreeNode}
use Rattle.bound_tree.specs.declared.leaf.TreeNode.TheVariants.{Split, Leaf as LeafNode}
use Rattle.bound_tree.specs.Kills.{Kills, NoneCheaper, NoneFeasible}

-- a leaf, or a split at a segment of a supplier's range with the trees of the low and of the high half
pub data BoxTree : Type 0 where
  at_leaf : Leaf → BoxTree
  at_split : ℕ → ℕ → BoxTree → BoxTree → BoxTree

-- the nodes of a tree in preorder
unfoldable pub nodes_of : BoxTree → List TreeNode
nodes_of (at_leaf leaf) = LeafNode leaf ∷ []
nodes_of (at_split supplier at low high) = Split supplier at ∷ (nodes_of low ++ nodes_of high)

-- a tree is valid for a box where it is a leaf that kills the box, or a proper split whose trees are valid for the halves
unfoldable pub IsValid : Job → Option ℕ → IntervalBox → BoxTree → Type 0
IsValid job best area (at_leaf leaf) = Kills job area best leaf
IsValid job best area (at_split supplier at low high) = IsProper area supplier at
    × IsValid job best (low_half area supplier at) low
    × IsValid job best (high_half area supplier at) high

-- what a tree that is valid for a box shows of it: no feasible purchase in it costs less than the best one known, and
-- where none is known, there is none
abbrev pub ShowsAll : Job → IntervalBox → Option ℕ → Type 0
ShowsAll job area None = NoneFeasible job area
ShowsAll job area (Some c) = NoneCheaper job area c
