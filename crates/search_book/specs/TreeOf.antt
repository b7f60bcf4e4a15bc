-- The tree that is read from a state of a book in which no node is Open or Taken.
use Rattle.std.specs.Prelude.{ℕ, ◌≡◌, List}
use Rattle.bound_tree.specs.declared.leaf.TreeNode.{TreeNode}
use Rattle.bound_tree.specs.BoxTree.{BoxTree, at_leaf, at_split, nodes_of, IsValid}
use Rattle.search_book.specs.declared.node.Node.{Node}
use Rattle.search_book.specs.declared.node.Phase.TheVariants.{Split, Closed}
use Rattle.search_book.specs.Nodes.{area_of, HasPhase}
use Rattle.search_book.specs.BookState.{BookState, best_cost}

-- the tree that is read from a node on: a closed node gives its leaf, a split one its split and the trees of the nodes
-- of its halves
unfoldable pub IsTreeAt : List Node → ℕ → BoxTree → Type 0
IsTreeAt nodes n (at_leaf leaf) = HasPhase nodes n (Closed leaf)
IsTreeAt nodes n (at_split i at low high) = (a : ℕ) × (b : ℕ)
    × HasPhase nodes n (Split a b i at)
    × IsTreeAt nodes a low
    × IsTreeAt nodes b high

-- the tree that is read from node 0 on
abbrev pub IsTreeOf : BookState → BoxTree → Type 0
IsTreeOf s tree = IsTreeAt s.nodes 0 tree

-- the nodes of a tree in preorder that is read from a state, and is valid for the box of node 0 against the best plan
pub record IsTreeFor (s : BookState) (nodes : List TreeNode) : Type 0 where
  pub tree : BoxTree
  pub read : IsTreeOf s tree
  pub nodes_are : nodes ≡ nodes_of tree
  pub valid : IsValid s.job (best_cost s) (area_of s.nodes 0) tree
