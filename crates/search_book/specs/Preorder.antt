-- How the tree of a book is read in preorder, with a stack of the numbers of the nodes that are still to be read.
use Rattle.std.specs.Prelude.{ℕ, ◌≤◌, ◌+◌, ◌==◌, if◌then◌else◌, List, [], ◌∷◌}
use Rattle.bound_tree.specs.declared.leaf.TreeNode.{TreeNode}
use Rattle.bound_tree.specs.declared.leaf.TreeNode.TheVariants.{Split as SplitNode, Leaf as LeafNode}
use Rattle.search_book.specs.declared.node.Node.{Node}
use Rattle.search_book.specs.declared.node.Phase.{Phase}
use Rattle.search_book.specs.declared.node.Phase.TheVariants.{Open, Taken, Split, Closed}
use Rattle.search_book.specs.Counts.{naming_count}

-- no node is named twice, and the first one not at all
abbrev pub IsNamedOnce : List Node → Type 0
IsNamedOnce nodes = (n : ℕ) → naming_count nodes n + (if 0 == n then 1 else 0) ≤ 1

-- the node of the tree that is read from a node alone
abbrev pub own_nodes : Phase → List TreeNode
own_nodes Open = []
own_nodes Taken = []
own_nodes (Split low high i at) = SplitNode i at ∷ []
own_nodes (Closed leaf) = LeafNode leaf ∷ []

-- the nodes that are to be read after it: that of the low half is on top
abbrev pub next_nodes : Phase → List ℕ
next_nodes Open = []
next_nodes Taken = []
next_nodes (Split low high i at) = high ∷ low ∷ []
next_nodes (Closed leaf) = []
