use Rattle.std.proofs.Common.{[], ◌∷◌, ◌++◌, ap, List, ◌∙◌}
use Rattle.bound_tree.specs.declared.leaf.TreeNode.{TreeNode}
use Rattle.bound_tree.specs.declared.leaf.TreeNode.TheVariants.{Leaf as LeafNode}
use Rattle.bound_tree.specs.declared.leaf.Leaf.TheVariants.{Bound}
use Rattle.bound_tree.specs.BoxTree.{at_leaf, nodes_of}
use Rattle.bound_tree.specs.Shared.{IsTreeOf}
use Rattle.tree_tests.proofs.shares.one_leaf.Goals as goal

pub returns : goal.returns
unfolding IsTreeOf nodes_of
returns c = record {
  tree = at_leaf (Bound c.args.row);
  of_root = c.requires;
  nodes_are = c.in_ok-push.ensures ∙ ap (λ (nodes : List TreeNode). nodes ++ LeafNode (Bound c.args.row) ∷ []) c.new-tree.ensures;
}
