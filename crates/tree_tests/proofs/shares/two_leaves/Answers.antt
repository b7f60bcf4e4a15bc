use Rattle.std.proofs.Common.{[], ◌∷◌, ◌++◌, ap, List, ◌∙◌}
use Rattle.bound_tree.specs.declared.leaf.TreeNode.{TreeNode}
use Rattle.bound_tree.specs.declared.leaf.TreeNode.TheVariants.{Leaf as LeafNode, Split}
use Rattle.bound_tree.specs.declared.leaf.Leaf.TheVariants.{Bound}
use Rattle.bound_tree.specs.BoxTree.{at_leaf, at_split, nodes_of}
use Rattle.bound_tree.specs.Shared.{IsTreeOf}
use Rattle.tree_tests.proofs.shares.two_leaves.Goals as goal

pub returns : goal.returns
unfolding IsTreeOf nodes_of
returns c = record {
  tree = at_split 0 0 (at_leaf (Bound c.args.low)) (at_leaf (Bound c.args.high));
  of_root = (c.requires.proper, c.requires.low, c.requires.high);
  nodes_are = c.in_ok-push-3.ensures ∙ ap (λ (nodes : List TreeNode). nodes ++ LeafNode (Bound c.args.high) ∷ [])
      (c.in_ok-push-2.ensures ∙ ap (λ (nodes : List TreeNode). nodes ++ LeafNode (Bound c.args.low) ∷ [])
      (c.in_ok-push.ensures ∙ ap (λ (nodes : List TreeNode). nodes ++ Split 0 0 ∷ []) c.new-tree.ensures));
}
