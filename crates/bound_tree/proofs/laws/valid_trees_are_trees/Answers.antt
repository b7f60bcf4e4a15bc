use Rattle.bound_tree.proofs.ValidTrees.{valid_is_tree}
use Rattle.bound_tree.proofs.laws.valid_trees_are_trees.Goals as goal

pub returns : goal.returns
returns c = valid_is_tree
