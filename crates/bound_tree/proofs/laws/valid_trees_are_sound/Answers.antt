use Rattle.bound_tree.proofs.ValidTrees.{valid_sound}
use Rattle.bound_tree.proofs.laws.valid_trees_are_sound.Goals as goal

pub returns : goal.returns
returns c = valid_sound
