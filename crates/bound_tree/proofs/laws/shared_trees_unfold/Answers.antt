use Rattle.bound_tree.proofs.Unfolding.{share_root}
use Rattle.bound_tree.proofs.laws.shared_trees_unfold.Goals as goal

pub returns : goal.returns
returns c = share_root
