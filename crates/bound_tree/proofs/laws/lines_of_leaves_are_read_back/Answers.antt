use Rattle.bound_tree.proofs.LineLaws.{leaf_is_read}
use Rattle.bound_tree.proofs.laws.lines_of_leaves_are_read_back.Goals as goal

pub returns : goal.returns
returns c = leaf_is_read
