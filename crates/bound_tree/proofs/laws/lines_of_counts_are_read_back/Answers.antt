use Rattle.bound_tree.proofs.LineLaws.{counts_are_read}
use Rattle.bound_tree.proofs.laws.lines_of_counts_are_read_back.Goals as goal

pub returns : goal.returns
returns c = counts_are_read
