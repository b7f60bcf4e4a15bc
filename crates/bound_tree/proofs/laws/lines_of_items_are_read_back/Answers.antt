use Rattle.bound_tree.proofs.LineLaws.{item_is_read}
use Rattle.bound_tree.proofs.laws.lines_of_items_are_read_back.Goals as goal

pub returns : goal.returns
returns c = item_is_read
