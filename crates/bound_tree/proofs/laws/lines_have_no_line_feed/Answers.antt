use Rattle.bound_tree.proofs.LineLaws.{no_feed}
use Rattle.bound_tree.proofs.laws.lines_have_no_line_feed.Goals as goal

pub returns : goal.returns
returns c = no_feed
