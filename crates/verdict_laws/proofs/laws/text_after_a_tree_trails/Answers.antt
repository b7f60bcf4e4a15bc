use Rattle.verdict_laws.proofs.Ends.{trails}
use Rattle.verdict_laws.proofs.laws.text_after_a_tree_trails.Goals as goal

pub returns : goal.returns
returns c = trails
