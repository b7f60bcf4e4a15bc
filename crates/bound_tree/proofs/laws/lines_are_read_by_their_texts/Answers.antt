use Rattle.bound_tree.proofs.LineLaws.{read_as_text}
use Rattle.bound_tree.proofs.laws.lines_are_read_by_their_texts.Goals as goal

pub returns : goal.returns
returns c = read_as_text
