use Rattle.bound_tree.proofs.SlotTexts.{none_begins}
use Rattle.bound_tree.proofs.laws.no_tree_text_begins_another.Goals as goal

pub returns : goal.returns
returns c = none_begins
