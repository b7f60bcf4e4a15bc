use Rattle.bound_tree.proofs.TreeTexts.{texts_differ}
use Rattle.bound_tree.proofs.laws.tree_texts_differ.Goals as goal

pub returns : goal.returns
returns c = texts_differ
