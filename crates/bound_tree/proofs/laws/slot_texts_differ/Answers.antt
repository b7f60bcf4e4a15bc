use Rattle.bound_tree.proofs.SlotTexts.{slot_texts_apart}
use Rattle.bound_tree.proofs.laws.slot_texts_differ.Goals as goal

pub returns : goal.returns
returns c = slot_texts_apart
