use Rattle.bound_tree.proofs.Soundness.{sound}
use Rattle.bound_tree.proofs.laws.killing_leaves_are_sound.Goals as goal

pub returns : goal.returns
returns c = sound
