use Rattle.box_bound.proofs.Feasibles.{no_dearer}
use Rattle.box_bound.proofs.laws.relaxed_is_no_dearer.Goals as goal

pub returns : goal.returns
returns c = no_dearer
