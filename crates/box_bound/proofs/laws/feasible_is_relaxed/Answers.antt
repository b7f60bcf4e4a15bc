use Rattle.box_bound.proofs.Feasibles.{feasible_relaxed}
use Rattle.box_bound.proofs.laws.feasible_is_relaxed.Goals as goal

pub returns : goal.returns
returns c = feasible_relaxed
