use Rattle.bound_tree.proofs.HalfParts.{are_parts}
use Rattle.bound_tree.proofs.laws.halves_are_parts.Goals as goal

pub returns : goal.returns
returns c = are_parts
