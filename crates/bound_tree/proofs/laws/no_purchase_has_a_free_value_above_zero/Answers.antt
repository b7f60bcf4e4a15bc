use Rattle.bound_tree.proofs.Duality.{not_above_zero}
use Rattle.bound_tree.proofs.laws.no_purchase_has_a_free_value_above_zero.Goals as goal

pub returns : goal.returns
returns c = not_above_zero
