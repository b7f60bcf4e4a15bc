use Rattle.bound_tree.proofs.Duality.{no_cheaper}
use Rattle.bound_tree.proofs.laws.no_purchase_costs_less_than_a_value.Goals as goal

pub returns : goal.returns
returns c = no_cheaper
