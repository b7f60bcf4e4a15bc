use Rattle.bound_tree.proofs.OneList.{fits_as_one}
use Rattle.bound_tree.proofs.laws.prices_fit_as_one_list.Goals as goal

pub returns : goal.returns
returns c = fits_as_one
