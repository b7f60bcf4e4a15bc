use Rattle.tree_checker.proofs.Pieces.{rejection_stays}
use Rattle.tree_checker.proofs.laws.rejections_stay.Goals as goal

pub returns : goal.returns
returns c = rejection_stays
