use Rattle.bom_explode.proofs.Climbing.{needs_agree}
use Rattle.bom_explode.proofs.laws.needs_agree.Goals as goal

pub returns : goal.returns
returns c = needs_agree
