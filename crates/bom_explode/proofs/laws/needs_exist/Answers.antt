use Rattle.bom_explode.proofs.Climbing.{needs_exist}
use Rattle.bom_explode.proofs.laws.needs_exist.Goals as goal

pub returns : goal.returns
returns c = needs_exist
