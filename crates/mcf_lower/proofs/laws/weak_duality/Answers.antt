use Rattle.mcf_lower.proofs.Circulations.{weak_duality}
use Rattle.mcf_lower.proofs.laws.weak_duality.Goals as goal

pub returns : goal.returns
returns c = weak_duality
