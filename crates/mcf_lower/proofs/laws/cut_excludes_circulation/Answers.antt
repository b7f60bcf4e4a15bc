use Rattle.mcf_lower.proofs.Circulations.{cut_excludes}
use Rattle.mcf_lower.proofs.laws.cut_excludes_circulation.Goals as goal

pub returns : goal.returns
returns c = cut_excludes
