use Rattle.bom_reader.proofs.NameLaws.{names_are_by_first_appearance as holds}
use Rattle.bom_reader.proofs.laws.names_are_by_first_appearance.Goals as goal

pub returns : goal.returns
returns c = holds
