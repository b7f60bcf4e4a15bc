use Rattle.bom_reader.proofs.NameLaws.{names_are_plain as holds}
use Rattle.bom_reader.proofs.laws.names_are_plain.Goals as goal

pub returns : goal.returns
returns c = holds
