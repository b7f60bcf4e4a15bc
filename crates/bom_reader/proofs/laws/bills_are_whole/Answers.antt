use Rattle.bom_reader.proofs.LineLaws.{bills_are_whole as holds}
use Rattle.bom_reader.proofs.laws.bills_are_whole.Goals as goal

pub returns : goal.returns
returns c = holds
