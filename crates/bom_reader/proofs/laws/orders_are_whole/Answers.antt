use Rattle.bom_reader.proofs.OrderLaws.{orders_are_whole as holds}
use Rattle.bom_reader.proofs.laws.orders_are_whole.Goals as goal

pub returns : goal.returns
returns c = holds
