use Rattle.bom_reader.proofs.OrderLaws.{order_faults_are_first as holds}
use Rattle.bom_reader.proofs.laws.order_faults_are_first.Goals as goal

pub returns : goal.returns
returns c = holds
