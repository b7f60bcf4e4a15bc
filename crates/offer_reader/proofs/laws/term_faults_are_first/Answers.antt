use Rattle.offer_reader.proofs.TermFaultLaws.{term_faults_are_first as holds}
use Rattle.offer_reader.proofs.laws.term_faults_are_first.Goals as goal

pub returns : goal.returns
returns c = holds
