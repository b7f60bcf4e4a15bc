use Rattle.offer_reader.proofs.OfferFaultLaws.{offer_faults_are_first as holds}
use Rattle.offer_reader.proofs.laws.offer_faults_are_first.Goals as goal

pub returns : goal.returns
returns c = holds
