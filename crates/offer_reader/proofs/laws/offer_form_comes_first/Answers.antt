use Rattle.offer_reader.proofs.OfferFaultLaws.{offer_form_comes_first as holds}
use Rattle.offer_reader.proofs.laws.offer_form_comes_first.Goals as goal

pub returns : goal.returns
returns c = holds
