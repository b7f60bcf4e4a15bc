use Rattle.offer_reader.proofs.OfferLaws.{offers_are_whole as holds}
use Rattle.offer_reader.proofs.laws.offers_are_whole.Goals as goal

pub returns : goal.returns
returns c = holds
