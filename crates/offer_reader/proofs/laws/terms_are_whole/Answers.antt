use Rattle.offer_reader.proofs.TermLaws.{terms_are_whole as holds}
use Rattle.offer_reader.proofs.laws.terms_are_whole.Goals as goal

pub returns : goal.returns
returns c = holds
