use Rattle.offer_reader.proofs.TermFaultLaws.{term_form_comes_first as holds}
use Rattle.offer_reader.proofs.laws.term_form_comes_first.Goals as goal

pub returns : goal.returns
returns c = holds
