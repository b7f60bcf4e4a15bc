use Rattle.search_book.proofs.LaterStates.{later_refl}
use Rattle.search_book.proofs.laws.later_is_reflexive.Goals as goal

pub returns : goal.returns
returns c = later_refl
