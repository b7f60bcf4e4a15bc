use Rattle.search_book.proofs.LaterStates.{later_trans}
use Rattle.search_book.proofs.laws.later_is_transitive.Goals as goal

pub returns : goal.returns
returns c = later_trans
