use Rattle.search_book.proofs.Remains.{settled_decides}
use Rattle.search_book.proofs.laws.settled_states_decide.Goals as goal

pub returns : goal.returns
returns c = settled_decides
