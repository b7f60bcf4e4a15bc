use Rattle.search_book.proofs.Takes.{settled_where_none}
use Rattle.search_book.proofs.laws.states_settle_where_none_waits.Goals as goal

pub returns : goal.returns
returns c = settled_where_none
