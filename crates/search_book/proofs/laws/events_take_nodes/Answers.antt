use Rattle.search_book.proofs.Takes.{happens_takes}
use Rattle.search_book.proofs.laws.events_take_nodes.Goals as goal

pub returns : goal.returns
returns c = happens_takes
