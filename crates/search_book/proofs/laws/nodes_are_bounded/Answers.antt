use Rattle.search_book.proofs.ManyEvents.{run_bounded}
use Rattle.search_book.proofs.laws.nodes_are_bounded.Goals as goal

pub returns : goal.returns
returns c = run_bounded
