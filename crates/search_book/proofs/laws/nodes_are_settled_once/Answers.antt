use Rattle.search_book.proofs.ManyEvents.{run_later, run_closings, run_splittings}
use Rattle.search_book.proofs.laws.nodes_are_settled_once.Goals as goal

pub returns-clause-later : goal.returns-clause-later
returns-clause-later c = run_later

pub returns-clause-closed : goal.returns-clause-closed
returns-clause-closed c = run_closings

pub returns-clause-split : goal.returns-clause-split
returns-clause-split c = run_splittings
