use Rattle.search_book.proofs.ManyEvents.{run_covered, run_remains}
use Rattle.search_book.proofs.laws.every_run_is_covered.Goals as goal

pub returns-clause-covered : goal.returns-clause-covered
returns-clause-covered c = run_covered

pub returns-clause-remain : goal.returns-clause-remain
returns-clause-remain c = run_remains
