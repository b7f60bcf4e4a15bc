use Rattle.search_book.proofs.OneRun.{run_exists, run_is_one}
use Rattle.search_book.proofs.laws.every_list_of_events_has_one_run.Goals as goal

pub returns-clause-some : goal.returns-clause-some
returns-clause-some c = run_exists

pub returns-clause-one : goal.returns-clause-one
returns-clause-one c = run_is_one
