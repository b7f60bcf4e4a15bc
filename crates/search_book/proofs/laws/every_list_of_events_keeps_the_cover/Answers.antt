use Rattle.search_book.proofs.ManyEvents.{run_covered, run_remains, run_later, run_bounded}
use Rattle.search_book.proofs.OneRun.{run_exists, run_is_one}
use Rattle.search_book.proofs.laws.every_list_of_events_keeps_the_cover.Goals as goal

pub returns-clause-leads : goal.returns-clause-leads
returns-clause-leads c = λ s events. (let run = run_exists s events in (run.1, (run.0, run.2)))

pub returns-clause-to_one : goal.returns-clause-to_one
returns-clause-to_one c = λ s t u events h k. (run_is_one s t u events h.0 k.0 h.1 k.1).1

pub returns-clause-covered : goal.returns-clause-covered
returns-clause-covered c = λ job s t events opening h. run_covered job s t h.0 opening h.1.runs

pub returns-clause-remain : goal.returns-clause-remain
returns-clause-remain c = λ job s t events opening h. run_remains job s t h.0 opening h.1.runs

pub returns-clause-later : goal.returns-clause-later
returns-clause-later c = λ s t events h. run_later s t h.0 h.1.runs

pub returns-clause-bounded : goal.returns-clause-bounded
returns-clause-bounded c = λ job root s t events is_root opening h. run_bounded job root s t h.0 is_root opening h.1.runs
