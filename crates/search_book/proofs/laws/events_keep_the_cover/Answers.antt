use Rattle.search_book.proofs.Covers.{keeps_cover, opening_covered}
use Rattle.search_book.proofs.laws.events_keep_the_cover.Goals as goal

pub returns-clause-opening : goal.returns-clause-opening
returns-clause-opening c = opening_covered

pub returns-clause-event : goal.returns-clause-event
returns-clause-event c = keeps_cover
