use Rattle.search_book.proofs.LaterStates.{steps_later}
use Rattle.search_book.proofs.laws.events_lead_later.Goals as goal

pub returns : goal.returns
returns c = steps_later
