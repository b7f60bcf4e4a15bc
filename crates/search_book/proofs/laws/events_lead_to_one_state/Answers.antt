use Rattle.search_book.proofs.LaterStates.{steps_to_one}
use Rattle.search_book.proofs.laws.events_lead_to_one_state.Goals as goal

pub returns : goal.returns
returns c = steps_to_one
