-- The needs are listed, or the reading halted.
use Rattle.tqd_top.proofs.ReplyLemmas.{stop_replies, needs_stops, needs_reply}
use Rattle.tqd_top.proofs.ReadFacts.{named_needs}
use Rattle.tqd_top.proofs.needs.needs.Goals as goal

pub list_needs-requires : goal.list_needs-requires
list_needs-requires g c = named_needs _ _ _ _ _ c.in-Ok.ensures.1.states

pub returns-in-Ok : goal.returns-in-Ok
returns-in-Ok g c = λ words are. needs_reply _ _ _ _ _ _ _ _ are c.in-Ok.ensures.0 c.in-Ok.ensures.1 c.list_needs.ensures.answer c.list_needs.ensures.text

pub returns-in-Err : goal.returns-in-Err
returns-in-Err g c = λ words are. stop_replies _ _ _ _ _ _ _ are (needs_stops _ _ _ _ _ _ c.in-Err.ensures) c.reply_without_value.ensures
