-- The cut is told, or the reading halted.
use Rattle.tqd_top.proofs.ReplyLemmas.{cut_replies, cut_stops, stop_replies}
use Rattle.tqd_top.proofs.ReadFacts.{job_facts}
use Rattle.tqd_top.proofs.cut.cut.Goals as goal

pub cut_by_name-requires : goal.cut_by_name-requires
cut_by_name-requires g c = job_facts _ _ _ _ c.in-Ok.ensures.1.states

pub returns-in-Ok : goal.returns-in-Ok
returns-in-Ok g c = λ words are. cut_replies _ _ _ _ _ _ _ _ are c.in-Ok.ensures.0 c.in-Ok.ensures.1 c.cut_by_name.ensures

pub returns-in-Err : goal.returns-in-Err
returns-in-Err g c = λ words are. stop_replies _ _ _ _ _ _ _ are (cut_stops _ _ _ _ _ _ c.in-Err.ensures) c.reply_without_value.ensures
