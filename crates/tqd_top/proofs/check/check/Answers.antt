-- The text of the tree shows something of the job, or the reading halted.
use Rattle.tqd_top.proofs.ReplyLemmas.{check_replies, stop_replies}
use Rattle.tqd_top.proofs.check.check.Goals as goal

pub returns-in-Ok : goal.returns-in-Ok
returns-in-Ok g c = λ words are. check_replies _ _ _ _ _ _ _ _ are c.in-Ok.ensures.0 c.in-Ok.ensures.1 c.verdict_reply.ensures

pub returns-in-Err : goal.returns-in-Err
returns-in-Err g c = λ words are. stop_replies _ _ _ _ _ _ _ are c.in-Err.ensures c.reply_without_value.ensures
