-- The table is listed, or the reading halted.
use Rattle.tqd_top.proofs.ReplyLemmas.{stop_replies, table_replies, table_stops}
use Rattle.tqd_top.proofs.winners.winners.Goals as goal

pub returns-in-Ok : goal.returns-in-Ok
returns-in-Ok g c = λ words workers are. table_replies _ _ _ _ _ workers _ _ are c.in-Ok.ensures.0 c.in-Ok.ensures.1 c.list_table.ensures.answer c.list_table.ensures.text

pub returns-in-Err : goal.returns-in-Err
returns-in-Err g c = λ words workers are. stop_replies _ _ _ _ _ _ _ are (table_stops _ _ _ _ workers _ c.in-Err.ensures) c.reply_without_value.ensures
