-- The least costs are listed, or the reading halted.
use Rattle.std.specs.Prelude.{map, string_bytes}
use Rattle.command_words.specs.Forms.{file_of}
use Rattle.command_words.specs.Words.{files_named}
use Rattle.tqd_top.proofs.ReplyLemmas.{compare_replies, compare_stops, costs_found, stop_replies}
use Rattle.tqd_top.proofs.compare.compare.Goals as goal

pub returns-in-Ok : goal.returns-in-Ok
returns-in-Ok g c = λ words workers are. compare_replies _ _ _ words _ _ workers c.in-Ok.jobs _ are c.in-Ok.ensures.0 c.in-Ok.ensures.1 c.list_costs.ensures.answer
    (c.list_costs.ensures.text c.in-Ok.jobs (costs_found _ _ _ c.as_slice.ensures c.one_by_one.ensures))

pub returns-in-Err : goal.returns-in-Err
returns-in-Err g c = λ words workers are. stop_replies _ _ _ words _ _ _ are
    (compare_stops _ _ _ (files_named c.args.files.now) (map (λ word. file_of (string_bytes word)) c.args.terms.now) workers _ c.in-Err.ensures) c.reply_without_value.ensures
