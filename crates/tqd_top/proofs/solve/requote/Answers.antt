-- The job is solved from the old tree, or the reading halted.
use Rattle.std.specs.Prelude.{Some}
use Rattle.std.specs.Option.{option_copied}
use Rattle.command_words.specs.Words.{files_named}
use Rattle.tqd_top.specs.Inner.Solution.{IsFinished, IsFinishedFrom}
use Rattle.tqd_top.proofs.ReplyLemmas.{stop_replies, idle_as, plain_as, solve_replies}
use Rattle.tqd_top.proofs.ReadFacts.{job_facts}
use Rattle.tqd_top.proofs.Solutions.{for_ok, from_old, from_some}
use Rattle.tqd_top.proofs.solve.requote.Goals as goal

pub solve_job-requires-clause-idle : goal.solve_job-requires-clause-idle
solve_job-requires-clause-idle g c = idle_as _ _ c.in-Ok.ensures.0.world c.requires

pub solve_job-requires-clause-facts : goal.solve_job-requires-clause-facts
solve_job-requires-clause-facts g c = job_facts _ _ _ _ c.in-Ok.ensures.1.stated.states

pub solve_job-requires-clause-finished : goal.solve_job-requires-clause-finished
solve_job-requires-clause-finished g c =
    let found = c.regrow-searched in
    let job = c.in-Ok.read.job.job in
    for_ok (IsFinished job) found.result (from_some job (Some c.as_bytes.result.now) found.result found.ensures)

pub returns-in-Ok : goal.returns-in-Ok
returns-in-Ok g c = λ words are.
    let old = g.D.Desk.state c.args.desk.now in
    let mid = g.D.Desk.state c.read_requote.new.desk in
    let new = g.D.Desk.state c.solve_job.new.desk in
    let read = c.in-Ok.read in
    let found = c.regrow-searched in
    let grown = from_old read.job.job c.as_bytes.result.now read.old found.result c.as_bytes.ensures found.ensures in
    solve_replies g.D.Desk.absent_is_empty old mid new words (files_named c.args.files.now) (option_copied c.args.tree) (Some read.old) read.job c.solve_job.result
    (c.args.old.now, record { words_are = are }, c.in-Ok.ensures.1.is_old) c.in-Ok.ensures.0 c.in-Ok.ensures.1.stated
    (c.solve_job.ensures (Some read.old) (for_ok (IsFinishedFrom read.job.job (Some read.old)) found.result grown))

pub returns-in-Err : goal.returns-in-Err
returns-in-Err g c = λ words are.
    let old = g.D.Desk.state c.args.desk.now in
    let new = g.D.Desk.state c.read_requote.new.desk in
    plain_as g.D.Desk.absent_is_empty old new words c.reply_without_value.result c.or_no_reply.result c.or_no_reply.ensures
    (stop_replies g.D.Desk.absent_is_empty old new words _ _ c.reply_without_value.result are (c.in-Err.ensures (option_copied c.args.tree)) c.reply_without_value.ensures)
