-- The job is solved, or the reading halted.
use Rattle.std.specs.Prelude.{None}
use Rattle.std.specs.Option.{option_copied}
use Rattle.command_words.specs.Words.{files_named}
use Rattle.tqd_top.specs.Inner.Solution.{IsFinishedFrom}
use Rattle.tqd_top.proofs.ReplyLemmas.{stop_replies, idle_as, plain_as, solve_replies, solve_stops}
use Rattle.tqd_top.proofs.ReadFacts.{job_facts}
use Rattle.tqd_top.proofs.Solutions.{for_ok, from_none}
use Rattle.tqd_top.proofs.solve.solve.Goals as goal

pub solve_job-requires-clause-idle : goal.solve_job-requires-clause-idle
solve_job-requires-clause-idle g c = idle_as _ _ c.in-Ok.ensures.0.world c.requires

pub solve_job-requires-clause-facts : goal.solve_job-requires-clause-facts
solve_job-requires-clause-facts g c = job_facts _ _ _ _ c.in-Ok.ensures.1.states

pub returns-in-Ok : goal.returns-in-Ok
returns-in-Ok g c = λ words workers are.
    let old = g.D.Desk.state c.args.desk.now in
    let mid = g.D.Desk.state c.read_job.new.desk in
    let new = g.D.Desk.state c.solve_job.new.desk in
    let read = c.in-Ok.read in
    let found = c.search-searched in
    solve_replies g.D.Desk.absent_is_empty old mid new words (files_named c.args.files.now) (option_copied c.args.tree) None read c.solve_job.result
    (record { workers = workers; words_are = are }) c.in-Ok.ensures.0 c.in-Ok.ensures.1
    (c.solve_job.ensures None (for_ok (IsFinishedFrom read.job None) found.result (from_none read.job found.result found.ensures)))

pub returns-in-Err : goal.returns-in-Err
returns-in-Err g c = λ words workers are.
    let old = g.D.Desk.state c.args.desk.now in
    let new = g.D.Desk.state c.read_job.new.desk in
    plain_as g.D.Desk.absent_is_empty old new words c.reply_without_value.result c.or_no_reply.result c.or_no_reply.ensures
    (stop_replies g.D.Desk.absent_is_empty old new words _ _ c.reply_without_value.result are
    (solve_stops g.D.Desk.absent_is_empty old new (files_named c.args.files.now) (option_copied c.args.tree) workers _ c.in-Err.ensures) c.reply_without_value.ensures)
