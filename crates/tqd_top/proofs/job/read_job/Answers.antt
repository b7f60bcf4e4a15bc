-- All files, and then the job.
use Rattle.std.proofs.lemmas.Result.{err_from_is_err_and}
use Rattle.command_words.specs.Words.{files_named}
use Rattle.tqd_top.specs.JobOf.{JobGives, TermsOf}
use Rattle.tqd_top.proofs.Readings.{first_stops, then_answers}
use Rattle.tqd_top.proofs.ReadFacts.{terms_facts}
use Rattle.tqd_top.proofs.job.read_job.Goals as goal

pub job_of-requires : goal.job_of-requires
job_of-requires g c = terms_facts _ _ (files_named c.args.files.now) c.in_ok-read.read c.in_ok-read.ensures.1.states

pub returns-in_err-read : goal.returns-in_err-read
returns-in_err-read g c =
    let a = g.D.Desk.absent_is_empty in
    let old = g.D.Desk.state c.args.desk.now in
    let new = g.D.Desk.state c.read_term_files.new.desk in
    let p = err_from_is_err_and c.from_residual.result c.from_residual.ensures.1 in
    rw (p.1, p.2) (first_stops (TermsOf a old.world (files_named c.args.files.now)) JobGives _ _ old new _ (λ file fails. fails) c.in_err-read.ensures)

pub returns : goal.returns
returns g c =
    let a = g.D.Desk.absent_is_empty in
    let old = g.D.Desk.state c.args.desk.now in
    let new = g.D.Desk.state c.read_term_files.new.desk in
    let read = c.in_ok-read.ensures in
    then_answers (TermsOf a old.world (files_named c.args.files.now)) JobGives _ old new c.in_ok-read.read c.job_of.result read.0 read.1 c.job_of.ensures
