-- The offers, and then the jobs of the words.
use Rattle.std.proofs.lemmas.Result.{err_from_is_err_and}
use Rattle.std.specs.Prelude.{map, string_bytes}
use Rattle.command_words.specs.Forms.{file_of}
use Rattle.command_words.specs.Words.{files_named}
use Rattle.tqd_top.specs.JobOf.{OffersOf}
use Rattle.tqd_top.specs.Scenarios.{ScenariosGive}
use Rattle.tqd_top.proofs.Readings.{first_stops, then_reads}
use Rattle.tqd_top.proofs.ReadFacts.{offers_facts}
use Rattle.tqd_top.proofs.Unreads.{unread_with_words, unread_word}
use Rattle.tqd_top.proofs.compare.read_scenarios.Goals as goal

pub read_jobs-requires-clause-facts : goal.read_jobs-requires-clause-facts
read_jobs-requires-clause-facts g c = (offers_facts _ _ (files_named c.args.files.now) c.in_ok-kept.kept c.in_ok-kept.ensures.1.states).book

pub returns-in_err-kept : goal.returns-in_err-kept
returns-in_err-kept g c =
    let a = g.D.Desk.absent_is_empty in
    let old = g.D.Desk.state c.args.desk.now in
    let new = g.D.Desk.state c.read_offer_files.new.desk in
    let files = files_named c.args.files.now in
    let terms = map (λ word. file_of (string_bytes word)) c.args.terms.now in
    let p = err_from_is_err_and c.from_residual.result c.from_residual.ensures.1 in
    rw (p.1, p.2) (first_stops (OffersOf a old.world files) (ScenariosGive a old.world terms) _ _ old new _ (unread_with_words a old new files terms) c.in_err-kept.ensures)

pub returns : goal.returns
returns g c =
    let a = g.D.Desk.absent_is_empty in
    let old = g.D.Desk.state c.args.desk.now in
    let mid = g.D.Desk.state c.read_offer_files.new.desk in
    let new = g.D.Desk.state c.read_jobs.new.desk in
    let files = files_named c.args.files.now in
    let terms = map (λ word. file_of (string_bytes word)) c.args.terms.now in
    let kept = c.in_ok-kept.kept in
    let read = c.in_ok-kept.ensures in
    then_reads (OffersOf a old.world files) (λ w. ScenariosGive a w terms) _ _ old mid new kept c.read_jobs.result
    read.0 read.1 (λ failed. unread_word a old mid new files terms kept failed read.0 read.1.states) c.read_jobs.ensures
