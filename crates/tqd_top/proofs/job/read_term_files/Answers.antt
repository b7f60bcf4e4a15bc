-- The offers, and then the terms.
use Rattle.std.proofs.lemmas.Result.{err_from_is_err_and}
use Rattle.command_words.specs.Words.{files_named}
use Rattle.tqd_top.specs.JobOf.{OffersOf, TermsGive}
use Rattle.tqd_top.proofs.Readings.{first_stops, then_reads}
use Rattle.tqd_top.proofs.ReadFacts.{offers_facts}
use Rattle.tqd_top.proofs.Unreads.{unread_of_offers, unread_terms}
use Rattle.tqd_top.proofs.job.read_term_files.Goals as goal

pub read_given_terms-requires-clause-no_terms : goal.read_given_terms-requires-clause-no_terms
read_given_terms-requires-clause-no_terms g c =
    rw c.into_offers.ensures (offers_facts _ _ (files_named c.args.files.now) c.in_ok-kept.kept c.in_ok-kept.ensures.1.states).no_terms

pub read_given_terms-requires-clause-facts : goal.read_given_terms-requires-clause-facts
read_given_terms-requires-clause-facts g c =
    rw c.into_offers.ensures (offers_facts _ _ (files_named c.args.files.now) c.in_ok-kept.kept c.in_ok-kept.ensures.1.states).book

pub returns-in_err-kept : goal.returns-in_err-kept
returns-in_err-kept g c =
    let a = g.D.Desk.absent_is_empty in
    let old = g.D.Desk.state c.args.desk.now in
    let new = g.D.Desk.state c.read_offer_files.new.desk in
    let files = files_named c.args.files.now in
    let p = err_from_is_err_and c.from_residual.result c.from_residual.ensures.1 in
    rw (p.1, p.2) (first_stops (OffersOf a old.world files) (TermsGive a old.world files.terms) _ _ old new _ (unread_of_offers a old new files) c.in_err-kept.ensures)

pub returns : goal.returns
returns g c =
    let a = g.D.Desk.absent_is_empty in
    let old = g.D.Desk.state c.args.desk.now in
    let mid = g.D.Desk.state c.read_offer_files.new.desk in
    let new = g.D.Desk.state c.read_given_terms.new.desk in
    let files = files_named c.args.files.now in
    let read = c.in_ok-kept.ensures in
    then_reads (OffersOf a old.world files) (λ w. TermsGive a w files.terms) _ _ old mid new c.in_ok-kept.kept c.read_given_terms.result
    read.0 read.1 (λ failed. unread_terms a old mid new files c.in_ok-kept.kept failed read.0 read.1.states) (rw c.into_offers.ensures at c.read_given_terms.ensures)
