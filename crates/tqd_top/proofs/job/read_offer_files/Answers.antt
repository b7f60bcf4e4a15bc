-- The needs, and then the offers.
use Rattle.std.proofs.lemmas.Result.{err_from_is_err_and}
use Rattle.plan_report.specs.declared.file.InputFile.TheVariants.{Offers}
use Rattle.command_words.specs.Words.{files_named}
use Rattle.tqd_top.specs.JobOf.{Gives, NeedsOf, offers_stated, sized}
use Rattle.tqd_top.proofs.Readings.{first_stops, then_reads}
use Rattle.tqd_top.proofs.Unreads.{unread_of_bill, unread_offers}
use Rattle.tqd_top.proofs.job.read_offer_files.Goals as goal

pub returns-in_err-read : goal.returns-in_err-read
returns-in_err-read g c =
    let a = g.D.Desk.absent_is_empty in
    let old = g.D.Desk.state c.args.desk.now in
    let new = g.D.Desk.state c.read_needs.new.desk in
    let files = files_named c.args.files.now in
    let p = err_from_is_err_and c.from_residual.result c.from_residual.ensures.1 in
    rw (p.1, p.2) (first_stops (NeedsOf a old.world files.orders files.bill) (λ read. Gives a old.world files.offers (sized Offers (offers_stated read))) _ _ old new _
    (unread_of_bill a old new files) c.in_err-read.ensures)

pub returns : goal.returns
returns g c =
    let a = g.D.Desk.absent_is_empty in
    let old = g.D.Desk.state c.args.desk.now in
    let mid = g.D.Desk.state c.read_needs.new.desk in
    let new = g.D.Desk.state c.read_file.new.desk in
    let files = files_named c.args.files.now in
    let read = c.in_ok-read.ensures in
    then_reads (NeedsOf a old.world files.orders files.bill) (λ w read. Gives a w files.offers (sized Offers (offers_stated read))) _ _ old mid new c.in_ok-read.read c.read_file.result
    read.0 read.1 (λ failed. unread_offers a old mid new files c.in_ok-read.read failed read.0 read.1.states) c.read_file.ensures
