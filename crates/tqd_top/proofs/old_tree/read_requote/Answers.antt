-- The job is read, and then the old tree.
use Rattle.std.proofs.lemmas.Result.{err_from_is_err_and}
use Rattle.command_words.specs.Words.{files_named}
use Rattle.tqd_top.proofs.ReplyLemmas.{old_stops, old_unread, requote_read}
use Rattle.tqd_top.proofs.old_tree.read_requote.Goals as goal

pub returns-in_err-job : goal.returns-in_err-job
returns-in_err-job g c =
    let p = err_from_is_err_and c.from_residual.result c.from_residual.ensures.1 in
    rw (p.1, p.2) (old_stops _ _ _ (files_named c.args.files.now) c.args.old.now _ c.in_err-job.ensures)

pub returns-in_err-bytes : goal.returns-in_err-bytes
returns-in_err-bytes g c =
    let p = err_from_is_err_and c.from_residual-in_err-bytes.result c.from_residual-in_err-bytes.ensures.1 in
    rw (p.1, p.2) (old_unread _ _ _ _ (files_named c.args.files.now) c.args.old.now c.in_ok-job.job _ c.in_ok-job.ensures.0 c.in_ok-job.ensures.1 c.in_err-bytes.ensures)

pub returns : goal.returns
returns g c =
    let read = c.in_ok-bytes.ensures in
    requote_read _ _ _ _ (files_named c.args.files.now) c.args.old.now _ c.in_ok-job.ensures.0 c.in_ok-job.ensures.1 read.0 read.1 read.2
