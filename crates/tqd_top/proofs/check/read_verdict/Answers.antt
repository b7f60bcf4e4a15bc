-- The job is read, and then the tree.
use Rattle.std.proofs.lemmas.Result.{err_from_is_err_and}
use Rattle.command_words.specs.Words.{files_named}
use Rattle.tqd_top.proofs.ReplyLemmas.{check_after, check_stops}
use Rattle.tqd_top.proofs.check.read_verdict.Goals as goal

pub returns-in_err-read : goal.returns-in_err-read
returns-in_err-read g c =
    let p = err_from_is_err_and c.from_residual.result c.from_residual.ensures.1 in
    rw (p.1, p.2) (check_stops _ _ _ (files_named c.args.files.now) c.args.tree.now _ c.in_err-read.ensures)

pub returns : goal.returns
returns g c = check_after _ _ _ _ (files_named c.args.files.now) c.args.tree.now c.in_ok-read.read _ c.in_ok-read.ensures.0 c.in_ok-read.ensures.1 c.check_file.ensures
