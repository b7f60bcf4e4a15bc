-- The bytes of the file, and what they state.
use Rattle.std.proofs.Common.{subst}
use Rattle.std.proofs.lemmas.Result.{err_from_is_err_and}
use Rattle.std.specs.Prelude.{Err}
use Rattle.tqd_base.specs.declared.limits.TheConstants.{FILE_MAX}
use Rattle.plan_report.specs.declared.file.InputFile.{InputFile}
use Rattle.tqd_top.specs.Inner.Steps.{InputGives, IsFileUnread}
use Rattle.tqd_top.proofs.Readings.{input_stops, input_read}
use Rattle.tqd_top.proofs.source.read_file.Goals as goal

pub returns-in_err-bytes : goal.returns-in_err-bytes
returns-in_err-bytes g c =
    let p = err_from_is_err_and c.from_residual.result c.from_residual.ensures.1 in
    let a = g.D.Desk.absent_is_empty in
    let old = g.D.Desk.state c.args.desk.now in
    let new = g.D.Desk.state c.read_bytes.new.desk in
    let gives = subst (λ (file : InputFile). InputGives a old new file c.args.name.now FILE_MAX (Err c.in_err-bytes.field-0.0)) c.file.ensures c.in_err-bytes.ensures in
    rw (p.1, p.2) (input_stops _ _ _ _ _ (g.S.Source.stated c.args.source) _ gives)

pub returns : goal.returns
returns g c =
    let a = g.D.Desk.absent_is_empty in
    let old = g.D.Desk.state c.args.desk.now in
    let new = g.D.Desk.state c.read_bytes.new.desk in
    let file = g.S.Source.file_of c.args.source in
    let name = c.args.name.now in
    input_read a old new file name (g.S.Source.stated c.args.source) (IsFileUnread old new file name) c.in_ok-bytes.bytes.items c.read.result c.in_ok-bytes.ensures.0 c.in_ok-bytes.ensures.1
    c.in_ok-bytes.ensures.2 c.read.ensures
