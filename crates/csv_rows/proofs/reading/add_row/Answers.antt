use Rattle.std.proofs.Common.{◌≡◌, ◌+◌, None, Some, take, sym, refl, append-nil, arith}
use Rattle.std.proofs.lemmas.List.{take_all}
use Rattle.std.proofs.lemmas.Result.{err_from_is_err_and}
use Rattle.csv.proofs.RecordFacts.{text-step}
use Rattle.csv.specs.Records.{AllText, fields_of}
use Rattle.csv_rows.specs.Rows.{row_fault}
use Rattle.csv_rows.specs.declared.fault.RowFault.TheVariants.{Text}
use Rattle.csv_rows.proofs.RowsOf.{field-more}
use Rattle.csv_rows.proofs.TableFacts.{row_fault-first, row_fault-none}
use Rattle.csv_rows.proofs.reading.add_row.Goals as goal

pub loop-field-init : goal.loop-field-init
unfolding AllText
loop-field-init c = (sym (append-nil _), tt)

pub returns-in_err-text_at : goal.returns-in_err-text_at
returns-in_err-text_at c =
    let p = err_from_is_err_and c.from_residual.result c.from_residual.ensures.1 in
    let row = fields_of c.args.row.now in
    let bad = c.in_err-text_at.ensures.fault in
    let fault : row_fault c.args.width c.args.at row ≡ Some (Text c.args.at (c.loop-field.field + 1)) = row_fault-first c.args.width c.args.at c.loop-field.field row (omega arith) (omega arith) c.loop-field.invariant.1 bad.1 in
    rw (p.1, p.2, bad.0, fault) refl

pub loop-field-preserved : goal.loop-field-preserved
loop-field-preserved c =
    let row = fields_of c.args.row.now in
    let text = c.in_ok-text_at.ensures.text in (
      field-more (fields_of c.args.texts.now) (fields_of c.loop-field.texts) (fields_of c.push_field.new.self) row c.in_ok-text_at.field-0.now c.loop-field.field c.loop-field.invariant.0 c.in_ok-push_field.ensures.fields text.0 (omega arith),
      text-step row c.loop-field.field (omega arith) c.loop-field.invariant.1 (rw text.0 at text.1),
    )

pub returns : goal.returns
returns c =
    let row = fields_of c.args.row.now in
    let all : take c.loop-field.field row ≡ row = take_all c.loop-field.field row (omega arith) in
    let none : row_fault c.args.width c.args.at row ≡ None = row_fault-none c.args.width c.args.at row (omega arith) (rw all at c.loop-field.invariant.1) in
    rw (none, c.loop-field.invariant.0, all) refl
