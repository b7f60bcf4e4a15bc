use Rattle.std.proofs.Common.{◌++◌, List, ℕ}
use Rattle.std.proofs.lemmas.Result.{err_from_is_err_and}
use Rattle.csv.specs.Records.{fields_of}
use Rattle.csv_rows.proofs.TableFacts.{wants, fields-end, fields-more, no-fields, row_stops}
use Rattle.csv_rows.specs.Rows.{rows_of}
use Rattle.csv_rows.proofs.reading.read_rows.Goals as goal

pub loop-at-init : goal.loop-at-init
loop-at-init c = rw c.new-texts.ensures.fields (no-fields c.args.width c.args.reader.now)

pub returns-in_err-read_next : goal.returns-in_err-read_next
returns-in_err-read_next c =
    let p = err_from_is_err_and c.from_residual.result c.from_residual.ensures.1 in
    let past = rows_of c.args.width c.loop-at.invariant.count (fields_of c.loop-at.texts) in
    rw (p.1, p.2) (wants (λ (rows : List (List (List ℕ))). rows) c.args.width c.loop-at.at c.args.reader.now c.loop-at.reader past c.loop-at.invariant.rows)

pub returns-then-not-branch : goal.returns-then-not-branch
returns-then-not-branch c =
    fields-end c.args.width c.loop-at.at c.args.reader.now c.loop-at.reader c.read_next.new.reader (fields_of c.loop-at.texts) (fields_of c.read_next.new.row) c.of_fields.result c.requires c.loop-at.invariant
    (rw c.if-not-branch.true at c.in_ok-read_next.ensures) c.of_fields.ensures

pub returns-in_err-add_row : goal.returns-in_err-add_row
returns-in_err-add_row c =
    let p = err_from_is_err_and c.from_residual-in_err-add_row.result c.from_residual-in_err-add_row.ensures.1 in
    let past = rows_of c.args.width c.loop-at.invariant.count (fields_of c.loop-at.texts) in
    rw (p.1, p.2) (row_stops (λ (_ : Unit {0}). fields_of c.add_row.new.texts) (λ (rows : List (List (List ℕ))). rows) c.args.width c.loop-at.at c.args.reader.now c.loop-at.reader c.read_next.new.reader past (fields_of c.read_next.new.row)
    (fields_of c.loop-at.texts ++ fields_of c.read_next.new.row) c.in_err-add_row.field-0.0 c.loop-at.invariant.rows
    (rw c.if-not-branch.false at c.in_ok-read_next.ensures) c.in_err-add_row.ensures)

pub loop-at-preserved : goal.loop-at-preserved
loop-at-preserved c =
    fields-more c.args.width c.loop-at.at c.args.reader.now c.loop-at.reader c.read_next.new.reader (fields_of c.loop-at.texts) (fields_of c.add_row.new.texts) (fields_of c.read_next.new.row) c.loop-at.invariant
    (rw c.if-not-branch.false at c.in_ok-read_next.ensures) c.in_ok-add_row.ensures

pub returns : goal.returns
returns c =
    let past = rows_of c.args.width c.loop-at.invariant.count (fields_of c.loop-at.texts) in
    wants (λ (rows : List (List (List ℕ))). rows) c.args.width c.loop-at.at c.args.reader.now c.loop-at.reader past c.loop-at.invariant.rows
