use Rattle.std.proofs.Common.{◌≡◌, ℕ, eqb, [], ◌∷◌, length, ap, sym, ◌∙◌, arith}
use Rattle.std.proofs.lemmas.List.Splits.{length-slice_split}
use Rattle.std.proofs.lemmas.Bool.{false≢true}
use Rattle.csv.specs.Reading.{strip_bom}
use Rattle.csv.specs.Records.{fields_of}
use Rattle.csv_rows.specs.Rows.{names_of, records_of}
use Rattle.csv_rows.proofs.Fields.{texts}
use Rattle.csv_rows.proofs.ReaderFacts.{reads-front}
use Rattle.csv_rows.proofs.TableFacts.{none-first, other-first, answers-same, answers-wide}
use Rattle.csv_rows.proofs.reading.rows.Goals as goal

pub read_rows-requires : goal.read_rows-requires
read_rows-requires c =
    let names : texts c.deref.result.now ≡ names_of c.args.header.now = ap texts c.deref.ensures.value ∙ c.in_ok-names.ensures in
    let same : fields_of c.read_next.new.row ≡ names_of c.args.header.now = c.has_names.ensures.0 c.if-not-has_names.false ∙ names in
    omega (arith, c.len.ensures, ap length same, length-slice_split (λ (byte : ℕ). eqb byte 44) c.args.header.now)

pub returns-then-not-branch-clause-table : goal.returns-then-not-branch-clause-table
returns-then-not-branch-clause-table c =
    let none = (rw c.if-not-branch.true at c.in_ok-read_next.ensures) (strip_bom (strip_bom c.args.bytes.now)) [] c.reader_of-reader.ensures in
    none-first (names_of c.args.header.now) (records_of c.args.bytes.now) none

pub returns-then-not-has_names-clause-table : goal.returns-then-not-has_names-clause-table
returns-then-not-has_names-clause-table c =
    let one = (rw c.if-not-branch.false at c.in_ok-read_next.ensures) (strip_bom (strip_bom c.args.bytes.now)) [] c.reader_of-reader.ensures in
    let front = reads-front (strip_bom (strip_bom c.args.bytes.now)) (fields_of c.read_next.new.row ∷ []) c.read_next.new.reader one in
    let names : texts c.deref.result.now ≡ names_of c.args.header.now = ap texts c.deref.ensures.value ∙ c.in_ok-names.ensures in
    other-first (names_of c.args.header.now) (fields_of c.read_next.new.row) (records_of c.args.bytes.now) front.0 front.1
    (λ same. false≢true (sym c.if-not-has_names.true ∙ c.has_names.ensures.1 (same ∙ sym names)))

pub returns-clause-table : goal.returns-clause-table
returns-clause-table c =
    let one = (rw c.if-not-branch.false at c.in_ok-read_next.ensures) (strip_bom (strip_bom c.args.bytes.now)) [] c.reader_of-reader.ensures in
    let names : texts c.deref.result.now ≡ names_of c.args.header.now = ap texts c.deref.ensures.value ∙ c.in_ok-names.ensures in
    let same : fields_of c.read_next.new.row ≡ names_of c.args.header.now = c.has_names.ensures.0 c.if-not-has_names.false ∙ names in
    let answer = c.read_rows.ensures (strip_bom (strip_bom c.args.bytes.now)) (fields_of c.read_next.new.row) one in
    answers-same (names_of c.args.header.now) (fields_of c.read_next.new.row) c.len.result (records_of c.args.bytes.now) answer.0 c.read_rows.result answer.1 same c.len.ensures answer.2

pub returns-clause-width : goal.returns-clause-width
returns-clause-width c = answers-wide (names_of c.args.header.now) (records_of c.args.bytes.now) c.read_rows.result (returns-clause-table c)
