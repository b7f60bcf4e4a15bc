use Rattle.std.proofs.Common.{◌≡◌, ◌<◌, List, ℕ, [], Bor, Some, length, get_or, sym, ◌∙◌, ap, arith}
use Rattle.std.proofs.lemmas.Bool.{false≢true}
use Rattle.std.proofs.lemmas.List.{take_more_same, length-map}
use Rattle.csv.specs.Records.{field_at, fields_of}
use Rattle.csv_rows.proofs.Fields.{field_at-some, field_value, names_at, texts}
use Rattle.csv_rows.proofs.reading.has_names.Goals as goal

pub returns-then-not-is_field : goal.returns-then-not-is_field
returns-then-not-is_field c = (
  λ e. absurd (false≢true e),
  λ same.
      let long : c.loop-field.field < length (fields_of c.args.row.now) = omega arith in
      let here : field_at (fields_of c.args.row.now) c.loop-field.field ≡ Some (get_or (texts c.args.names.now) c.loop-field.field []) =
      field_at-some (fields_of c.args.row.now) c.loop-field.field long ∙ ap (λ (t : List (List ℕ)). Some (get_or t c.loop-field.field [])) same in
      let is = names_at c.args.names.now c.loop-field.field c.loop-field-test.true in
      absurd (false≢true (sym c.if-not-is_field.true ∙ c.is_field.ensures.1 (here ∙ ap (λ (t : List ℕ). Some t) is))),
)

pub loop-field-preserved : goal.loop-field-preserved
loop-field-preserved c =
    let long : c.loop-field.field < length (fields_of c.args.row.now) = omega arith in
    let there : c.loop-field.field < length (texts c.args.names.now) = omega (arith, length-map c.args.names.now (λ (name : Bor (List ℕ)). name.now), c.loop-field-test.true) in
    let is = names_at c.args.names.now c.loop-field.field c.loop-field-test.true in
    let value = field_value (fields_of c.args.row.now) c.loop-field.field _ long (c.is_field.ensures.0 c.if-not-is_field.false) in
    take_more_same (fields_of c.args.row.now) (texts c.args.names.now) c.loop-field.field [] long there c.loop-field.invariant (sym value ∙ sym is)
