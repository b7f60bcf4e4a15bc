use Rattle.std.proofs.Common.{◌≡◌, [], get_or, refl, sym, ◌∙◌}
use Rattle.csv.specs.Records.{fields_of}
use Rattle.csv_rows.proofs.Fields.{field_there, field_value}
use Rattle.csv_rows.proofs.reading.text_at.Goals as goal

pub unreachable-requires : goal.unreachable-requires
unreachable-requires c = field_there (fields_of c.args.row.now) c.args.field c.requires (sym c.in-None.ensures.value)

pub returns-in-Ok-clause-text : goal.returns-in-Ok-clause-text
returns-in-Ok-clause-text c =
    let same : c.in-Some.bytes.now ≡ get_or (fields_of c.args.row.now) c.args.field [] = field_value (fields_of c.args.row.now) c.args.field c.in-Some.bytes.now c.requires (sym c.in-Some.ensures.value) in
    (c.in-Ok.ensures.cases.0 ∙ same, rw (← c.in-Ok.ensures.cases.0) at c.in-Ok.ensures.cases.1)

pub returns-in-Err-clause-fault : goal.returns-in-Err-clause-fault
returns-in-Err-clause-fault c =
    let same : c.in-Some.bytes.now ≡ get_or (fields_of c.args.row.now) c.args.field [] = field_value (fields_of c.args.row.now) c.args.field c.in-Some.bytes.now c.requires (sym c.in-Some.ensures.value) in
    (refl, rw same at c.in-Err.ensures.cases.0)
