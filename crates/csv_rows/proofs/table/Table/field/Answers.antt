use Rattle.std.proofs.Common.{◌+◌, ◌*◌, sym, ◌∙◌, arith}
use Rattle.csv.specs.Records.{fields_of}
use Rattle.csv_rows.proofs.Fields.{field_there, field_value}
use Rattle.csv_rows.proofs.RowsOf.{field-inside, field-value}
use Rattle.csv_rows.proofs.table.Table.field.Goals as goal

pub overflow_mul-row : goal.overflow_mul-row
overflow_mul-row c =
    let inside = field-inside c.self.inside.width c.self.inside.rows c.args.row c.args.field (fields_of c.self.inside.texts) c.args.self.now c.self.view_is c.requires.row c.requires.field in
    omega (arith, inside, c.self.invariant)

pub overflow_add-row : goal.overflow_add-row
overflow_add-row c =
    let inside = field-inside c.self.inside.width c.self.inside.rows c.args.row c.args.field (fields_of c.self.inside.texts) c.args.self.now c.self.view_is c.requires.row c.requires.field in
    omega (arith, inside, c.self.invariant)

pub unreachable-requires : goal.unreachable-requires
unreachable-requires c =
    let inside = field-inside c.self.inside.width c.self.inside.rows c.args.row c.args.field (fields_of c.self.inside.texts) c.args.self.now c.self.view_is c.requires.row c.requires.field in
    field_there (fields_of c.self.inside.texts) (c.args.row * c.self.inside.width + c.args.field) inside (sym c.in-None.ensures.value)

pub returns : goal.returns
returns c =
    let inside = field-inside c.self.inside.width c.self.inside.rows c.args.row c.args.field (fields_of c.self.inside.texts) c.args.self.now c.self.view_is c.requires.row c.requires.field in
    field_value (fields_of c.self.inside.texts) (c.args.row * c.self.inside.width + c.args.field) c.in-Some.text.now inside (sym c.in-Some.ensures.value)
    ∙ sym (field-value c.self.inside.width c.self.inside.rows c.args.row c.args.field (fields_of c.self.inside.texts) c.args.self.now c.self.view_is c.requires.row c.requires.field)
