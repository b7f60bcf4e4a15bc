use Rattle.std.proofs.Common.{◌≡◌, ◌++◌, take}
use Rattle.csv.specs.Records.{AllText, fields_of}
use Rattle.csv_rows.proofs.reading.add_row.Given as goal

abbrev pub invariant-loop-field : goal.invariant-loop-field
invariant-loop-field l = (fields_of l.texts ≡ fields_of l.fn.texts ++ take l.field (fields_of l.row)) × AllText (take l.field (fields_of l.row))
