use Rattle.std.proofs.Common.{length, sym, ap, ◌∙◌}
use Rattle.csv.specs.Records.{fields_of}
use Rattle.csv_rows.proofs.RowsOf.{rows-length}
use Rattle.csv_rows.proofs.table.Table.len.Goals as goal

pub returns : goal.returns
returns c = sym (rows-length c.self.inside.width c.self.inside.rows (fields_of c.self.inside.texts)) ∙ ap length c.self.view_is
