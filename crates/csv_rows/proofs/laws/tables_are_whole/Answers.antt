use Rattle.csv_rows.proofs.FaultLaws.{tables_are_whole}
use Rattle.csv_rows.proofs.laws.tables_are_whole.Goals as goal

pub returns : goal.returns
returns c = tables_are_whole
