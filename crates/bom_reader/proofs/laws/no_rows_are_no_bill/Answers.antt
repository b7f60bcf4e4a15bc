use Rattle.bom_reader.proofs.LineFaultLaws.{no_rows_are_no_bill as holds}
use Rattle.bom_reader.proofs.laws.no_rows_are_no_bill.Goals as goal

pub returns : goal.returns
returns c = holds
