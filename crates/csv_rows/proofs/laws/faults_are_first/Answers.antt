use Rattle.csv_rows.proofs.FaultLaws.{faults_are_first}
use Rattle.csv_rows.proofs.laws.faults_are_first.Goals as goal

pub returns : goal.returns
returns c = faults_are_first
