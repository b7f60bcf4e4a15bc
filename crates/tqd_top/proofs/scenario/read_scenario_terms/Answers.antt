-- A file that is given, or none.
use Rattle.tqd_top.proofs.Readings.{fails_as}
use Rattle.tqd_top.proofs.Unreads.{given_file}
use Rattle.tqd_top.proofs.scenario.read_scenario_terms.Goals as goal

pub returns-in-Some : goal.returns-in-Some
returns-in-Some g c = rw c.in-Some.is (fails_as _ _ _ _ _ _ (given_file _ _ _ _) c.read_file.ensures)
