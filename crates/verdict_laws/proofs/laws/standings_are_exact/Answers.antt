use Rattle.tree_checker.proofs.Standings.{standing_is}
use Rattle.verdict_laws.proofs.StandsAs.{stands_as}
use Rattle.verdict_laws.proofs.laws.standings_are_exact.Goals as goal

pub returns : goal.returns
returns c = λ job x standing. (standing_is job x standing, stands_as job x standing)
