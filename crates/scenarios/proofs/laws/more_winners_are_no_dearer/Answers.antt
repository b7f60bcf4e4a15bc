use Rattle.scenarios.proofs.Tables.{more_winners_no_dearer}
use Rattle.scenarios.proofs.laws.more_winners_are_no_dearer.Goals as goal

pub returns : goal.returns
returns c = λ m n a b le of_a of_b. more_winners_no_dearer c.args._job.now a b m n le of_a of_b
