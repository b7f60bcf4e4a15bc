use Rattle.interval_box.specs.Halves.{low_half, high_half}
use Rattle.interval_box.proofs.Split.{low_is_box, high_is_box}
use Rattle.interval_box.proofs.boxes.IntervalBox.halves.Goals as goal

pub returns-clause-low_of_job : goal.returns-clause-low_of_job
unfolding low_half
returns-clause-low_of_job c = λ job b. low_is_box job c.args.self.now c.args.i c.args.s b c.requires.proper

pub returns-clause-high_of_job : goal.returns-clause-high_of_job
unfolding high_half
returns-clause-high_of_job c = λ job b. high_is_box job c.args.self.now c.args.i c.args.s b c.requires.proper
