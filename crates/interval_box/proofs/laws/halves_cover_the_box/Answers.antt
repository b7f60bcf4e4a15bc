use Rattle.interval_box.proofs.Split.{splits}
use Rattle.interval_box.proofs.laws.halves_cover_the_box.Goals as goal

pub returns : goal.returns
returns c = splits
