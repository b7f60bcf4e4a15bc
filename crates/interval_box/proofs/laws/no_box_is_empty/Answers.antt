use Rattle.interval_box.proofs.Split.{size_some}
use Rattle.interval_box.proofs.laws.no_box_is_empty.Goals as goal

pub returns : goal.returns
returns c = size_some
