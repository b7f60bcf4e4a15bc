use Rattle.interval_box.proofs.Root.{root_is_one}
use Rattle.interval_box.proofs.laws.root_is_one_box.Goals as goal

pub returns : goal.returns
returns c = root_is_one
