use Rattle.interval_box.proofs.Root.{root_has}
use Rattle.interval_box.proofs.laws.root_has_every_feasible_purchase.Goals as goal

pub returns : goal.returns
returns c = root_has
