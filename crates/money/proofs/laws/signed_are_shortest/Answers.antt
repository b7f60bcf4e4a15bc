use Rattle.money.proofs.Counts.{signed_are_shortest}
use Rattle.money.proofs.laws.signed_are_shortest.Goals as goal

pub returns : goal.returns
returns c = signed_are_shortest
