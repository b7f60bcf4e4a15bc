use Rattle.money.proofs.Counts.{counts_are_shortest}
use Rattle.money.proofs.laws.counts_are_shortest.Goals as goal

pub returns : goal.returns
returns c = counts_are_shortest
