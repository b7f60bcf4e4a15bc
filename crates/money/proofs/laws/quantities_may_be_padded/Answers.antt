use Rattle.money.proofs.Quantities.{quantities_may_be_padded}
use Rattle.money.proofs.laws.quantities_may_be_padded.Goals as goal

pub returns : goal.returns
returns c = quantities_may_be_padded
