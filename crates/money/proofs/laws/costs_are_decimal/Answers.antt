use Rattle.money.proofs.Costs.{costs_are_decimal}
use Rattle.money.proofs.laws.costs_are_decimal.Goals as goal

pub returns : goal.returns
returns c = costs_are_decimal
