use Rattle.money.proofs.Prices.{prices_are_decimal}
use Rattle.money.proofs.laws.prices_are_decimal.Goals as goal

pub returns : goal.returns
returns c = prices_are_decimal
