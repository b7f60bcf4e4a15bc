use Rattle.flow_prices.specs.declared.prices.Priced.{Priced}
use Rattle.flow_prices.specs.declared.prices.Priced.TheVariants.{Flow, Cut}
use Rattle.mcf_lower.specs.Net.{Network}
use Rattle.mcf_lower.specs.Answers.{IsCutSet}
use Rattle.flow_prices.specs.Prices.{IsPriced}

abbrev pub IsAnswer : Network → Priced → Type 0
IsAnswer net (Flow flow numbers) = IsPriced net flow numbers
IsAnswer net (Cut members) = IsCutSet net members
