use Rattle.mcf_lower.specs.Net.{IsNetwork}
use Rattle.flow_prices.proofs.start.find_least.Given as goal

abbrev pub invariant-loop-a : goal.invariant-loop-a
invariant-loop-a l = IsNetwork l.net
