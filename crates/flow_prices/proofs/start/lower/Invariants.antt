use Rattle.std.proofs.Common.{ℕ, ◌<◌, ◌≤◌, length, get_or}
use Rattle.mcf_lower.specs.Search.{start_max}
use Rattle.flow_prices.proofs.start.lower.Given as goal

abbrev pub invariant-loop-v : goal.invariant-loop-v
invariant-loop-v l = (k : ℕ) → k < length l.numbers → get_or l.numbers k 0 ≤ start_max
