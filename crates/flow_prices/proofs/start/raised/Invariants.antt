use Rattle.std.proofs.Common.{◌≡◌, ℕ, ◌<◌, ◌≤◌, length, get_or}
use Rattle.mcf_lower.specs.Search.{start_max}
use Rattle.flow_prices.proofs.start.raised.Given as goal

abbrev pub invariant-loop-n : goal.invariant-loop-n
invariant-loop-n l = record {
  length : length l.numbers.items ≡ l.n;
  most : (v : ℕ) → v < l.n → get_or l.numbers.items v 0 ≤ start_max;
}
