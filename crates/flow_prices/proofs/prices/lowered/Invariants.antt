use Rattle.std.proofs.Common.{◌≡◌, ℕ, ◌<◌, length, get_or, pos, ◌-ℤ◌}
use Rattle.flow_prices.specs.Prices.{number_of}
use Rattle.flow_prices.proofs.prices.lowered.Given as goal

abbrev pub invariant-loop-number : goal.invariant-loop-number
invariant-loop-number l = record {
  length : length l.lowered.items ≡ l.number-index;
  base : l.base ≡ pos (get_or l.numbers 0 0);
  each : (v : ℕ) → v < l.number-index → number_of l.lowered.items v ≡ pos (get_or l.numbers v 0) -ℤ pos (get_or l.numbers 0 0);
}
