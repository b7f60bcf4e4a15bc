use Rattle.std.proofs.Common.{ℕ, ◌+◌, ◌<◌, ◌≤◌, get_or}
use Rattle.flow_prices.proofs.prices.are_near.Given as goal

abbrev pub invariant-loop-number : goal.invariant-loop-number
invariant-loop-number l = record {
  above : (v : ℕ) → v < l.number-index → get_or l.numbers v 0 ≤ l.first + l.most;
  below : (v : ℕ) → v < l.number-index → l.first ≤ get_or l.numbers v 0 + l.most;
}
