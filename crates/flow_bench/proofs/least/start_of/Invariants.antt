use Rattle.std.proofs.Common.{◌≡◌, ℕ, ◌<◌, length, neg_ℤ, ◌≤ℤ◌}
use Rattle.tqd_base.specs.declared.limits.TheConstants.{DUAL_MAX}
use Rattle.flow_prices.specs.Prices.{number_of}
use Rattle.flow_bench.proofs.least.start_of.Given as goal

abbrev pub invariant-loop-n : goal.invariant-loop-n
invariant-loop-n l = record {
  length : length l.start.items ≡ l.n;
  least : (v : ℕ) → v < l.n → neg_ℤ DUAL_MAX ≤ℤ number_of l.start.items v;
  most : (v : ℕ) → v < l.n → number_of l.start.items v ≤ℤ DUAL_MAX;
}
