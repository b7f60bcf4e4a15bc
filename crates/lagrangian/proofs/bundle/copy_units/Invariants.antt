use Rattle.std.proofs.Common.{◌≡◌, ℕ, ◌<◌, get_or, length}
use Rattle.lagrangian.specs.PricingState.{units}
use Rattle.lagrangian.proofs.bundle.copy_units.Given as goal

abbrev pub invariant-loop-k : goal.invariant-loop-k
invariant-loop-k l = record {
  width : length l.out.items ≡ length l.fn.out.items;
  each : (at : ℕ) → at < l.k → get_or l.out.items at 0 ≡ units l.pricing l.i at;
}
