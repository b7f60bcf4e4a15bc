use Rattle.std.proofs.Common.{ℕ, ◌≡◌, ◌<◌, length, slice_index}
use Rattle.lagrangian.proofs.fill.clear.Given as goal

abbrev pub invariant-loop-k : goal.invariant-loop-k
invariant-loop-k l = record {
  len : length l.units ≡ length l.fn.units;
  none : (k : ℕ) → k < l.k → slice_index l.units k ≡ 0;
}
