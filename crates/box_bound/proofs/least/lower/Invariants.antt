use Rattle.std.proofs.Common.{◌≡◌, ℕ, ◌<◌, ◌≤◌, min, length, slice_index}
use Rattle.box_bound.proofs.least.lower.Given as goal

abbrev pub invariant-loop-k : goal.invariant-loop-k
invariant-loop-k l = record {
  len : length l.least ≡ length l.fn.least;
  lowered : (k : ℕ) → k < l.k → slice_index l.least k ≡ min (slice_index l.fn.least k) (slice_index l.prices k);
  rest : (k : ℕ) → l.k ≤ k → slice_index l.least k ≡ slice_index l.fn.least k;
}
