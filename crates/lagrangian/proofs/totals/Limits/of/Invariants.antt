use Rattle.std.proofs.Common.{ℕ, ◌≡◌, ◌<◌, length, slice_index}
use Rattle.lagrangian.specs.Repair.{caps}
use Rattle.lagrangian.proofs.totals.Limits.of.Given as goal

abbrev pub invariant-loop-i : goal.invariant-loop-i
invariant-loop-i l = record {
  places : length l.caps ≡ 64;
  caps_are : (m : ℕ) → m < l.i → slice_index l.caps m ≡ caps l.job m;
}
