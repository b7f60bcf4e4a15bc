use Rattle.std.proofs.Common.{ℕ, ◌≡◌, ◌<◌, length, slice_index}
use Rattle.lagrangian.specs.Repair.{held}
use Rattle.lagrangian.proofs.repair.clamped.Given as goal

abbrev pub invariant-loop-i : goal.invariant-loop-i
invariant-loop-i l = record {
  places : length l.clamped ≡ 64;
  done : (m : ℕ) → m < l.i → slice_index l.clamped m ≡ held l.area l.picks m;
}
