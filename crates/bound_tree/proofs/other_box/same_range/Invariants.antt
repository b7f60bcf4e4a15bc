use Rattle.std.proofs.Common.{ℕ, ◌≡◌, ◌<◌, ◌≤◌}
use Rattle.interval_box.specs.Ranges.{Admits}
use Rattle.bound_tree.specs.OtherPlaces.{price_from, price_from_or_zero}
use Rattle.bound_tree.proofs.other_box.same_range.Given as goal

abbrev pub invariant-loop-j : goal.invariant-loop-j
invariant-loop-j l = record {
  same : (k : ℕ) → 1 ≤ k → k < l.j → Admits l.area l.i k → price_from l.area l.places l.at l.i k ≡ price_from_or_zero l.kept_area l.kept l.kept_at l.i k;
}
