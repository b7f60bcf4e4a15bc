use Rattle.std.proofs.Common.{ℕ, ◌≡◌, ◌<◌, ◌≤◌, ◌*◌}
use Rattle.bound_tree.specs.Prices.{places_to}
use Rattle.bound_tree.specs.OtherPlaces.{SameRange}
use Rattle.bound_tree.proofs.other_box.same_places.Given as goal

abbrev pub invariant-loop-i : goal.invariant-loop-i
invariant-loop-i l = record {
  kept_place : l.kept_at ≡ places_to l.kept_area l.i;
  place : l.at ≡ places_to l.area l.i;
  kept_few : l.kept_at ≤ l.i * 16;
  few : l.at ≤ l.i * 16;
  same : (k : ℕ) → k < l.i → SameRange l.kept_area l.kept (places_to l.kept_area k) l.area l.places (places_to l.area k) k;
}
