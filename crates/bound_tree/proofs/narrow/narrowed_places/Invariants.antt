use Rattle.std.proofs.Common.{◌≡◌, ◌*◌, ◌≤◌}
use Rattle.bound_tree.specs.Prices.{places_to}
use Rattle.bound_tree.proofs.Narrowing.{AreNarrowedTo}
use Rattle.bound_tree.proofs.narrow.narrowed_places.Given as goal

abbrev pub invariant-loop-i : goal.invariant-loop-i
invariant-loop-i l = record {
  place : l.at ≡ places_to l.area l.i;
  few : l.at ≤ l.i * 16;
  narrowed : AreNarrowedTo l.area l.part l.i l.places l.narrowed.items;
}
