use Rattle.std.proofs.Common.{◌≡◌, ◌*◌, ◌≤◌}
use Rattle.bound_tree.specs.Prices.{places_to}
use Rattle.bound_tree.proofs.places.place_count.Given as goal

abbrev pub invariant-loop-i : goal.invariant-loop-i
invariant-loop-i l = record {
  is_sum : l.sum ≡ places_to l.area l.i;
  fits : l.sum ≤ l.i * 16;
}
