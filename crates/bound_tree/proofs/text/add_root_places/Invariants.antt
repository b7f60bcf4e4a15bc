use Rattle.std.proofs.Common.{◌≡◌, ◌≤◌, ◌*◌, ◌++◌, map}
use Rattle.std.specs.Fmt.{signed_decimal}
use Rattle.bound_tree.specs.LineText.{fields_text}
use Rattle.bound_tree.specs.Prices.{places_to}
use Rattle.bound_tree.specs.OtherBox.{places_by, price_or_zero}
use Rattle.bound_tree.specs.Root.{root_of}
use Rattle.bound_tree.proofs.text.add_root_places.Given as goal

abbrev pub invariant-loop-i : goal.invariant-loop-i
invariant-loop-i l = record {
  place : l.at ≡ places_to l.area l.i;
  few : l.at ≤ l.i * 16;
  written : l.text.items ≡ l.initial.text.items ++ fields_text (map signed_decimal (places_by (root_of l.job) l.i (price_or_zero l.area l.places)));
}
