use Rattle.std.proofs.Common.{◌≡◌, ◌*◌, ◌≤◌, ◌≤ℤ◌, neg_ℤ, pos}
use Rattle.tqd_base.specs.Sum.{signed_sum_to}
use Rattle.bound_tree.specs.Prices.{places_to, segment_price}
use Rattle.bound_tree.specs.Root.{root_of}
use Rattle.bound_tree.specs.Value.{supplier_value}
use Rattle.bound_tree.specs.Asked.{charges_by}
use Rattle.bound_tree.proofs.root_value.root_suppliers_value.Given as goal

abbrev pub invariant-loop-i : goal.invariant-loop-i
invariant-loop-i l = record {
  place : l.at ≡ places_to (root_of l.job) l.i;
  few : l.at ≤ l.i * 16;
  is_sum : l.sum ≡ signed_sum_to l.i (λ i. supplier_value (charges_by l.asked l.job) l.job l.area l.good_prices
      (segment_price (root_of l.job) (record { goods = l.good_prices; places = l.place_prices }) i) i);
  not_less : neg_ℤ (pos (l.i * 1000000000000000000000000000)) ≤ℤ l.sum;
  not_more : l.sum ≤ℤ pos (l.i * 1000000000000000000000000000);
}
