use Rattle.std.proofs.Common.{◌≡◌, ◌+◌, ◌-◌, ◌≤ℤ◌, neg_ℤ, pos}
use Rattle.bound_tree.specs.LeastFrom.{least_from}
use Rattle.bound_tree.specs.Prices.{price_at}
use Rattle.bound_tree.specs.Value.{segment_value}
use Rattle.bound_tree.specs.Asked.{charges_by}
use Rattle.bound_tree.proofs.value.supplier_value.Given as goal

abbrev pub invariant-loop-j : goal.invariant-loop-j
invariant-loop-j l = record {
  is_least : l.least ≡ least_from l.low (l.j - (l.low + 1)) (λ j. segment_value (charges_by l.asked l.job) l.job l.good_prices (price_at l.place_prices (l.at + (j - l.first))) l.i j);
  not_less : neg_ℤ (pos 1000000000000000000000000000) ≤ℤ l.least;
  not_more : l.least ≤ℤ pos 1000000000000000000000000000;
}
