use Rattle.std.proofs.Common.{◌≡◌, ◌*◌, ◌≤◌, neg_ℤ, pos}
use Rattle.tqd_base.specs.Sum.{signed_sum_to}
use Rattle.bound_tree.specs.Prices.{price_at}
use Rattle.bound_tree.specs.Value.{cap, least_gain}
use Rattle.bound_tree.specs.Asked.{charges_by}
use Rattle.bound_tree.proofs.value.savings.Given as goal

abbrev pub invariant-loop-k : goal.invariant-loop-k
invariant-loop-k l = record {
  is_sum : neg_ℤ (pos l.sum) ≡ signed_sum_to l.k (λ k. least_gain (cap l.job l.i k) ((charges_by l.asked l.job).price l.i l.j k) (price_at l.good_prices k) l.place);
  fits : l.sum ≤ l.k * (100000000 * 8000000000000000);
}
