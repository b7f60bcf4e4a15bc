use Rattle.std.proofs.Common.{ℕ, ◌≡◌, ◌*◌, ◌<◌, ◌≤ℤ◌, length, neg_ℤ, pos, get_or}
use Rattle.std.specs.List.{All}
use Rattle.tqd_instance.specs.Job.{goods, suppliers}
use Rattle.lagrangian.specs.Priced.{IsInRange, IsSupplierPriced}
use Rattle.lagrangian.specs.PricingState.{no_prices}
use Rattle.lagrangian.proofs.PricedTo.{paid_to}
use Rattle.lagrangian.proofs.suppliers.price_suppliers.Given as goal

abbrev pub invariant-loop-i : goal.invariant-loop-i
invariant-loop-i l = record {
  room : length l.offers ≡ goods l.job;
  count : length l.found ≡ suppliers l.job;
  in_range : All (IsInRange (goods l.job)) l.found;
  priced : (i : ℕ) → i < l.i → IsSupplierPriced l.job l.area l.good_prices i (get_or l.found i no_prices);
  is_sum : l.paid ≡ paid_to l.job l.area l.good_prices l.found l.i;
  not_less : neg_ℤ (pos (l.i * 1000000000000000000000000000)) ≤ℤ l.paid;
  not_more : l.paid ≤ℤ pos (l.i * 1000000000000000000000000000);
}
