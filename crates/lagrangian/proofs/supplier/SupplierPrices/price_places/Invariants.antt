use Rattle.std.proofs.Common.{ℕ, ◌≡◌, ◌<◌, ◌≤◌, length}
use Rattle.tqd_instance.specs.Job.{goods}
use Rattle.interval_box.specs.Ranges.{low_of}
use Rattle.lagrangian.specs.Priced.{IsInRange, IsFoundPlace, place_of, worth_of}
use Rattle.lagrangian.proofs.supplier.SupplierPrices.price_places.Given as goal

abbrev pub invariant-loop-j : goal.invariant-loop-j
invariant-loop-j l = record {
  len : length l.offers ≡ length l.fn.offers;
  in_range : IsInRange (goods l.job) l.self;
  found : (j : ℕ) → low_of l.area l.i ≤ j → j < l.j → IsFoundPlace l.job l.good_prices l.i j (place_of l.self j) (worth_of l.self j);
}
