use Rattle.std.proofs.Common.{ℕ, ◌≡◌, ◌<◌, length, get_or}
use Rattle.tqd_instance.specs.Offer.{no_supplier}
use Rattle.tqd_instance.specs.Cuts.{cut_nth}
use Rattle.tqd_instance.proofs.supplier.Suppliers.cut.Given as goal

abbrev pub invariant-loop-n : goal.invariant-loop-n
invariant-loop-n l = record {
  count : length l.suppliers.items ≡ l.n;
  each : (m : ℕ) → m < l.n → get_or l.suppliers.items m no_supplier ≡ cut_nth l.i l.cut m (get_or l.self m no_supplier);
}
