use Rattle.std.proofs.Common.{◌≡◌, ◌<◌, ℕ, length, get_or}
use Rattle.tqd_instance.specs.Offer.{no_supplier}
use Rattle.tqd_instance.specs.Rows.{IsBuilt, LacksNoneOf}
use Rattle.tqd_instance.proofs.seller.suppliers_of.Given as goal

abbrev pub invariant-loop-i : goal.invariant-loop-i
invariant-loop-i l = record {
  count : length l.suppliers.items ≡ l.i;
  built : (i : ℕ) → i < l.i → IsBuilt l.parts i (get_or l.suppliers.items i no_supplier);
  complete : (i : ℕ) → i < l.i → LacksNoneOf l.parts i;
}
