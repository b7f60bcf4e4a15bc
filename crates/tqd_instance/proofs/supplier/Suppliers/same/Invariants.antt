use Rattle.std.proofs.Common.{◌≡◌, ◌<◌, ℕ, get_or}
use Rattle.tqd_instance.specs.Offer.{no_supplier}
use Rattle.tqd_instance.proofs.supplier.Suppliers.same.Given as goal

abbrev pub invariant-loop-at : goal.invariant-loop-at
invariant-loop-at l = (k : ℕ) → k < l.at → get_or l.self k no_supplier ≡ get_or l.other k no_supplier
