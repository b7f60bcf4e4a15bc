use Rattle.std.proofs.Common.{◌≡◌, ℕ, ◌<◌, false, get_or}
use Rattle.tqd_instance.specs.Offer.{no_segment, holds}
use Rattle.tqd_instance.proofs.supplier.Segments.place_of.Given as goal

abbrev pub invariant-loop-at : goal.invariant-loop-at
invariant-loop-at l = (k : ℕ) → k < l.at → holds l.total (get_or l.self k no_segment) ≡ false
