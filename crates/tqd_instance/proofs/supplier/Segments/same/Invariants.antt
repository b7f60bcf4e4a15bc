use Rattle.std.proofs.Common.{◌≡◌, ◌<◌, ℕ, get_or}
use Rattle.tqd_instance.specs.Offer.{no_segment}
use Rattle.tqd_instance.proofs.supplier.Segments.same.Given as goal

abbrev pub invariant-loop-at : goal.invariant-loop-at
invariant-loop-at l = (k : ℕ) → k < l.at → get_or l.self k no_segment ≡ get_or l.other k no_segment
