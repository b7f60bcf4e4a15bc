use Rattle.std.proofs.Common.{◌≡◌, take}
use Rattle.tqd_instance.proofs.supplier.Segments.copy.Given as goal

abbrev pub invariant-loop-at : goal.invariant-loop-at
invariant-loop-at l = l.segments.items ≡ take l.at l.self
