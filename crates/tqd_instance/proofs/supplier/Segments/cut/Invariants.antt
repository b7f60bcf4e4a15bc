use Rattle.std.proofs.Common.{◌≡◌, map, take}
use Rattle.tqd_instance.specs.Cuts.{cut_segment}
use Rattle.tqd_instance.proofs.supplier.Segments.cut.Given as goal

abbrev pub invariant-loop-at : goal.invariant-loop-at
invariant-loop-at l = l.segments.items ≡ map (cut_segment l.cut) (take l.at l.self)
