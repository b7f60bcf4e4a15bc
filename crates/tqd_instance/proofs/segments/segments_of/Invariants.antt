use Rattle.std.proofs.Common.{◌≡◌, ◌++◌, drop}
use Rattle.tqd_instance.specs.Built.{segments_of}
use Rattle.tqd_instance.specs.Rows.{cut_segments}
use Rattle.tqd_instance.proofs.segments.segments_of.Given as goal

abbrev pub invariant-loop-at : goal.invariant-loop-at
invariant-loop-at l = l.segments.items ++ cut_segments l.parts l.i (drop l.at l.froms) ≡ segments_of l.parts l.i l.froms
