use Rattle.std.proofs.Common.{take, length, false}
use Rattle.tqd_instance.specs.Rows.{AreValues, offers_in}
use Rattle.tqd_instance.proofs.offers.offers_of.Given as goal

abbrev pub invariant-loop-row : goal.invariant-loop-row
invariant-loop-row l = AreValues (length l.parts.needs) false (offers_in (take l.row-index l.rows)) l.offered.items
