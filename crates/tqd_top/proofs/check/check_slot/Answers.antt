-- The slot is closed, whatever the checker answered.
use Rattle.tqd_top.proofs.Checked.{reads_some, slot_ended}
use Rattle.tqd_top.proofs.check.check_slot.Goals as goal

pub close-closed-requires : goal.close-closed-requires
close-closed-requires g c = reads_some _ c.check_from-verdict.ensures.drains.reads

pub returns : goal.returns
returns g c = slot_ended _ _ _ _ _ _ _ _ c.check_from-verdict.ensures c.close-closed.ensures c.verdict_or_halt.ensures
