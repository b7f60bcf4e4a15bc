use Rattle.std.proofs.Common.{arith}
use Rattle.tqd_base.proofs.DeskLemmas.{writing_slot}
use Rattle.tqd_base.proofs.memory_desk.MemoryDeskDesk.close.Goals as goal

pub returns-then-is_due-clause-gives : goal.returns-then-is_due-clause-gives
returns-then-is_due-clause-gives c = (
  c.risen-self.ensures.rose,
  writing_slot _ _ c.if-not-writes.false c.is_writing-writes.ensures,
  record {
    world = c.end.ensures.world;
    kept = c.end.ensures.failed;
    never_fall = record { reading = omega arith; writing = c.risen-self.ensures.grows; printing = omega arith };
  },
)
