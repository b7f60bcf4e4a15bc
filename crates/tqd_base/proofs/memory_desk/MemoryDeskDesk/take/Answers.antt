use Rattle.tqd_base.proofs.Whole.{some_slot}
use Rattle.tqd_base.proofs.memory_desk.MemoryDeskDesk.take.Goals as goal

pub fail_slot-requires : goal.fail_slot-requires
fail_slot-requires c = some_slot _ c.requires.reads
