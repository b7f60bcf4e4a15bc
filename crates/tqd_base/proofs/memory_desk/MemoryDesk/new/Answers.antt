use Rattle.std.proofs.Common.{refl}
use Rattle.tqd_base.proofs.memory_desk.MemoryDesk.new.Goals as goal

pub returns-clause-empty : goal.returns-clause-empty
returns-clause-empty c = c.new.ensures.world

pub returns-clause-faults : goal.returns-clause-faults
returns-clause-faults c = record { reading = refl; writing = refl; printing = refl; failed_last = c.new.ensures.failed }
