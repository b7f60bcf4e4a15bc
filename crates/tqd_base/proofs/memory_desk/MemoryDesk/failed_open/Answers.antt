use Rattle.std.proofs.Common.{arith}
use Rattle.tqd_base.specs.MemoryState.{memory_state}
use Rattle.tqd_base.proofs.DeskLemmas.{same_faults}
use Rattle.tqd_base.proofs.memory_desk.MemoryDesk.failed_open.Goals as goal

pub returns-in-Ok-clause-gives : goal.returns-in-Ok-clause-gives
returns-in-Ok-clause-gives c = record {
  world = c.fail_name.ensures.world;
  rose = c.risen-self.ensures.rose;
  named = λ told. c.in-Ok.ensures.failed;
  never_fall = record { reading = c.risen-self.ensures.grows; writing = omega arith; printing = omega arith };
}

pub returns-in-Err-clause-gives : goal.returns-in-Err-clause-gives
returns-in-Err-clause-gives c = record { world = c.fail_name.ensures.world; kept = c.in-Err.ensures.stays; never_fall = (same_faults (memory_state c.args.self.now).faults) }
