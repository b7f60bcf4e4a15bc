-- No slot is open.
use Rattle.tqd_base.specs.World.{IsIdle}
use Rattle.tqd_base.specs.MemoryState.{memory_state}
use Rattle.top_tests.proofs.runs.printed_by.Given as goal

abbrev pub invariant-loop-line : goal.invariant-loop-line
invariant-loop-line g l = IsIdle (memory_state l.desk).world
