-- No slot is open.
use Rattle.tqd_base.specs.World.{IsIdle}
use Rattle.tqd_base.specs.MemoryState.{memory_state}
use Rattle.top_tests.proofs.runs.desk_with.Given as goal

abbrev pub invariant-loop-file : goal.invariant-loop-file
invariant-loop-file l = IsIdle (memory_state l.desk).world
