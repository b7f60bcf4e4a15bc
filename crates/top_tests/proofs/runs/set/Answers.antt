use Rattle.std.proofs.Common.{◌≡◌, Result, Ok, Err, sym, subst}
use Rattle.std.specs.Prelude.{OnOk, OnErr}
use Rattle.tqd_base.specs.declared.memory.Memory.{Memory}
use Rattle.tqd_base.specs.World.{State, Name, Bytes, IsIdle, set_file}
use Rattle.tqd_base.specs.Told.{with_file}
use Rattle.tqd_base.specs.MemoryState.{memory_state}
use Rattle.top_tests.proofs.runs.set.Goals as goal

-- a file more opens no slot
idle_with : (old : State) (name : Name) (bytes : Bytes) → IsIdle old.world → IsIdle (with_file old name bytes).world
unfolding IsIdle set_file
idle_with old name bytes idle = idle

idle_after : (result : Result (Unit {0}) Memory) (old new : State) (name : Name) (bytes : Bytes) → OnOk result (new ≡ with_file old name bytes) → OnErr result (new ≡ old)
    → IsIdle old.world → IsIdle new.world
idle_after (Ok done) old new name bytes set stays idle = subst (λ (s : State). IsIdle s.world) (sym set) (idle_with old name bytes idle)
idle_after (Err stop) old new name bytes set stays idle = subst (λ (s : State). IsIdle s.world) (sym stays) idle

pub returns : goal.returns
returns c = idle_after c.set_file.result (memory_state c.args.desk.now) (memory_state c.set_file.new.self) c.args.name.now c.as_bytes.result.now c.set_file.ensures.set c.set_file.ensures.stays c.requires
