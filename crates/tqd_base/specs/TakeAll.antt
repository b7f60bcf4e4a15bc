-- What taking all that a reading slot has left does to the state of a desk, by cases on its answer.
use Rattle.std.specs.Prelude.{ℕ, ◌≡◌, ◌<◌, ◌≤◌, Some, None, IsSome, IfSome, length, vec_len, Result, Ok, Err, Vec}
use Rattle.std.specs.Global.{Global}
use Rattle.tqd_base.specs.declared.read.ReadStop.{ReadStop}
use Rattle.tqd_base.specs.declared.read.ReadStop.TheVariants.{Fault, Size, Memory}
use Rattle.tqd_base.specs.World.{State, NeverFall, Rose, Reads, set_slot, left_at, name_at}

-- the slot still reads, and all but what it has left is as it was
pub record Drains (old new : State) (slot : ℕ) : Type 0 where
  pub reads : Reads (new.world.slots slot)
  pub others : set_slot new.world slot None ≡ set_slot old.world slot None
  pub never_fall : NeverFall old.faults new.faults

abbrev pub TakeAllAnswers : State → State → ℕ → ℕ → Result (Vec ℕ Global) ReadStop → Type 0
TakeAllAnswers old new slot limit (Ok bytes) = (new.failed_last ≡ old.failed_last) × IfSome (left_at old.world slot) (λ all. bytes.items ≡ all) × (vec_len bytes ≤ limit)
TakeAllAnswers old new slot limit (Err Fault) = (IsSome old.world.files → new.failed_last ≡ Some (name_at old.world slot)) × Rose old.faults.reading new.faults.reading
TakeAllAnswers old new slot limit (Err Size) = (new.failed_last ≡ old.failed_last) × IfSome (left_at old.world slot) (λ all. limit < length all)
TakeAllAnswers old new slot limit (Err Memory) = new.failed_last ≡ old.failed_last

pub record TakeAllGives (old new : State) (slot limit : ℕ) (result : Result (Vec ℕ Global) ReadStop) : Type 0 where
  pub drains : Drains old new slot
  pub answer : TakeAllAnswers old new slot limit result
