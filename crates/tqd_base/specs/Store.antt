-- What the calls of a store do to its world.
use Rattle.std.specs.Prelude.{ℕ, ◌≡◌, [], Bool, true, false, Option, Some, None, IsSomeAnd}
use Rattle.tqd_base.specs.World.{World, State, Name, Slot, Reading, Writing, set_slot, set_file}

-- no file, no output and no open slot
pub record IsEmptyWorld (w : World) : Type 0 where
  pub files : IsSomeAnd w.files (λ files. (name : Name) → files name ≡ None)
  pub output : w.output ≡ Some []
  pub slots : (n : ℕ) → w.slots n ≡ None

-- a number that no open slot had has this slot now
pub record AddsSlot (old new : World) (number : ℕ) (slot : Option Slot) : Type 0 where
  pub fresh : old.slots number ≡ None
  pub after : new ≡ set_slot old number slot

-- a number that no open slot had has a slot now that writes the file, which is empty
pub record MakesSlot (old new : World) (name : Name) (number : ℕ) : Type 0 where
  pub fresh : old.slots number ≡ None
  pub after : new ≡ set_slot (set_file old name []) number (Some (Writing name))

-- all counts of faults are 0, and no reading failed
pub record HasNoFaults (state : State) : Type 0 where
  pub reading : state.faults.reading ≡ 0
  pub writing : state.faults.writing ≡ 0
  pub printing : state.faults.printing ≡ 0
  pub failed_last : state.failed_last ≡ None

-- whether a slot is open and writes
unfoldable pub is_writing_slot : Option Slot → Bool
is_writing_slot (Some (Reading name left)) = false
is_writing_slot (Some (Writing name)) = true
is_writing_slot None = false
