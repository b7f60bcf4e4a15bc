-- A desk over real files tells its slots and their names, and no content.
use Rattle.std.specs.Prelude.{ℕ, Option, None, Some, List, slice_get, option_and_then, string_bytes}
use Rattle.tqd_base.specs.declared.real_slot.RealSlot.{RealSlot}
use Rattle.tqd_base.specs.declared.real_slot.RealSlot.TheVariants.{Closed, Reading as ReadsFile, Writing as WritesFile}
use Rattle.tqd_base.specs.World.{World, State, Slot, Reading, Writing}

unfoldable pub real_slot : {F : Type 0} → RealSlot F → Option Slot
real_slot Closed = None
real_slot (ReadsFile name file) = Some (Reading (string_bytes name) None)
real_slot (WritesFile name file) = Some (Writing (string_bytes name))

unfoldable pub real_world : {F : Type 0} → List (RealSlot F) → World
real_world slots = record {
  files = None;
  output = None;
  slots = λ n. option_and_then real_slot (slice_get slots n);
}

-- the slots, and how many faults there were of reading, of writing and of printing
abbrev pub real_state : {F : Type 0} → List (RealSlot F) → ℕ → ℕ → ℕ → State
real_state slots reading writing printing = record {
  world = real_world slots;
  faults = record { reading = reading; writing = writing; printing = printing };
  failed_last = None;
}
