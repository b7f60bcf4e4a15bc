-- The files and the slots that are kept in memory.
use Rattle.std.specs.Prelude.{ℕ, zero, suc, ◌≡◌, true, false, Option, None, Some, List, [], ◌∷◌, if◌then◌else◌, drop, nat_eq, slice_get, option_and_then, string_bytes}
use Rattle.std.specs.Option.{option_map}
use Rattle.std.specs.Cmp.Lexicographic.{pointwise}
use Rattle.tqd_base.specs.declared.kept.StoredFile.{StoredFile}
use Rattle.tqd_base.specs.declared.kept.SlotState.TheVariants.{Closed, Reading as ReadsOn, Writing as WritesOn}
use Rattle.tqd_base.specs.declared.kept.KeptSlot.{KeptSlot}
use Rattle.tqd_base.specs.declared.kept.SlotState.{SlotState}
use Rattle.tqd_base.specs.World.{World, Name, Bytes, Slot, Reading, Writing}

-- the bytes of the first file of a name
unfoldable pub file_at : List StoredFile → Name → Option Bytes
file_at [] name = None
file_at (file ∷ files) name = if pointwise nat_eq name (string_bytes file.name) then Some file.bytes.items else file_at files name

-- the file at a place is the first of a name
unfoldable pub IsFirstAt : List StoredFile → Name → ℕ → Type 0
IsFirstAt [] name i = ⊥
IsFirstAt (file ∷ files) name zero = pointwise nat_eq name (string_bytes file.name) ≡ true
IsFirstAt (file ∷ files) name (suc i) = (pointwise nat_eq name (string_bytes file.name) ≡ false) × IsFirstAt files name i

-- a slot of a name in such a state
abbrev pub slot_in : Name → SlotState → Option Slot
slot_in name Closed = None
slot_in name (ReadsOn bytes at) = Some (Reading name (Some (drop at bytes.items)))
slot_in name WritesOn = Some (Writing name)

unfoldable pub slot_of : KeptSlot → Option Slot
slot_of kept = slot_in (string_bytes kept.name) kept.state

-- files, an output and slots, seen as the world of a desk that tells all
unfoldable pub world_at : List StoredFile → Bytes → List KeptSlot → World
world_at files output slots = record {
  files = Some (file_at files);
  output = Some output;
  slots = λ n. option_and_then slot_of (slice_get slots n);
}

-- the name of the slot at a place, also of one that has ended
unfoldable pub name_kept : List KeptSlot → Option ℕ → Option Name
name_kept slots place = option_and_then (λ i. option_map (λ kept. string_bytes kept.name) (slice_get slots i)) place
