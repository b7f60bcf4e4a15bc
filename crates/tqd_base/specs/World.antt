-- What a desk tells of its files, its output and its open slots, and how a call changes that.
-- Every 'where told' is an option: None says that the desk does not tell it.
use Rattle.std.specs.Prelude.{ℕ, ◌≡◌, ◌≢◌, ◌+◌, ◌-◌, ◌^◌, ◌≤◌, ◌==◌, min, Bool, true, if◌then◌else◌, List, [], ◌++◌, drop, nat_eq, Option, Some, None, IfSome, unwrap_or, option_and_then}
use Rattle.std.specs.Option.{option_map}
use Rattle.std.specs.Cmp.Lexicographic.{pointwise}

-- a name, as its bytes
abbrev pub Name : Type 0
Name = List ℕ

abbrev pub Bytes : Type 0
Bytes = List ℕ

-- an open slot: of which file it is, and whether it reads, with the bytes left where told, or writes
pub data Slot : Type 0 where
  Reading : Name → Option Bytes → Slot
  Writing : Name → Slot

pub record World : Type 0 where
  pub files : Option (Name → Option Bytes)
  pub output : Option Bytes
  pub slots : ℕ → Option Slot

-- how many faults there were of reading, of writing and of printing
pub record Faults : Type 0 where
  pub reading : ℕ
  pub writing : ℕ
  pub printing : ℕ

-- no count is below what it was
pub record NeverFall (old new : Faults) : Type 0 where
  pub reading : old.reading ≤ new.reading
  pub writing : old.writing ≤ new.writing
  pub printing : old.printing ≤ new.printing

-- a count of faults rose; it stands still at the greatest number of 64 bits, and counts as risen there
unfoldable pub Rose : ℕ → ℕ → Type 0
Rose before now = min (before + 1) (2 ^ 64 - 1) ≤ now

-- all that is said of a desk: its world, its counts of faults, and the name whose reading failed last
pub record State : Type 0 where
  pub world : World
  pub faults : Faults
  pub failed_last : Option Name

-- the name of a slot
unfoldable pub name_of : Slot → Name
name_of (Reading name left) = name
name_of (Writing name) = name

-- the bytes that a reading slot has left, where told
unfoldable pub left_of : Slot → Option Bytes
left_of (Reading name left) = left
left_of (Writing name) = None

-- a reading slot without the first n bytes of those that it has left
unfoldable pub shortened : ℕ → Slot → Slot
shortened n (Reading name left) = Reading name (option_map (drop n) left)
shortened n (Writing name) = Writing name

-- the bytes that the slot of a number has left, where it is open, reads and they are told
unfoldable pub left_at : World → ℕ → Option Bytes
left_at w number = option_and_then left_of (w.slots number)

unfoldable pub Reads : Option Slot → Type 0
Reads (Some (Reading name left)) = Unit {0}
Reads (Some (Writing name)) = ⊥
Reads None = ⊥

unfoldable pub Writes : Option Slot → Type 0
Writes (Some (Reading name left)) = ⊥
Writes (Some (Writing name)) = Unit {0}
Writes None = ⊥

-- the name of the slot of a number; of one that is not open, the empty name
unfoldable pub name_at : World → ℕ → Name
name_at w number = unwrap_or (option_map name_of (w.slots number)) []

-- no open slot is of this name
unfoldable pub HasNoSlot : World → Name → Type 0
HasNoSlot w name = (n : ℕ) → IfSome (w.slots n) (λ slot. name_of slot ≢ name)

-- no slot is open
unfoldable pub IsIdle : World → Type 0
IsIdle w = (n : ℕ) → w.slots n ≡ None

-- the world with another slot at a number, and all else as it was
unfoldable pub set_slot : World → ℕ → Option Slot → World
set_slot w number slot = record w { slots = λ n. if n == number then slot else w.slots n }

-- the world with other bytes in a file, and all else as it was
unfoldable pub set_file : World → Name → Bytes → World
set_file w name bytes = record w { files = option_map (λ files other. if pointwise nat_eq other name then Some bytes else files other) w.files }

-- the bytes of a file, where told; of a name that is not there, none
unfoldable pub bytes_at : World → Name → Option Bytes
bytes_at w name = option_map (λ files. unwrap_or (files name) []) w.files

-- the world with a piece more at the end of a file that is there, and all else as it was
unfoldable pub append : World → Name → Bytes → World
append w name piece = record w { files = option_map (λ files other. if pointwise nat_eq other name then option_map (λ bytes. bytes ++ piece) (files other) else files other) w.files }

-- the world with a piece more at the end of the output, and all else as it was
unfoldable pub print : World → Bytes → World
print w piece = record w { output = option_map (λ output. output ++ piece) w.output }

-- a name that the desk tells is not there is read only where such names read as empty
unfoldable pub IsReadable : Bool → World → Name → Type 0
IsReadable absent_is_empty w name = IfSome w.files (λ files. files name ≡ None → absent_is_empty ≡ true)
