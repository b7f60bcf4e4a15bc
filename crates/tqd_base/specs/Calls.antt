-- What each call of a desk does to its state, by cases on its answer.
use Rattle.std.specs.Prelude.{ℕ, ◌≡◌, ◌≤◌, Bool, [], length, take, Some, None, IsSome, IfSome, Result, Ok, Err}
use Rattle.std.specs.Option.{option_map}
use Rattle.tqd_base.specs.declared.desk.DeskStop.{DeskStop}
use Rattle.tqd_base.specs.declared.desk.DeskStop.TheVariants.{Failed, Memory}
use Rattle.tqd_base.specs.World.{State, Name, Bytes, Reading, Writing, NeverFall, Rose, Writes, set_slot, set_file, append, print, bytes_at, left_at, name_at, shortened, IsReadable}

-- the world and the name that failed last are as they were
pub record Rests (old new : State) : Type 0 where
  pub world : new.world ≡ old.world
  pub kept : new.failed_last ≡ old.failed_last
  pub never_fall : NeverFall old.faults new.faults

-- a fault of reading this name: nothing else changed
pub record FailsReading (old new : State) (name : Name) : Type 0 where
  pub world : new.world ≡ old.world
  pub rose : Rose old.faults.reading new.faults.reading
  pub named : IsSome old.world.files → new.failed_last ≡ Some name
  pub never_fall : NeverFall old.faults new.faults

-- a new slot that reads the file from its beginning
pub record Opens (absent_is_empty : Bool) (old new : State) (name : Name) (slot : ℕ) : Type 0 where
  pub fresh : old.world.slots slot ≡ None
  pub readable : IsReadable absent_is_empty old.world name
  pub world : new.world ≡ set_slot old.world slot (Some (Reading name (bytes_at old.world name)))
  pub kept : new.failed_last ≡ old.failed_last
  pub never_fall : NeverFall old.faults new.faults

abbrev pub OpenGives : Bool → State → State → Name → Result ℕ DeskStop → Type 0
OpenGives absent_is_empty old new name (Ok slot) = Opens absent_is_empty old new name slot
OpenGives absent_is_empty old new name (Err Failed) = FailsReading old new name
OpenGives absent_is_empty old new name (Err Memory) = Rests old new

-- the first n of the bytes left are moved to the front of a buffer; none are moved only where none are left
pub record Moves (left : Bytes) (buffer : Bytes) (n : ℕ) : Type 0 where
  pub within : n ≤ length left
  pub moved : take n buffer ≡ take n left
  pub ended : n ≡ 0 → left ≡ []

-- a reading slot gives up the bytes at the front of those that it has left
pub record Takes (old new : State) (slot : ℕ) (buffer : Bytes) (n : ℕ) : Type 0 where
  pub fits : n ≤ length buffer
  pub moves : IfSome (left_at old.world slot) (λ left. Moves left buffer n)
  pub world : new.world ≡ set_slot old.world slot (option_map (shortened n) (old.world.slots slot))
  pub kept : new.failed_last ≡ old.failed_last
  pub never_fall : NeverFall old.faults new.faults

abbrev pub TakeGives : State → State → ℕ → Bytes → Result ℕ DeskStop → Type 0
TakeGives old new slot buffer (Ok n) = Takes old new slot buffer n
TakeGives old new slot buffer (Err Failed) = FailsReading old new (name_at old.world slot)
TakeGives old new slot buffer (Err Memory) = ⊥

-- a fault of writing: nothing else changed
pub record FailsWriting (old new : State) : Type 0 where
  pub rests : Rests old new
  pub rose : Rose old.faults.writing new.faults.writing

-- a new slot that writes the file, which is empty from now on
pub record Makes (old new : State) (name : Name) (slot : ℕ) : Type 0 where
  pub fresh : old.world.slots slot ≡ None
  pub world : new.world ≡ set_slot (set_file old.world name []) slot (Some (Writing name))
  pub kept : new.failed_last ≡ old.failed_last
  pub never_fall : NeverFall old.faults new.faults

abbrev pub MakeGives : State → State → Name → Result ℕ DeskStop → Type 0
MakeGives old new name (Ok slot) = Makes old new name slot
MakeGives old new name (Err Failed) = FailsWriting old new
MakeGives old new name (Err Memory) = Rests old new

-- the slot's file grows by a piece
pub record Puts (old new : State) (slot : ℕ) (piece : Bytes) : Type 0 where
  pub world : new.world ≡ append old.world (name_at old.world slot) piece
  pub kept : new.failed_last ≡ old.failed_last
  pub never_fall : NeverFall old.faults new.faults

-- the slot's file grows by a prefix of a piece
abbrev pub PutsPrefix : State → State → ℕ → Bytes → Type 0
PutsPrefix old new slot piece = (n : ℕ) × (n ≤ length piece) × Puts old new slot (take n piece)

abbrev pub PutGives : State → State → ℕ → Bytes → Result (Unit {0}) DeskStop → Type 0
PutGives old new slot piece (Ok done) = Puts old new slot piece
PutGives old new slot piece (Err Failed) = Rose old.faults.writing new.faults.writing × PutsPrefix old new slot piece
PutGives old new slot piece (Err Memory) = PutsPrefix old new slot piece

-- the output grows by a piece
pub record Prints (old new : State) (piece : Bytes) : Type 0 where
  pub world : new.world ≡ print old.world piece
  pub kept : new.failed_last ≡ old.failed_last
  pub never_fall : NeverFall old.faults new.faults

-- the output grows by a prefix of a piece
abbrev pub PrintsPrefix : State → State → Bytes → Type 0
PrintsPrefix old new piece = (n : ℕ) × (n ≤ length piece) × Prints old new (take n piece)

abbrev pub OutGives : State → State → Bytes → Result (Unit {0}) DeskStop → Type 0
OutGives old new piece (Ok done) = Prints old new piece
OutGives old new piece (Err Failed) = Rose old.faults.printing new.faults.printing × PrintsPrefix old new piece
OutGives old new piece (Err Memory) = PrintsPrefix old new piece

-- a slot ends
pub record Closes (old new : State) (slot : ℕ) : Type 0 where
  pub world : new.world ≡ set_slot old.world slot None
  pub kept : new.failed_last ≡ old.failed_last
  pub never_fall : NeverFall old.faults new.faults

abbrev pub CloseGives : State → State → ℕ → Result (Unit {0}) DeskStop → Type 0
CloseGives old new slot (Ok done) = Closes old new slot
CloseGives old new slot (Err Failed) = Rose old.faults.writing new.faults.writing × Writes (old.world.slots slot) × Closes old new slot
CloseGives old new slot (Err Memory) = ⊥
