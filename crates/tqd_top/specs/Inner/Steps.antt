-- What a step that reads files does to the state of a desk, by cases on its answer.
use Rattle.std.specs.Prelude.{ℕ, ◌≡◌, ◌≤◌, Bool, length, IsSome, Result, Ok, Err, Vec}
use Rattle.std.specs.Global.{Global}
use Rattle.tqd_base.specs.World.{State, Name, Bytes, NeverFall}
use Rattle.tqd_base.specs.ReadAll.{IsTooLong}
use Rattle.tqd_base.specs.Calls.{Rests}
use Rattle.plan_report.specs.declared.file.InputFile.{InputFile}
use Rattle.plan_report.specs.declared.fault.FileFault.TheVariants.{Size}
use Rattle.tqd_top.specs.Reads.{ReadsAs, FailsAt}
use Rattle.tqd_top.specs.JobOf.{IsOnly, Outcome, FaultLine, plainly}
use Rattle.tqd_top.specs.declared.no_value.NoValue.{NoValue}
use Rattle.tqd_top.specs.declared.no_value.NoValue.TheVariants.{Bad, Unread, Memory}

-- the world is as it was, and no count fell
pub record IsStill (old new : State) : Type 0 where
  pub world : new.world ≡ old.world
  pub never_fall : NeverFall old.faults new.faults

-- a halt at this fault, or for want of memory
abbrev pub StopsAt : FaultLine → NoValue → Type 0
StopsAt told (Bad fault text) = told ≡ record { fault = fault; text = text.items }
StopsAt told (Unread file) = ⊥
StopsAt told Memory = Unit {0}

-- what a call answered of bytes, where this is what they state
abbrev pub Yields : {V : Type 0} → Outcome V → Result V NoValue → Type 0
Yields stated (Ok value) = stated ≡ Ok value
Yields stated (Err (Bad fault text)) = stated ≡ Err (record { fault = fault; text = text.items })
Yields stated (Err (Unread file)) = ⊥
Yields stated (Err Memory) = Unit {0}

-- what a call answered, where this states one outcome
abbrev pub Answers : {V : Type 0} → (Outcome V → Type 0) → Result V NoValue → Type 0
Answers States (Ok value) = IsOnly (Unit {0}) States (Ok value)
Answers States (Err (Bad fault text)) = IsOnly (Unit {0}) States (Err (record { fault = fault; text = text.items }))
Answers States (Err (Unread file)) = ⊥
Answers States (Err Memory) = Unit {0}

-- reading files: the outcome that they state, which is one where the desk tells them; the file that could not be read;
-- or the want of memory
abbrev pub ReadGives : {V : Type 0} → (Outcome V → Type 0) → (InputFile → Type 0) → State → State → Result V NoValue
    → Type 0
ReadGives States Fails old new (Ok value) = Rests old new × IsOnly (IsSome old.world.files) States (Ok value)
ReadGives States Fails old new (Err (Bad fault text)) =
    Rests old new × IsOnly (IsSome old.world.files) States (Err (record { fault = fault; text = text.items }))
ReadGives States Fails old new (Err (Unread file)) = IsStill old new × Fails file
ReadGives States Fails old new (Err Memory) = Rests old new

-- the one file that was read failed
pub record IsFileUnread (old new : State) (file : InputFile) (name : Name) (failed : InputFile) : Type 0 where
  pub is_file : failed ≡ file
  pub fails : FailsAt old new name

-- reading the bytes of one file, at most so many
abbrev pub InputGives : Bool → State → State → InputFile → Name → ℕ → Result (Vec ℕ Global) NoValue → Type 0
InputGives absent_is_empty old new file name limit (Ok bytes) =
    Rests old new × ReadsAs absent_is_empty old.world name bytes.items × (length bytes.items ≤ limit)
InputGives absent_is_empty old new file name limit (Err (Bad fault text)) = Rests old new
    × (record { fault = fault; text = text.items } ≡ plainly (Size file))
    × IsTooLong absent_is_empty old.world name limit
InputGives absent_is_empty old new file name limit (Err (Unread failed)) =
    IsStill old new × IsFileUnread old new file name failed
InputGives absent_is_empty old new file name limit (Err Memory) = Rests old new
