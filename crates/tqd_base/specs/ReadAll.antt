-- What reading a whole file does to the state of a desk, by cases on its answer.
use Rattle.std.specs.Prelude.{ℕ, ◌≡◌, ◌<◌, ◌≤◌, Bool, length, IfSome, Result, Ok, Err, Vec}
use Rattle.std.specs.Global.{Global}
use Rattle.tqd_base.specs.declared.read.ReadStop.{ReadStop}
use Rattle.tqd_base.specs.declared.read.ReadStop.TheVariants.{Fault, Size, Memory}
use Rattle.tqd_base.specs.World.{World, State, Name, Bytes, bytes_at, IsReadable}
use Rattle.tqd_base.specs.Calls.{Rests, FailsReading}

-- the bytes are the whole file, where told, and within the limit
pub record IsWhole (absent_is_empty : Bool) (w : World) (name : Name) (limit : ℕ) (bytes : Bytes) : Type 0 where
  pub readable : IsReadable absent_is_empty w name
  pub all : IfSome (bytes_at w name) (λ file. bytes ≡ file)
  pub within : length bytes ≤ limit

-- the file, where told, is longer than the limit
pub record IsTooLong (absent_is_empty : Bool) (w : World) (name : Name) (limit : ℕ) : Type 0 where
  pub readable : IsReadable absent_is_empty w name
  pub beyond : IfSome (bytes_at w name) (λ file. limit < length file)

abbrev pub ReadAllGives : Bool → State → State → Name → ℕ → Result (Vec ℕ Global) ReadStop → Type 0
ReadAllGives absent_is_empty old new name limit (Ok bytes) = Rests old new × IsWhole absent_is_empty old.world name limit bytes.items
ReadAllGives absent_is_empty old new name limit (Err Fault) = FailsReading old new name
ReadAllGives absent_is_empty old new name limit (Err Size) = Rests old new × IsTooLong absent_is_empty old.world name limit
ReadAllGives absent_is_empty old new name limit (Err Memory) = Rests old new
