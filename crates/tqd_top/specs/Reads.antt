-- What reading a file gives, and what a failure to read it shows.
use Rattle.std.specs.Prelude.{◌≡◌, Bool, Some, IsSome, IfSome}
use Rattle.tqd_base.specs.World.{World, State, Name, Bytes, Rose, IsReadable, bytes_at}

-- reading a name gives these bytes: where told, those of the file
pub record ReadsAs (absent_is_empty : Bool) (w : World) (name : Name) (bytes : Bytes) : Type 0 where
  pub readable : IsReadable absent_is_empty w name
  pub all : IfSome (bytes_at w name) (λ file. bytes ≡ file)

-- the count of reading faults rose, and where the files are told the name that failed last is this one
pub record FailsAt (old new : State) (name : Name) : Type 0 where
  pub rose : Rose old.faults.reading new.faults.reading
  pub named : IsSome old.world.files → new.failed_last ≡ Some name
