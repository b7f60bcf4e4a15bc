-- What a desk in memory is told and tells.
use Rattle.std.specs.Prelude.{Option}
use Rattle.std.specs.Option.{option_map}
use Rattle.tqd_base.specs.World.{World, State, Name, Bytes, set_file}

-- the state with other bytes in a file, and all else as it was
abbrev pub with_file : State → Name → Bytes → State
with_file state name bytes = record state { world = set_file state.world name bytes }

-- what the desk tells of a file: where it tells its files, the bytes of this one, or that no file has that name
unfoldable pub told_of : World → Name → Option (Option Bytes)
told_of w name = option_map (λ files. files name) w.files
