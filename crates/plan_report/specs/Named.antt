-- The names of goods and suppliers that a text has.
use Rattle.std.specs.Prelude.{ℕ, List, [], slice_index, slice_index_or}
use Rattle.tqd_base.specs.World.{Bytes}

-- the name with a number
abbrev pub name_at : List Bytes → ℕ → Bytes
name_at names n = slice_index_or names n []

-- the name of good k, where each good has the number of its name
abbrev pub good_at : List Bytes → List ℕ → ℕ → Bytes
good_at names goods k = name_at names (slice_index goods k)
