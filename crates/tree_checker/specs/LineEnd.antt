-- Where a line ends.
use Rattle.std.specs.Prelude.{ℕ, ◌==◌, Bool}

-- a line feed, which is byte 10, ends a line
abbrev pub ends_line : ℕ → Bool
ends_line byte = byte == 10
