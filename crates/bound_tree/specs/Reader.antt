-- The lines of a text, one after another.
use Rattle.std.specs.Prelude.{ℕ, ◌≡◌, ◌==◌, Bool, if◌then◌else◌, nat_lt, [], length, Option, None, Some, Result, Ok, Err}
use Rattle.std.specs.List.{position_or_len, before_first, after_first}
use Rattle.tqd_base.specs.World.{Bytes}
use Rattle.tqd_base.specs.declared.memory.Memory.{Memory}
use Rattle.bound_tree.specs.declared.line.TreeLine.{TreeLine}
use Rattle.bound_tree.specs.declared.reader.LineGot.{LineGot}
use Rattle.bound_tree.specs.declared.reader.LineGot.TheVariants.{Line, Bad, Cut, End}
use Rattle.bound_tree.specs.ReadLine.{read_line}

abbrev pub is_feed : ℕ → Bool
is_feed byte = byte == 10

-- whether a line feed is among the bytes left, so that a whole line is
abbrev pub has_line : Bytes → Bool
has_line left = nat_lt (position_or_len is_feed left) (length left)

abbrev pub got_of : Option TreeLine → LineGot
got_of None = Bad
got_of (Some line) = Line line

-- what is left without a line feed
abbrev pub rest_got : Bytes → LineGot
rest_got [] = End
rest_got _ = Cut

-- what the next line is: the bytes before the first line feed, where there is one
abbrev pub next_got : Bytes → LineGot
next_got left = if has_line left then got_of (read_line (before_first is_feed left)) else rest_got left

-- the bytes left after it: those after that line feed, where there is one
abbrev pub next_left : Bytes → Bytes
next_left left = if has_line left then after_first is_feed left else left

-- the next line is read, or, where memory is wanting, all is as it was
abbrev pub ReadsNext : Bytes → Bytes → Result LineGot Memory → Type 0
ReadsNext old new (Ok got) = (got ≡ next_got old) × (new ≡ next_left old)
ReadsNext old new (Err stop) = new ≡ old
