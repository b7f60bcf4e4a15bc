-- The whole lines of a text.
use Rattle.std.specs.Prelude.{List, [], ◌∷◌}
use Rattle.std.specs.List.{slice_split}
use Rattle.tqd_base.specs.World.{Bytes}
use Rattle.tree_checker.specs.LineEnd.{ends_line}

-- all of a list but its last element
abbrev pub without_last : {A : Type 0} → List A → List A
without_last [] = []
without_last (x ∷ []) = []
without_last (x ∷ y ∷ xs) = x ∷ without_last (y ∷ xs)

-- what stands before each line feed; what stands after the last one is no whole line
unfoldable pub lines_of : Bytes → List Bytes
lines_of text = without_last (slice_split ends_line text)
