-- Texts of lines. A line ends with a line feed (10), and in a table its fields stand behind a tab (9) each.
use Rattle.std.specs.Prelude.{ℕ, zero, suc, List, [], ◌∷◌, ◌++◌}
use Rattle.std.specs.List.{flat_map}
use Rattle.tqd_base.specs.World.{Bytes}

-- a line of a table: a word and the fields
abbrev pub line : Bytes → List Bytes → Bytes
line word fields = word ++ flat_map (λ field. 9 ∷ field) fields ++ 10 ∷ []

-- f 0, f 1, .. f (n - 1), one after another
unfoldable pub texts_to : ℕ → (ℕ → Bytes) → Bytes
texts_to zero f = []
texts_to (suc n) f = texts_to n f ++ f n
