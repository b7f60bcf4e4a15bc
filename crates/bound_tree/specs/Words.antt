-- The words of a line and the numbers that they write.
use Rattle.std.specs.Prelude.{◌==◌, List, [], ◌∷◌, Option, Some}
use Rattle.std.specs.Option.{option_map, option_and_then}
use Rattle.std.specs.List.{slice_split}
use Rattle.tqd_base.specs.World.{Bytes}

-- the words of a line stand between its spaces (32): one more than there are spaces, and some may be empty
abbrev pub words : Bytes → List Bytes
words line = slice_split (λ byte. byte == 32) line

-- the numbers that texts write, where each of them writes one
abbrev pub numbers_of : {A : Type 0} → (Bytes → Option A) → List Bytes → Option (List A)
numbers_of read [] = Some []
numbers_of read (text ∷ texts) = option_and_then (λ n. option_map (λ ns. n ∷ ns) (numbers_of read texts)) (read text)
