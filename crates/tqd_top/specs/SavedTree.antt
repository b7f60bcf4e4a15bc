-- The file of a tree after a `solve` or a `requote`: whole, or cut short.
use Rattle.std.specs.Prelude.{ℕ, ◌≡◌, ◌≤◌, ◌⊎◌, Option, None, Some, length, take}
use Rattle.tqd_base.specs.World.{World, Name, Bytes, set_file}

-- the world with the text in the file of this name, and all else as it was; without a name it is as it was
unfoldable pub saved : World → Option Name → Bytes → World
saved w None text = w
saved w (Some name) text = set_file w name text

-- the file was not made, or has a prefix of the text; all else is as it was
abbrev pub IsCutShort : World → World → Name → Bytes → Type 0
IsCutShort old new name text =
    (new ≡ old) ⊎ ((count : ℕ) × (count ≤ length text) × (new ≡ set_file old name (take count text)))

-- the file that is given was cut short
abbrev pub IsGivenCut : World → World → Option Name → Bytes → Type 0
IsGivenCut old new file text = (name : Name) × (file ≡ Some name) × IsCutShort old new name text
