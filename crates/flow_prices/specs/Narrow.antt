use Rattle.std.specs.Prelude.{ℕ, ◌≡◌, ◌+◌, ◌-◌, ◌*◌, ◌<◌, ◌≤◌, min, List, length, slice_index, Option, None, Some}
use Rattle.flow_prices.specs.declared.narrow.TheConstants.{UNMADE}

-- b is a place of a least number among those with no narrowed number
pub record IsLeastAt (numbers narrowed : List ℕ) (b : ℕ) : Type 0 where
  pub inside : b < length numbers
  pub unmade : slice_index narrowed b ≡ UNMADE
  pub least : (v : ℕ) → v < length numbers → slice_index narrowed v ≡ UNMADE → slice_index numbers b ≤ slice_index numbers v

abbrev pub IsLeast : List ℕ → List ℕ → Option ℕ → Type 0
IsLeast numbers narrowed None = (v : ℕ) → v < length numbers → slice_index narrowed v ≡ UNMADE → UNMADE ≤ slice_index numbers v
IsLeast numbers narrowed (Some b) = IsLeastAt numbers narrowed b

-- a and b are as far apart as x and y, or nearer, but no nearer than `gap` where they are not as far apart
pub record IsNarrowed (gap x y a b : ℕ) : Type 0 where
  pub order : a ≤ b
  pub most : b ≤ a + (y - x)
  pub least : a + min (y - x) gap ≤ b

-- the narrowed numbers of a list, from 0 on
pub record AreNarrowed (numbers : List ℕ) (gap : ℕ) (narrowed : List ℕ) : Type 0 where
  pub length_same : length narrowed ≡ length numbers
  pub each : (u v : ℕ) → u < length numbers → v < length numbers → slice_index numbers u ≤ slice_index numbers v
      → IsNarrowed gap (slice_index numbers u) (slice_index numbers v) (slice_index narrowed u) (slice_index narrowed v)
  pub most : (v : ℕ) → v < length numbers → slice_index narrowed v ≤ (length numbers - 1) * gap
