-- The lines of a structure by the name that they lead from, which `assembly` gives.
use Rattle.std.specs.Prelude.{ℕ, ◌≡◌, ◌-◌, ◌<◌, ◌≤◌, List, length, slice_index}
use Rattle.bom_explode.specs.Structure.{Structure}

-- the first `count` lines: `first` gives the last line that leads from a name, and `next` the one before a line that leads
-- from the same name, each as its number and 1, or as 0 where there is none
pub record AreChainsTo (s : Structure) (count : ℕ) (first next : List ℕ) : Type 0 where
  pub firsts : length first ≡ s.names
  pub nexts : length next ≡ count
  pub first_most : (n : ℕ) → n < s.names → slice_index first n ≤ count
  pub first_from : (n : ℕ) → n < s.names → 0 < slice_index first n → s.assembly (slice_index first n - 1) ≡ n
  pub next_most : (l : ℕ) → l < count → slice_index next l ≤ l
  pub next_from : (l : ℕ) → l < count → 0 < slice_index next l → s.assembly (slice_index next l - 1) ≡ s.assembly l
  pub first_above : (l : ℕ) → l < count → l < slice_index first (s.assembly l)
  pub next_above : (k l : ℕ) → k < l → l < count → s.assembly k ≡ s.assembly l → k < slice_index next l

abbrev pub AreChains : Structure → List ℕ → List ℕ → Type 0
AreChains s first next = AreChainsTo s s.lines first next
