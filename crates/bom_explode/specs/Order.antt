-- What two searches tell of a structure: an order of its names, and marks that names on one circle have in common
-- (Kosaraju's algorithm, after Aho, Hopcroft, Ullman, Data Structures and Algorithms, 1983, section 6.7).
use Rattle.std.specs.Prelude.{ℕ, ◌≡◌, ◌<◌, ◌≤◌, ◌⊎◌, List, length, slice_index}
use Rattle.bom_explode.specs.Structure.{Structure}
use Rattle.bom_explode.specs.Below.{IsBelow}
use Rattle.bom_explode.specs.Search.{IsOn, IsMarked}

-- the names in the order in which a search down leaves them. `since n` is how many were left when n was found
pub record IsOrder (s : Structure) (order : List ℕ) : Type 0 where
  pub since : ℕ → ℕ
  pub inside : (i : ℕ) → i < length order → slice_index order i < s.names
  pub covers : (n : ℕ) → n < s.names → IsOn order n
  pub bound : (l i : ℕ) → l < s.lines → i < length order → slice_index order i ≡ s.assembly l → since (s.part l) ≤ i
  pub reach : (i j : ℕ) → i < length order → since (slice_index order i) ≤ j → j < i → IsBelow s (slice_index order j) (slice_index order i)

abbrev pub IsAtOrBelow : Structure → ℕ → ℕ → Type 0
IsAtOrBelow s p a = (p ≡ a) ⊎ IsBelow s p a

-- the name at place i of the order is n or below it, and each name from n's place on to place i is that name or below it
pub record IsMember (s : Structure) (order : List ℕ) (n i : ℕ) : Type 0 where
  pub place : ℕ
  pub here : slice_index order place ≡ n
  pub low : place ≤ i
  pub inside : i < length order
  pub up : IsAtOrBelow s (slice_index order i) n
  pub down : (j : ℕ) → place ≤ j → j ≤ i → IsAtOrBelow s (slice_index order j) (slice_index order i)

-- the marks after searches up from the names at place i and after it, each search with its place as the mark
pub record AreGathered (s : Structure) (order : List ℕ) (i : ℕ) (mark : List ℕ) : Type 0 where
  pub high : (j : ℕ) → i ≤ j → j < length order → IsMarked mark (slice_index order j)
  pub least : (n : ℕ) → n < s.names → IsMarked mark n → i ≤ slice_index mark n
  pub marked : (l : ℕ) → l < s.lines → IsMarked mark (s.part l) → IsMarked mark (s.assembly l)
  pub level : (l : ℕ) → l < s.lines → IsMarked mark (s.part l) → slice_index mark (s.part l) ≤ slice_index mark (s.assembly l)
  pub member : (n : ℕ) → n < s.names → IsMarked mark n → IsMember s order n (slice_index mark n)

-- numbers of names that rise along no line, and are equal at the ends of a line on circles alone
pub record AreComponents (s : Structure) (component : List ℕ) : Type 0 where
  pub names : length component ≡ s.names
  pub level : (l : ℕ) → l < s.lines → slice_index component (s.part l) ≤ slice_index component (s.assembly l)
  pub joined : (l : ℕ) → l < s.lines → slice_index component (s.assembly l) ≡ slice_index component (s.part l) → IsBelow s (s.assembly l) (s.assembly l)
