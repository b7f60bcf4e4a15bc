-- What a depth-first search along the lines of a structure keeps, from assemblies to parts as the structure has them.
--
-- `cursor` gives, for a name, the line to follow next, as its number and 1, or 0 where all were followed: its lines below
-- the cursor are still to be followed. `mark` is less than UNFOUND at the names that were found. `path` has the names that
-- were entered and not yet left, and `left` those that were left, in the order of leaving.
use Rattle.std.specs.Prelude.{ℕ, ◌≡◌, ◌+◌, ◌*◌, ◌-◌, ◌<◌, ◌≤◌, ◌⊎◌, List, [], ◌∷◌, ◌++◌, length, slice_index, sum}
use Rattle.bom_explode.specs.declared.search.TheConstants.{UNFOUND}
use Rattle.bom_explode.specs.declared.search.Search.{Search}
use Rattle.bom_explode.specs.Structure.{Structure}
use Rattle.bom_explode.specs.Below.{Leads, IsBelow}

-- x stands in the list
abbrev pub IsOn : List ℕ → ℕ → Type 0
IsOn xs x = (k : ℕ) × (k < length xs) × (slice_index xs k ≡ x)

abbrev pub IsMarked : List ℕ → ℕ → Type 0
IsMarked mark x = slice_index mark x < UNFOUND

pub record AreCursors (s : Structure) (cursor : List ℕ) : Type 0 where
  pub names : length cursor ≡ s.names
  pub most : (n : ℕ) → n < s.names → slice_index cursor n ≤ s.lines
  pub from : (n : ℕ) → n < s.names → 0 < slice_index cursor n → s.assembly (slice_index cursor n - 1) ≡ n

-- each line that was followed leads to a name that was found
pub record IsFollowed (s : Structure) (cursor mark : List ℕ) : Type 0 where
  pub names : length mark ≡ s.names
  pub each : (l : ℕ) → l < s.lines → slice_index cursor (s.assembly l) ≤ l → IsMarked mark (s.part l)

-- the names that were found are on the path or were left, and then all their lines were followed
pub record ArePlaced (s : Structure) (cursor mark path left : List ℕ) : Type 0 where
  pub path_inside : (k : ℕ) → k < length path → slice_index path k < s.names
  pub path_marked : (k : ℕ) → k < length path → IsMarked mark (slice_index path k)
  pub left_inside : (i : ℕ) → i < length left → slice_index left i < s.names
  pub left_marked : (i : ℕ) → i < length left → IsMarked mark (slice_index left i)
  pub left_done : (i : ℕ) → i < length left → slice_index cursor (slice_index left i) ≡ 0
  pub placed : (n : ℕ) → n < s.names → IsMarked mark n → IsOn path n ⊎ IsOn left n

-- `since n` is how many names had been left when n was found. A line from a name to another is followed while the first is
-- on the path, so the second is found before the first is left; and what is left while a name is on the path is below it
pub record AreOrdered (s : Structure) (mark path left : List ℕ) (since : ℕ → ℕ) : Type 0 where
  pub early : (n : ℕ) → n < s.names → IsMarked mark n → since n ≤ length left
  pub bound : (l i : ℕ) → l < s.lines → i < length left → slice_index left i ≡ s.assembly l → since (s.part l) ≤ i
  pub reach : (i j : ℕ) → i < length left → since (slice_index left i) ≤ j → j < i → IsBelow s (slice_index left j) (slice_index left i)
  pub open_reach : (k j : ℕ) → k < length path → since (slice_index path k) ≤ j → j < length left → IsBelow s (slice_index left j) (slice_index path k)
  pub line : (k m : ℕ) → k < m → m < length path → IsBelow s (slice_index path m) (slice_index path k)

pub record IsSearch (s : Structure) (cursor mark path left : List ℕ) : Type 0 where
  pub cursors : AreCursors s cursor
  pub followed : IsFollowed s cursor mark
  pub places : ArePlaced s cursor mark path left
  pub since : ℕ → ℕ
  pub ordered : AreOrdered s mark path left since

abbrev pub Searches : Structure → Search → Type 0
Searches s search = IsSearch s search.cursor.items search.mark.items search.path.items search.left.items

-- n is the last name on the path
abbrev pub IsTop : List ℕ → ℕ → Type 0
IsTop path n = (front : List ℕ) × (path ≡ front ++ n ∷ [])

-- how many steps a search makes at most until it is on no path
abbrev pub steps_left : Search → ℕ
steps_left search = 2 * sum search.cursor.items + length search.path.items

-- a search that is on no path
pub record IsIdle (s : Structure) (search : Search) : Type 0 where
  pub searches : Searches s search
  pub no_path : search.path.items ≡ []

-- a chain of lines leads from the root to n through names that were not found before
pub data IsFound (s : Structure) (before : List ℕ) (root : ℕ) : ℕ → Type 0 where
  at_root : IsFound s before root root
  by_next : {m n : ℕ} (l : ℕ) → Leads s l m n → UNFOUND ≤ slice_index before n → IsFound s before root m → IsFound s before root n

-- the names found from one root on bear its mark, and the others the mark that they had before
pub record IsGrown (s : Structure) (before : List ℕ) (root m : ℕ) (mark path : List ℕ) : Type 0 where
  pub kept : (n : ℕ) → IsMarked before n → slice_index mark n ≡ slice_index before n
  pub found : (n : ℕ) → n < s.names → UNFOUND ≤ slice_index before n → IsMarked mark n → IsFound s before root n
  pub bears : (n : ℕ) → n < s.names → UNFOUND ≤ slice_index before n → IsMarked mark n → slice_index mark n ≡ m
  pub root_marked : IsMarked mark root
  pub on_path : (k : ℕ) → k < length path → IsFound s before root (slice_index path k)

-- the root was found before and all marks stay, or it was searched from
abbrev pub IsVisited : Structure → List ℕ → ℕ → ℕ → List ℕ → Type 0
IsVisited s before root m mark = (IsMarked before root × (mark ≡ before)) ⊎ ((UNFOUND ≤ slice_index before root) × IsGrown s before root m mark [])

-- a step keeps what is found from a root on
abbrev pub KeepsGrown : Structure → ℕ → Search → Search → Type 0
KeepsGrown s m old new = (before : List ℕ) (root : ℕ) → IsGrown s before root m old.mark.items old.path.items → IsGrown s before root m new.mark.items new.path.items
