-- Which nodes are Taken in a state s, and in a state t that a call or an event leads to.
use Rattle.std.specs.Prelude.{ℕ, ◌≡◌, ◌≢◌, ◌≤◌, ◌+◌, ◌⊎◌, ◌↔◌, Bool, if◌then◌else◌, length}
use Rattle.search_book.specs.declared.node.Phase.TheVariants.{Taken}
use Rattle.search_book.specs.Nodes.{HasPhase}
use Rattle.search_book.specs.BookState.{BookState}
use Rattle.search_book.specs.Events.{Event, take_node, improve, close_node, split_node, give_back, release}

-- a worker has the box of node k
abbrev pub IsTaken : BookState → ℕ → Type 0
IsTaken s k = HasPhase s.nodes k Taken

-- no node is Taken
abbrev pub NoneTaken : BookState → Type 0
NoneTaken s = (k : ℕ) → IsTaken s k → ⊥

-- what is Taken is what was
abbrev pub SameTaken : BookState → BookState → Type 0
SameTaken s t = (k : ℕ) → IsTaken t k ↔ IsTaken s k

-- what is Taken is what was, and node n
abbrev pub TakenWith : BookState → ℕ → BookState → Type 0
TakenWith s n t = (k : ℕ) → IsTaken t k ↔ (IsTaken s k ⊎ (k ≡ n))

-- what is Taken is what was, without node n
abbrev pub TakenWithout : BookState → ℕ → BookState → Type 0
TakenWithout s n t = (k : ℕ) → IsTaken t k ↔ (IsTaken s k × (k ≢ n))

-- what is Taken is what was, with a new node in the place of node n
pub record TakenInPlace (s : BookState) (n half : ℕ) (t : BookState) : Type 0 where
  pub is_new : length s.nodes ≤ half
  pub taken : (k : ℕ) → IsTaken t k ↔ ((IsTaken s k × (k ≢ n)) ⊎ (k ≡ half))

-- the number of the half that is kept where a node of s is split
abbrev pub kept_number : BookState → Bool → ℕ
kept_number s keep_low = if keep_low then length s.nodes else length s.nodes + 1

-- what is Taken after an event
abbrev pub TakenAfter : Event → BookState → BookState → Type 0
TakenAfter (take_node n) s t = TakenWith s n t
TakenAfter (improve plan amount) s t = SameTaken s t
TakenAfter (close_node n leaf) s t = TakenWithout s n t
TakenAfter (split_node n i at keep_low) s t = TakenInPlace s n (kept_number s keep_low) t
TakenAfter (give_back n) s t = TakenWithout s n t
TakenAfter release s t = NoneTaken t
