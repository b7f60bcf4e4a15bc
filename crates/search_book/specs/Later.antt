-- When one state of a book is later than another.
use Rattle.std.specs.Prelude.{ℕ, ◌≡◌, ◌<◌, ◌≤◌, length, IfSome, IsSomeAnd}
use Rattle.search_book.specs.declared.node.Phase.{Phase}
use Rattle.search_book.specs.declared.node.Phase.TheVariants.{Open, Taken, Split, Closed}
use Rattle.search_book.specs.Nodes.{area_of, phase_of}
use Rattle.search_book.specs.BookState.{BookState, best_cost}

-- what was split or closed stays so
abbrev pub StaysSettled : Phase → Phase → Type 0
StaysSettled Open after = Unit {0}
StaysSettled Taken after = Unit {0}
StaysSettled (Split low high i at) after = after ≡ Split low high i at
StaysSettled (Closed leaf) after = after ≡ Closed leaf

-- t is later than s: every node of s is in t with the same box, and as it was where it was split or closed, and where s
-- has a best plan, t has one that costs no more
pub record IsLater (s t : BookState) : Type 0 where
  pub job : t.job ≡ s.job
  pub nodes : length s.nodes ≤ length t.nodes
  pub areas : (n : ℕ) → n < length s.nodes → area_of t.nodes n ≡ area_of s.nodes n
  pub phases : (n : ℕ) → n < length s.nodes → StaysSettled (phase_of s.nodes n) (phase_of t.nodes n)
  pub best : IfSome (best_cost s) (λ before. IsSomeAnd (best_cost t) (λ after. after ≤ before))
