-- When a state of a book is covered, so that no feasible purchase is lost.
use Rattle.std.specs.Prelude.{ℕ, ◌≡◌, ◌+◌, ◌*◌, ◌<◌, ◌≤◌, ◌⊎◌, List, length, IfSome, IsSomeAnd}
use Rattle.tqd_instance.specs.Purchase.{Purchase}
use Rattle.tqd_instance.specs.Feasible.{Feasible}
use Rattle.tqd_instance.specs.Cost.{cost}
use Rattle.interval_box.specs.Ranges.{IsBoxOf, IsRoot, IsIn}
use Rattle.interval_box.specs.Halves.{IsProper, low_half, high_half}
use Rattle.interval_box.specs.Size.{size}
use Rattle.bound_tree.specs.Kills.{Kills}
use Rattle.search_book.specs.declared.node.Node.{Node}
use Rattle.search_book.specs.declared.node.Phase.{Phase}
use Rattle.search_book.specs.declared.node.Phase.TheVariants.{Open, Taken, Split, Closed}
use Rattle.search_book.specs.Nodes.{area_of, phase_of, IsWaiting}
use Rattle.search_book.specs.BookState.{BookState, best_cost}
use Rattle.search_book.specs.Events.{IsPlanAt}
use Rattle.search_book.specs.Counts.{naming_count, room}

-- the nodes of the halves of node n have greater numbers, and the boxes of a proper split of its box
pub record IsSplitInto (nodes : List Node) (n low high i at : ℕ) : Type 0 where
  pub low_later : n < low
  pub high_later : n < high
  pub low_known : low < length nodes
  pub high_known : high < length nodes
  pub proper : IsProper (area_of nodes n) i at
  pub low_area : area_of nodes low ≡ low_half (area_of nodes n) i at
  pub high_area : area_of nodes high ≡ high_half (area_of nodes n) i at

-- what holds of a node of which this became
abbrev pub PhaseHolds : BookState → ℕ → Phase → Type 0
PhaseHolds s n Open = Unit {0}
PhaseHolds s n Taken = Unit {0}
PhaseHolds s n (Split low high i at) = IsSplitInto s.nodes n low high i at
PhaseHolds s n (Closed leaf) = Kills s.job (area_of s.nodes n) (best_cost s) leaf

-- a covered state. Node 0 is the root; each box is one of the job; the best plan is feasible and costs what is said of
-- it; each leaf kills its box against that cost; each split node is split into the halves of its box, whose numbers are
-- greater; each node but the first is named by exactly one of them; and the number of nodes and twice the room that is
-- left are at most twice the size of the root, less 1
pub record IsCovered (s : BookState) : Type 0 where
  pub some : 0 < length s.nodes
  pub root : IsRoot s.job (area_of s.nodes 0)
  pub boxes : (n : ℕ) → n < length s.nodes → IsBoxOf s.job (area_of s.nodes n)
  pub best : IfSome s.best (λ best. IsPlanAt s.job best.0 best.1)
  pub phases : (n : ℕ) → n < length s.nodes → PhaseHolds s n (phase_of s.nodes n)
  pub named : (n : ℕ) → 0 < n → n < length s.nodes → naming_count s.nodes n ≡ 1
  pub bounded : length s.nodes + 2 * room s + 1 ≤ 2 * size s.job (area_of s.nodes 0)

-- a purchase lies in the box of a node that is Open or Taken, or there is a best plan and the purchase costs no less
abbrev pub Remains : BookState → Purchase → Type 0
Remains s x = ((n : ℕ) × (n < length s.nodes) × IsWaiting (phase_of s.nodes n) × IsIn s.job (area_of s.nodes n) x)
    ⊎ IsSomeAnd (best_cost s) (λ best. best ≤ cost s.job x)

-- no feasible purchase is lost
abbrev pub AllRemain : BookState → Type 0
AllRemain s = (x : Purchase) → Feasible s.job x → Remains s x
