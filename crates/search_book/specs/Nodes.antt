-- The numbered nodes of a book.
use Rattle.std.specs.Prelude.{ℕ, ◌≡◌, ◌<◌, List, [], length, slice_index_or, slice_set}
use Rattle.interval_box.specs.declared.boxes.IntervalBox.{IntervalBox}
use Rattle.bound_tree.specs.declared.leaf.Leaf.TheVariants.{Winners}
use Rattle.search_book.specs.declared.node.Node.{Node}
use Rattle.search_book.specs.declared.node.Phase.{Phase}
use Rattle.search_book.specs.declared.node.Phase.TheVariants.{Open, Taken, Split, Closed}

-- the node of a number; past the last one, a closed node without a box
abbrev pub node_at : List Node → ℕ → Node
node_at nodes n = slice_index_or nodes n (record { area = record { lows = []; highs = [] }; phase = Closed Winners })

abbrev pub area_of : List Node → ℕ → IntervalBox
area_of nodes n = (node_at nodes n).area

abbrev pub phase_of : List Node → ℕ → Phase
phase_of nodes n = (node_at nodes n).phase

-- there is a node of this number, and this became of it
pub record HasPhase (nodes : List Node) (n : ℕ) (phase : Phase) : Type 0 where
  pub known : n < length nodes
  pub is : phase_of nodes n ≡ phase

-- the node of a number has another phase, and its box as before
abbrev pub with_phase : List Node → ℕ → Phase → List Node
with_phase nodes n phase = slice_set nodes n (record { area = area_of nodes n; phase = phase })

-- a node on which work is left to be done
abbrev pub IsWaiting : Phase → Type 0
IsWaiting Open = Unit {0}
IsWaiting Taken = Unit {0}
IsWaiting (Split low high i at) = ⊥
IsWaiting (Closed leaf) = ⊥
