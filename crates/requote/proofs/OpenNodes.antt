-- The nodes that are due stay Open while another one is worked on.
use Rattle.std.proofs.Common.{◌≡◌, ◌≢◌, ℕ, ◌<◌, ◌≤◌, Bool, List, [], ◌∷◌, length, ◌∙◌, ap, subst, arith}
use Rattle.std.specs.List.{All}
use Rattle.std.proofs.lemmas.List.Elements.{All-nil, All-cons, All-head, All-tail}
use Rattle.interval_box.specs.declared.boxes.IntervalBox.{IntervalBox}
use Rattle.search_book.specs.declared.node.Node.{Node}
use Rattle.search_book.specs.declared.node.Phase.{Phase}
use Rattle.search_book.specs.declared.node.Phase.TheVariants.{Open, Taken}
use Rattle.search_book.specs.Nodes.{area_of, phase_of, HasPhase, with_phase}
use Rattle.search_book.specs.BookState.{BookState}
use Rattle.search_book.specs.Events.{divided}
use Rattle.search_book.proofs.Marks.{marked_length, marked_area, marked_other}
use Rattle.search_book.proofs.Covers.{is_divided}
use Rattle.requote.specs.declared.graft.DueNode.{DueNode}
use Rattle.requote.specs.Reading.{AreOpen}

-- the boxes of all nodes stay
abbrev SameAreas : List Node → List Node → Type 0
SameAreas nodes after = (k : ℕ) → k < length nodes → area_of after k ≡ area_of nodes k

pub open_none : (nodes : List Node) → AreOpen nodes []
unfolding AreOpen
open_none nodes = tt

-- nodes that are Open with numbers below a bound, where those below it stay Open
open_below : (nodes after : List Node) (due : List DueNode) (bound : ℕ) → ((k : ℕ) → k < bound → HasPhase nodes k Open → HasPhase after k Open) → SameAreas nodes after
    → All (λ (m : DueNode). m.number < bound) due → AreOpen nodes due → AreOpen after due
unfolding AreOpen
open_below nodes after [] bound stays areas below h = tt
open_below nodes after (node ∷ due) bound stays areas below h = (
  stays node.number (All-head (λ (m : DueNode). m.number < bound) node due below) h.0,
  areas node.number h.0.known ∙ h.1,
  h.2,
  open_below nodes after due bound stays areas (All-tail (λ (m : DueNode). m.number < bound) node due below) h.3,
)

-- such nodes are nodes of the book
pub all_known : (nodes : List Node) (due : List DueNode) (bound : ℕ) → length nodes ≤ bound → AreOpen nodes due → All (λ (m : DueNode). m.number < bound) due
unfolding AreOpen
all_known nodes [] bound within h = All-nil (λ (m : DueNode). m.number < bound)
all_known nodes (node ∷ due) bound within h =
    All-cons (λ (m : DueNode). m.number < bound) node due (omega (arith, h.0.known)) (all_known nodes due bound within h.3)

other_node : (nodes : List Node) (n k : ℕ) → HasPhase nodes n Taken → HasPhase nodes k Open → k ≢ n
other_node nodes n k taken waiting same = let e = ap (phase_of nodes) same in let t = taken.is in let o = waiting.is in cc

marked_stays : (nodes : List Node) (n : ℕ) (phase : Phase) (k : ℕ) → k ≢ n → HasPhase nodes k Open → HasPhase (with_phase nodes n phase) k Open
marked_stays nodes n phase k other h = record {
  known = omega (arith, h.known, marked_length nodes n phase);
  is = marked_other nodes n phase k other ∙ h.is;
}

marked_areas : (nodes : List Node) (n : ℕ) (phase : Phase) → n < length nodes → SameAreas nodes (with_phase nodes n phase)
marked_areas nodes n phase known k below = marked_area nodes n phase k known

-- a node that was Taken is marked
pub open_marked : (nodes : List Node) (n : ℕ) (phase : Phase) (due : List DueNode) → HasPhase nodes n Taken → AreOpen nodes due → AreOpen (with_phase nodes n phase) due
open_marked nodes n phase due taken h =
    open_below nodes (with_phase nodes n phase) due (length nodes) (λ k below waiting. marked_stays nodes n phase k (other_node nodes n k taken waiting) waiting)
    (marked_areas nodes n phase taken.known) (all_known nodes due (length nodes) (omega arith) h) h

-- the first of the nodes is taken
pub open_taken : (nodes : List Node) (node : DueNode) (due : List DueNode) → AreOpen nodes (node ∷ due) → AreOpen (with_phase nodes node.number Taken) due
unfolding AreOpen
open_taken nodes node due h =
    open_below nodes (with_phase nodes node.number Taken) due node.number
    (λ k below waiting. marked_stays nodes node.number Taken k (let other : k ≢ node.number = omega arith in other) waiting)
    (marked_areas nodes node.number Taken h.0.known) h.2 h.3

-- a node that was Taken is split
pub open_divided : (s : BookState) (n i at : ℕ) (keep_low : Bool) (due : List DueNode) → HasPhase s.nodes n Taken → AreOpen s.nodes due → AreOpen (divided s n i at keep_low).nodes due
open_divided s n i at keep_low due taken h =
    let after = (divided s n i at keep_low).nodes in
    let d = is_divided s n i at keep_low taken.known in
    open_below s.nodes after due (length s.nodes)
    (λ k below waiting. record { known = omega (arith, d.len); is = d.others k below (other_node s.nodes n k taken waiting) ∙ waiting.is })
    d.areas (all_known s.nodes due (length s.nodes) (omega arith) h) h

-- one node more is due first
pub open_more : (nodes : List Node) (node : DueNode) (due : List DueNode) → HasPhase nodes node.number Open → area_of nodes node.number ≡ node.area
    → All (λ (m : DueNode). m.number < node.number) due → AreOpen nodes due → AreOpen nodes (node ∷ due)
unfolding AreOpen
open_more nodes node due waiting area below h = (waiting, area, below, h)

-- what is known of the first of the nodes
pub record IsFirstOpen (nodes : List Node) (node : DueNode) (due : List DueNode) : Type 0 where
  pub waiting : HasPhase nodes node.number Open
  pub area : area_of nodes node.number ≡ node.area
  pub all : AreOpen nodes (node ∷ due)

pub first_open : (nodes : List Node) (all : List DueNode) (node : DueNode) (due : List DueNode) → all ≡ node ∷ due → AreOpen nodes all → IsFirstOpen nodes node due
unfolding AreOpen
first_open nodes all node due is h =
    let first : AreOpen nodes (node ∷ due) = subst (AreOpen nodes) is h in
    record { waiting = first.0; area = first.1; all = first }

-- a node by its number and its box
abbrev pub node_of : ℕ → IntervalBox → DueNode
node_of number area = record { number = number; area = area }

pub same_node : (m n : ℕ) (x y : IntervalBox) → m ≡ n → x ≡ y → node_of m x ≡ node_of n y
same_node m n x y number area = λ j. node_of (number j) (area j)
