-- The events that change a book.
use Rattle.std.specs.Prelude.{ℕ, ◌≡◌, ◌+◌, ◌<◌, Bool, true, false, not, if◌then◌else◌, [], ◌∷◌, ◌++◌, map, length, Some, IfSome}
use Rattle.tqd_instance.specs.declared.job.Job.{Job}
use Rattle.tqd_instance.specs.declared.plan.Plan.{Plan}
use Rattle.tqd_instance.specs.Plan.{units, IsSizedFor}
use Rattle.tqd_instance.specs.Standing.{Costs}
use Rattle.interval_box.specs.declared.boxes.IntervalBox.{IntervalBox}
use Rattle.interval_box.specs.Halves.{IsProper, low_half, high_half}
use Rattle.bound_tree.specs.declared.leaf.Leaf.{Leaf}
use Rattle.bound_tree.specs.Kills.{Kills}
use Rattle.search_book.specs.declared.node.Node.{Node}
use Rattle.search_book.specs.declared.node.Phase.{Phase}
use Rattle.search_book.specs.declared.node.Phase.TheVariants.{Open, Taken, Split, Closed}
use Rattle.search_book.specs.Nodes.{area_of, HasPhase, with_phase}
use Rattle.search_book.specs.BookState.{BookState, best_cost}

-- take a node, offer a plan with its cost, close a node by a leaf, split a node at a number of a supplier's range and
-- keep its low or its high half, give a node back, release all nodes
pub data Event : Type 0 where
  take_node : ℕ → Event
  improve : Plan → ℕ → Event
  close_node : ℕ → Leaf → Event
  split_node : ℕ → ℕ → ℕ → Bool → Event
  give_back : ℕ → Event
  release : Event

-- a plan of the job's size that is feasible and costs so much
pub record IsPlanAt (job : Job) (plan : Plan) (amount : ℕ) : Type 0 where
  pub sized : IsSizedFor job plan
  pub costs : Costs job (units plan) amount

-- there is no best plan, or it costs more
abbrev pub IsBelowBest : BookState → ℕ → Type 0
IsBelowBest s amount = IfSome (best_cost s) (λ best. amount < best)

-- the state in which this became of a node
abbrev pub marked : BookState → ℕ → Phase → BookState
marked s n phase = record s { nodes = with_phase s.nodes n phase }

-- a half of a box that was split: Taken where it is kept, else Open
abbrev pub half_node : IntervalBox → Bool → Node
half_node area kept = record { area = area; phase = if kept then Taken else Open }

-- the nodes of both halves are added at the end, that of the low half first, and the node is split into them
abbrev pub divided : BookState → ℕ → ℕ → ℕ → Bool → BookState
divided s n i at keep_low =
    record s {
      nodes = with_phase s.nodes n (Split (length s.nodes) (length s.nodes + 1) i at)
          ++ (half_node (low_half (area_of s.nodes n) i at) keep_low
          ∷ half_node (high_half (area_of s.nodes n) i at) (not keep_low)
          ∷ []);
    }

-- what was Taken is Open again, all else as it was
abbrev pub freed_phase : Phase → Phase
freed_phase Open = Open
freed_phase Taken = Open
freed_phase (Split low high i at) = Split low high i at
freed_phase (Closed leaf) = Closed leaf

abbrev pub freed : Node → Node
freed node = record { area = node.area; phase = freed_phase node.phase }

abbrev pub released : BookState → BookState
released s = record s { nodes = map freed s.nodes }

-- an event applies to a state s, and leads to t
abbrev pub Happens : BookState → Event → BookState → Type 0
Happens s (take_node n) t = HasPhase s.nodes n Open × (t ≡ marked s n Taken)
Happens s (improve plan amount) t = IsPlanAt s.job plan amount
    × IsBelowBest s amount
    × (t ≡ record s { best = Some (plan, amount) })
Happens s (close_node n leaf) t = HasPhase s.nodes n Taken
    × Kills s.job (area_of s.nodes n) (best_cost s) leaf
    × (t ≡ marked s n (Closed leaf))
Happens s (split_node n i at keep_low) t = HasPhase s.nodes n Taken
    × IsProper (area_of s.nodes n) i at
    × (t ≡ divided s n i at keep_low)
Happens s (give_back n) t = HasPhase s.nodes n Taken × (t ≡ marked s n Open)
Happens s release t = t ≡ released s

-- an event that comes to a state s leads to t, whether it applies or not: one that does not leaves the state
abbrev pub Steps : BookState → Event → Bool → BookState → Type 0
Steps s event true t = Happens s event t
Steps s event false t = ((u : BookState) → Happens s event u → ⊥) × (t ≡ s)
