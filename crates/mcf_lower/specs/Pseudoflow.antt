use Rattle.std.specs.Prelude.{ℕ, ◌≡◌, ◌≢◌, ◌+◌, ◌-◌, ◌<◌, ◌≤◌, ◌==◌, nat_lt, if◌then◌else◌, List, length, slice_index, slice_index_or, Bool, false}
use Rattle.mcf_lower.specs.declared.net.Arc.{Arc}
use Rattle.mcf_lower.specs.declared.backs.Backs.{Backs}
use Rattle.mcf_lower.specs.declared.labels.Labels.{Labels}
use Rattle.mcf_lower.specs.declared.labels.TheConstants.{UNSETTLED}
use Rattle.mcf_lower.specs.declared.pseudoflow.Pseudoflow.{Pseudoflow}
use Rattle.mcf_lower.specs.Net.{Network, IsNetwork, arc_of}
use Rattle.mcf_lower.specs.declared.net.TheConstants.{NODES_MAX}
use Rattle.tqd_base.specs.Sum.{sum_to}
use Rattle.mcf_lower.specs.Circulation.{inflow, outflow}
use Rattle.mcf_lower.specs.Edges.{edges, edge_of}
use Rattle.mcf_lower.specs.Ends.{ListsBacks}
use Rattle.mcf_lower.specs.Tree.{IsPriced, Tree}
use Rattle.mcf_lower.specs.Search.{number_max, start_max, IsStuck}

-- what an arc carries, by the room of the edge back
abbrev pub carried : Network → List ℕ → ℕ → ℕ
carried net room a = (arc_of net a).low + slice_index room (a + length net.arcs)

-- no edge has more room than its arc's bounds leave
pub record IsBounded (net : Network) (room : List ℕ) : Type 0 where
  pub rooms : length room ≡ edges net
  pub each : (a : ℕ) → a < length net.arcs → (arc_of net a).low + slice_index room a + slice_index room (a + length net.arcs) ≡ (arc_of net a).cap

-- what comes to a node and what it lacks are what leaves it and what it has to send on
pub record IsBalanced (net : Network) (room : List ℕ) (supply demand : ℕ → ℕ) : Type 0 where
  pub each : (v : ℕ) → v < net.nodes → inflow net (carried net room) v + demand v ≡ outflow net (carried net room) v + supply v

-- the room of edge e at first
abbrev pub first_along : List ℕ → Arc → ℕ
first_along numbers arc = if nat_lt (slice_index numbers arc.tail + arc.cost) (slice_index numbers arc.head) then 0 else arc.cap - arc.low

abbrev pub first_back : List ℕ → Arc → ℕ
first_back numbers arc = if nat_lt (slice_index numbers arc.tail + arc.cost) (slice_index numbers arc.head) then arc.cap - arc.low else 0

unfoldable pub first_room : Network → List ℕ → ℕ → ℕ
first_room net numbers e = if nat_lt e (length net.arcs) then first_along numbers (arc_of net e) else first_back numbers (arc_of net (e - length net.arcs))

pub record AreFirstRooms (net : Network) (numbers room : List ℕ) : Type 0 where
  pub rooms : length room ≡ edges net
  pub each : (e : ℕ) → e < edges net → slice_index room e ≡ first_room net numbers e

-- what the first `count` arcs bring to each node and take from it
pub record AreSums (net : Network) (room : List ℕ) (count : ℕ) (supply demand : List ℕ) : Type 0 where
  pub supplies : length supply ≡ net.nodes
  pub demands : length demand ≡ net.nodes
  pub brought : (v : ℕ) → v < net.nodes → slice_index supply v ≡ sum_to count (λ a. if (arc_of net a).head == v then carried net room a else 0)
  pub taken : (v : ℕ) → v < net.nodes → slice_index demand v ≡ sum_to count (λ a. if (arc_of net a).tail == v then carried net room a else 0)

pub record ArePseudoflow (net : Network) (room supply demand numbers : List ℕ) (backs : Backs) : Type 0 where
  pub supplies : length supply ≡ net.nodes
  pub demands : length demand ≡ net.nodes
  pub priced : IsPriced net room numbers
  pub bounded : IsBounded net room
  pub balanced : IsBalanced net room (λ v. slice_index supply v) (λ v. slice_index demand v)
  pub small : (v : ℕ) → v < net.nodes → slice_index numbers v ≤ number_max
  pub supplied : (v : ℕ) → v < net.nodes → 0 < slice_index supply v → slice_index numbers v ≤ start_max
  pub back : ListsBacks net room backs

abbrev pub IsPseudoflow : Network → Pseudoflow → Type 0
IsPseudoflow net p = ArePseudoflow net p.room.items p.supply.items p.demand.items p.numbers.items p.backs

abbrev pub CanRaise : List ℕ → List ℕ → ℕ → Type 0
CanRaise numbers distance far = (v : ℕ) → v < length numbers → slice_index numbers v + (far - slice_index distance v) ≤ number_max

pub record IsRaised (numbers distance : List ℕ) (far : ℕ) (raised : List ℕ) : Type 0 where
  pub length_same : length raised ≡ length numbers
  pub each : (v : ℕ) → v < length numbers → slice_index raised v ≡ slice_index numbers v + (far - slice_index distance v)

-- the first edge of the path of v, which no number makes a gain or a loss
pub record IsStep (net : Network) (room numbers : List ℕ) (l : Labels) (far v e : ℕ) : Type 0 where
  pub inside : e < edges net
  pub start : (edge_of net e).start ≡ v
  pub earlier : slice_index l.rank.items (edge_of net e).finish < slice_index l.rank.items v
  pub nearer : slice_index l.distance.items (edge_of net e).finish ≤ far
  pub takes : slice_index l.width.items v ≤ slice_index room e
  pub narrower : slice_index l.width.items v ≤ slice_index l.width.items (edge_of net e).finish
  pub even : slice_index numbers (edge_of net e).finish + (edge_of net e).minus ≡ slice_index numbers v + (edge_of net e).plus

-- the paths of the nodes that are no farther than `far`
pub record IsPath (net : Network) (room numbers : List ℕ) (l : Labels) (far : ℕ) : Type 0 where
  pub parents : length l.parent.items ≡ net.nodes
  pub step : (v : ℕ) → v < net.nodes → slice_index l.distance.items v ≤ far → v ≢ l.root → IsStep net room numbers l far v (slice_index l.parent.items v)

abbrev pub at_node : ℕ → ℕ → (ℕ → ℕ) → ℕ → ℕ
at_node u amount supply v = supply v + (if u == v then amount else 0)

-- what is balanced with so many units at one node before is balanced with them at another after
abbrev pub BalanceMoves : Network → List ℕ → List ℕ → ℕ → ℕ → ℕ → Type 0
BalanceMoves net before after from to amount = (supply demand : ℕ → ℕ)
    → IsBalanced net before (at_node from amount supply) demand → IsBalanced net after (at_node to amount supply) demand

abbrev pub IsLess : List ℕ → List ℕ → Type 0
IsLess before after = (v : ℕ) → v < length before → slice_index after v ≤ slice_index before v

-- no more units can come to a node that lacks some
pub record IsCutOff (net : Network) (p : Pseudoflow) (l : Labels) : Type 0 where
  pub network : IsNetwork net
  pub tree : Tree net p.room.items p.numbers.items l
  pub few : l.settled ≤ NODES_MAX
  pub stuck : IsStuck net p.room.items p.supply.items p.numbers.items l
  pub lacks : 0 < slice_index p.demand.items l.root

pub record AreCarried (net : Network) (room flow : List ℕ) : Type 0 where
  pub arcs : length flow ≡ length net.arcs
  pub each : (a : ℕ) → a < length net.arcs → slice_index flow a ≡ carried net room a

pub record AreSettled (rank : List ℕ) (has : List Bool) : Type 0 where
  pub nodes : length has ≡ length rank
  pub each : (v : ℕ) → v < length rank → slice_index_or has v false ≡ nat_lt (slice_index rank v) UNSETTLED
