use Rattle.std.specs.Prelude.{ℕ, ◌≡◌, ◌≢◌, ◌+◌, ◌*◌, ◌<◌, ◌≤◌, List, length, slice_index, Option, None, Some}
use Rattle.tqd_base.specs.declared.limits.TheConstants.{PRICE_MAX}
use Rattle.mcf_lower.specs.declared.labels.Labels.{Labels}
use Rattle.mcf_lower.specs.declared.labels.TheConstants.{FAR, UNSETTLED}
use Rattle.mcf_lower.specs.declared.tournament.Tournament.{Tournament}
use Rattle.mcf_lower.specs.Net.{Network}
use Rattle.mcf_lower.specs.Edges.{edges, edge_of}
use Rattle.mcf_lower.specs.Tournament.{key_of, IsTournament, HasPlaces}

-- Lists give a number for each node or, `room`, for each edge: how many more units it can take.

-- node numbers at which no edge with room is a gain
pub record IsPriced (net : Network) (room numbers : List ℕ) : Type 0 where
  pub rooms : length room ≡ edges net
  pub nodes : length numbers ≡ net.nodes
  pub each : (e : ℕ) → e < edges net → 0 < slice_index room e
      → slice_index numbers (edge_of net e).finish + (edge_of net e).minus ≤ slice_index numbers (edge_of net e).start + (edge_of net e).plus

-- the labels of v say that its path begins on edge e
pub record IsParent (net : Network) (room numbers distance rank width : List ℕ) (v e : ℕ) : Type 0 where
  pub inside : e < edges net
  pub start : (edge_of net e).start ≡ v
  pub earlier : slice_index rank (edge_of net e).finish < slice_index rank v
  pub takes : slice_index width v ≤ slice_index room e
  pub narrower : slice_index width v ≤ slice_index width (edge_of net e).finish
  pub longer : slice_index distance v + slice_index numbers (edge_of net e).finish + (edge_of net e).minus
      ≡ slice_index distance (edge_of net e).finish + slice_index numbers v + (edge_of net e).plus

-- a path of at most k edges joins v to the root, and a unit can take it
pub record IsNear (numbers : List ℕ) (root k : ℕ) (distance width : List ℕ) (v : ℕ) : Type 0 where
  pub above : slice_index distance v + slice_index numbers root ≤ slice_index numbers v + k * PRICE_MAX
  pub below : slice_index numbers v ≤ slice_index distance v + slice_index numbers root + k * PRICE_MAX
  pub wide : 1 ≤ slice_index width v

-- labels of shortest paths, of which `k` are settled
pub record IsTree (net : Network) (room numbers : List ℕ) (root k : ℕ) (distance rank parent width : List ℕ) : Type 0 where
  pub distances : length distance ≡ net.nodes
  pub ranks : length rank ≡ net.nodes
  pub parents : length parent ≡ net.nodes
  pub widths : length width ≡ net.nodes
  pub root_inside : root < net.nodes
  pub root_near : slice_index distance root ≡ 0
  pub most : (v : ℕ) → v < net.nodes → slice_index rank v ≤ UNSETTLED
  pub early : (v : ℕ) → v < net.nodes → slice_index rank v < UNSETTLED → slice_index rank v < k
  pub settled : (v : ℕ) → v < net.nodes → slice_index rank v < UNSETTLED → slice_index distance v < FAR
  pub order : (u v : ℕ) → u < net.nodes → v < net.nodes → slice_index rank u < UNSETTLED → slice_index rank v ≡ UNSETTLED → slice_index distance u ≤ slice_index distance v
  pub near : (v : ℕ) → v < net.nodes → slice_index distance v < FAR → IsNear numbers root k distance width v
  pub tree : (v : ℕ) → v < net.nodes → slice_index distance v < FAR → v ≢ root → IsParent net room numbers distance rank width v (slice_index parent v)

-- v is the node that was settled last
pub record IsLast (net : Network) (numbers : List ℕ) (root k : ℕ) (distance rank : List ℕ) (v : ℕ) : Type 0 where
  pub inside : v < net.nodes
  pub settled : slice_index rank v < UNSETTLED
  pub latest : (u : ℕ) → u < net.nodes → slice_index rank u < UNSETTLED → slice_index distance u ≤ slice_index distance v
  pub above : slice_index distance v + slice_index numbers root + PRICE_MAX ≤ slice_index numbers v + k * PRICE_MAX
  pub below : slice_index numbers v + PRICE_MAX ≤ slice_index distance v + slice_index numbers root + k * PRICE_MAX

-- edge e makes no path shorter
abbrev pub IsMet : Network → List ℕ → List ℕ → ℕ → Type 0
IsMet net numbers distance e =
    slice_index distance (edge_of net e).start + slice_index numbers (edge_of net e).finish + (edge_of net e).minus
    ≤ slice_index distance (edge_of net e).finish + slice_index numbers (edge_of net e).start + (edge_of net e).plus

-- no edge with room into a settled node makes a path shorter, but for those into v
pub record IsClosedBut (net : Network) (room numbers distance rank : List ℕ) (v : ℕ) : Type 0 where
  pub each : (e : ℕ) → e < edges net → (edge_of net e).finish ≢ v → slice_index rank (edge_of net e).finish < UNSETTLED → 0 < slice_index room e → IsMet net numbers distance e

pub record IsClosed (net : Network) (room numbers distance rank : List ℕ) : Type 0 where
  pub each : (e : ℕ) → e < edges net → slice_index rank (edge_of net e).finish < UNSETTLED → 0 < slice_index room e → IsMet net numbers distance e

pub record HasSizes (nodes : ℕ) (l : Labels) : Type 0 where
  pub distances : length l.distance.items ≡ nodes
  pub ranks : length l.rank.items ≡ nodes
  pub parents : length l.parent.items ≡ nodes
  pub widths : length l.width.items ≡ nodes
  pub keys : HasPlaces nodes l.keys

-- the nodes play with their distances until they are settled
pub record AreKeyed (distance rank : List ℕ) (t : Tournament) : Type 0 where
  pub tournament : IsTournament t
  pub playing : (v : ℕ) → v < t.places → slice_index rank v ≡ UNSETTLED → key_of t v ≡ slice_index distance v
  pub settled : (v : ℕ) → v < t.places → slice_index rank v ≢ UNSETTLED → key_of t v ≡ FAR

abbrev pub Keyed : Labels → Type 0
Keyed l = AreKeyed l.distance.items l.rank.items l.keys

-- the labels as a search begins
pub record IsBegun (nodes root : ℕ) (l : Labels) : Type 0 where
  pub distances : length l.distance.items ≡ nodes
  pub ranks : length l.rank.items ≡ nodes
  pub parents : length l.parent.items ≡ nodes
  pub widths : length l.width.items ≡ nodes
  pub root_is : l.root ≡ root
  pub settled : l.settled ≡ 0
  pub far : (v : ℕ) → v < nodes → v ≢ root → slice_index l.distance.items v ≡ FAR
  pub near : slice_index l.distance.items root ≡ 0
  pub unsettled : (v : ℕ) → v < nodes → slice_index l.rank.items v ≡ UNSETTLED
  pub width : 1 ≤ slice_index l.width.items root
  pub places : l.keys.places ≡ nodes
  pub keyed : Keyed l

-- b is an unsettled node of least distance
pub record IsNearestNode (nodes : ℕ) (distance rank : List ℕ) (b : ℕ) : Type 0 where
  pub inside : b < nodes
  pub unsettled : slice_index rank b ≡ UNSETTLED
  pub near : slice_index distance b < FAR
  pub least : (v : ℕ) → v < nodes → slice_index rank v ≡ UNSETTLED → slice_index distance b ≤ slice_index distance v

abbrev pub IsNearest : ℕ → List ℕ → List ℕ → Option ℕ → Type 0
IsNearest nodes distance rank None = (v : ℕ) → v < nodes → slice_index rank v ≡ UNSETTLED → FAR ≤ slice_index distance v
IsNearest nodes distance rank (Some b) = IsNearestNode nodes distance rank b

abbrev pub Tree : Network → List ℕ → List ℕ → Labels → Type 0
Tree net room numbers l = IsTree net room numbers l.root l.settled l.distance.items l.rank.items l.parent.items l.width.items

abbrev pub Last : Network → List ℕ → Labels → ℕ → Type 0
Last net numbers l v = IsLast net numbers l.root l.settled l.distance.items l.rank.items v
