use Rattle.std.specs.Prelude.{ℕ, ◌≡◌, ◌+◌, ◌-◌, ◌<◌, ◌≤◌, nat_lt, List, length, slice_index, if◌then◌else◌}
use Rattle.tqd_base.specs.declared.limits.TheConstants.{PRICE_MAX}
use Rattle.mcf_lower.specs.declared.net.Arc.{Arc}
use Rattle.mcf_lower.specs.declared.edge.Edge.{Edge}
use Rattle.mcf_lower.specs.Net.{Network, arc_of}

-- The residual graph: each arc is two edges, one along it and one back.

abbrev pub edges : Network → ℕ
edges net = length net.arcs + length net.arcs

abbrev pub along : Arc → Edge
along arc = record { start = arc.tail; finish = arc.head; plus = arc.cost; minus = 0 }

abbrev pub back : Arc → Edge
back arc = record { start = arc.head; finish = arc.tail; plus = 0; minus = arc.cost }

unfoldable pub edge_of : Network → ℕ → Edge
edge_of net e = if nat_lt e (length net.arcs) then along (arc_of net e) else back (arc_of net (e - length net.arcs))

unfoldable pub partner_of : Network → ℕ → ℕ
partner_of net e = if nat_lt e (length net.arcs) then e + length net.arcs else e - length net.arcs

pub record IsEdge (nodes : ℕ) (edge : Edge) : Type 0 where
  pub start : edge.start < nodes
  pub finish : edge.finish < nodes
  pub plus : edge.plus ≤ PRICE_MAX
  pub minus : edge.minus ≤ PRICE_MAX

-- the first `count` things by their node: `first` gives the last of a node's things, and `next` the one before a thing, each as its number and 1, or as
-- 0 where there is none
pub record IsChain (nodes : ℕ) (node_of : ℕ → ℕ) (count : ℕ) (first next : List ℕ) : Type 0 where
  pub firsts : length first ≡ nodes
  pub nexts : length next ≡ count
  pub first_below : (v : ℕ) → v < nodes → slice_index first v ≤ count
  pub first_there : (v : ℕ) → v < nodes → 0 < slice_index first v → node_of (slice_index first v - 1) ≡ v
  pub next_below : (e : ℕ) → e < count → slice_index next e ≤ e
  pub next_there : (e : ℕ) → e < count → 0 < slice_index next e → node_of (slice_index next e - 1) ≡ node_of e
  pub all_first : (e : ℕ) → e < count → e < slice_index first (node_of e)
  pub all_next : (d e : ℕ) → d < e → e < count → node_of d ≡ node_of e → d < slice_index next e
