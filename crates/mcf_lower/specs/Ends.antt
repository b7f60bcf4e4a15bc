use Rattle.std.specs.Prelude.{ℕ, ◌≡◌, ◌+◌, ◌<◌, ◌≤◌, List, false, IsTrue, length, slice_index, slice_index_or}
use Rattle.mcf_lower.specs.declared.end.End.{End}
use Rattle.mcf_lower.specs.declared.index.Index.{Index}
use Rattle.mcf_lower.specs.declared.backs.Backs.{Backs}
use Rattle.mcf_lower.specs.Net.{Network, arc_of}
use Rattle.mcf_lower.specs.Edges.{IsChain}

abbrev pub end_of : List End → ℕ → End
end_of ends p = slice_index_or ends p (record { arc = 0; node = 0; cost = 0 })

-- an arc that comes into node v, as v sees it
pub record IsComing (net : Network) (v : ℕ) (end : End) : Type 0 where
  pub inside : end.arc < length net.arcs
  pub head : (arc_of net end.arc).head ≡ v
  pub tail : (arc_of net end.arc).tail ≡ end.node
  pub cost : (arc_of net end.arc).cost ≡ end.cost

-- and one that leaves it
pub record IsLeaving (net : Network) (v : ℕ) (end : End) : Type 0 where
  pub inside : end.arc < length net.arcs
  pub head : (arc_of net end.arc).head ≡ end.node
  pub tail : (arc_of net end.arc).tail ≡ v
  pub cost : (arc_of net end.arc).cost ≡ end.cost

-- arc a stands in a list at a place from `low` on and below `high`
abbrev pub StandsWithin : List End → ℕ → ℕ → ℕ → Type 0
StandsWithin ends low high a = (p : ℕ) × (low ≤ p) × (p < high) × ((end_of ends p).arc ≡ a)

-- the arcs by their heads, for the first `count` nodes: those into node v stand from place `starts v` on and below place `starts (v + 1)`
pub record IsIndexTo (net : Network) (count : ℕ) (starts : List ℕ) (ends : List End) : Type 0 where
  pub nodes : length starts ≡ count + 1
  pub last : slice_index starts count ≡ length ends
  pub rising : (v : ℕ) → v < count → slice_index starts v ≤ slice_index starts (v + 1)
  pub within : (v : ℕ) → v ≤ count → slice_index starts v ≤ length ends
  pub each : (v p : ℕ) → v < count → slice_index starts v ≤ p → p < slice_index starts (v + 1) → IsComing net v (end_of ends p)
  pub all : (a : ℕ) → a < length net.arcs → (arc_of net a).head < count
      → StandsWithin ends (slice_index starts (arc_of net a).head) (slice_index starts ((arc_of net a).head + 1)) a

abbrev pub IsIndex : Network → Index → Type 0
IsIndex net index = IsIndexTo net net.nodes index.starts.items index.ends.items

-- the arcs into node v are added to a list
pub record AreAdded (net : Network) (v : ℕ) (before after : List End) : Type 0 where
  pub longer : length before ≤ length after
  pub kept : (p : ℕ) → p < length before → end_of after p ≡ end_of before p
  pub each : (p : ℕ) → length before ≤ p → p < length after → IsComing net v (end_of after p)
  pub all : (a : ℕ) → a < length net.arcs → (arc_of net a).head ≡ v → StandsWithin after (length before) (length after) a

-- the arcs of a list, in chains by their tails
pub record AreBacks (net : Network) (b : Backs) : Type 0 where
  pub flags : length b.listed.items ≡ length net.arcs
  pub each : (k : ℕ) → k < length b.ends.items → IsLeaving net (arc_of net (end_of b.ends.items k).arc).tail (end_of b.ends.items k)
  pub chain : IsChain net.nodes (λ k. (arc_of net (end_of b.ends.items k).arc).tail) (length b.ends.items) b.first.items b.next.items
  pub there : (a : ℕ) → a < length net.arcs → IsTrue (slice_index_or b.listed.items a false) → StandsWithin b.ends.items 0 (length b.ends.items) a

abbrev pub IsListed : Backs → ℕ → Type 0
IsListed b a = IsTrue (slice_index_or b.listed.items a false)

-- each arc that carries more than its low is listed
pub record ListsBacks (net : Network) (room : List ℕ) (b : Backs) : Type 0 where
  pub backs : AreBacks net b
  pub listed : (a : ℕ) → a < length net.arcs → 0 < slice_index room (a + length net.arcs) → IsListed b a
