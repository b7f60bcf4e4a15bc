use Rattle.std.specs.Prelude.{ℕ, ◌+◌, ◌*◌, ◌≡◌, ◌<◌, ◌≤◌, List, length, slice_index}
use Rattle.mcf_lower.specs.declared.labels.Labels.{Labels}
use Rattle.mcf_lower.specs.declared.labels.TheConstants.{FAR, UNSETTLED}
use Rattle.tqd_base.specs.declared.limits.TheConstants.{DUAL_MAX, PRICE_MAX}
use Rattle.mcf_lower.specs.declared.net.TheConstants.{NODES_MAX}
use Rattle.mcf_lower.specs.Net.{Network, arc_of, magnitude}
use Rattle.mcf_lower.specs.Tree.{IsMet, IsClosedBut, IsClosed, Last}

-- the greatest number at the start
abbrev pub start_max : ℕ
start_max = 2 * magnitude DUAL_MAX

-- the greatest number at any time: a path has fewer edges than there are nodes, and no number comes to more than two of them above a start number
abbrev pub number_max : ℕ
number_max = start_max + 2 * NODES_MAX * PRICE_MAX

abbrev pub IsSmall : List ℕ → Type 0
IsSmall numbers = (v : ℕ) → v < length numbers → slice_index numbers v ≤ number_max

-- what an edge changes at most: distances fall, and those of settled nodes stay
pub record IsOffered (nodes : ℕ) (before after : Labels) : Type 0 where
  pub root : after.root ≡ before.root
  pub count : after.settled ≡ before.settled
  pub rank : after.rank.items ≡ before.rank.items
  pub places : after.keys.places ≡ before.keys.places
  pub lower : (v : ℕ) → v < nodes → slice_index after.distance.items v ≤ slice_index before.distance.items v
  pub kept : (v : ℕ) → v < nodes → slice_index before.rank.items v < UNSETTLED → slice_index after.distance.items v ≡ slice_index before.distance.items v

-- no arc with room into node v makes a path shorter
pub record MeetsAlong (net : Network) (room numbers distance : List ℕ) (v : ℕ) : Type 0 where
  pub each : (a : ℕ) → a < length net.arcs → (arc_of net a).head ≡ v → 0 < slice_index room a → IsMet net numbers distance a

-- nor an edge back
pub record MeetsBack (net : Network) (room numbers distance : List ℕ) (v : ℕ) : Type 0 where
  pub each : (a : ℕ) → a < length net.arcs → (arc_of net a).tail ≡ v → 0 < slice_index room (a + length net.arcs)
      → IsMet net numbers distance (a + length net.arcs)

-- s is settled last and alone has a supply
pub record IsFound (net : Network) (room supply numbers : List ℕ) (l : Labels) (s : ℕ) : Type 0 where
  pub last : Last net numbers l s
  pub supplied : 0 < slice_index supply s
  pub closed : IsClosedBut net room numbers l.distance.items l.rank.items s
  pub nearest : (v : ℕ) → v < net.nodes → 0 < slice_index supply v → slice_index l.distance.items s ≤ slice_index l.distance.items v

-- no node from which a unit can come to the root has a supply
pub record IsStuck (net : Network) (room supply numbers : List ℕ) (l : Labels) : Type 0 where
  pub closed : IsClosed net room numbers l.distance.items l.rank.items
  pub far : (v : ℕ) → v < net.nodes → slice_index l.distance.items v < FAR → slice_index l.rank.items v < UNSETTLED
  pub unsupplied : (v : ℕ) → v < net.nodes → slice_index l.rank.items v < UNSETTLED → slice_index supply v ≡ 0
