use Rattle.std.specs.Prelude.{ℕ, ◌<◌, ◌≤◌, ℤ, pos, negsuc, List, length, slice_index_or}
use Rattle.mcf_lower.specs.declared.net.Arc.{Arc}
use Rattle.mcf_lower.specs.declared.net.NetArc.{NetArc}
use Rattle.tqd_base.specs.declared.limits.TheConstants.{FLOW_MAX, PRICE_MAX}
use Rattle.mcf_lower.specs.declared.net.TheConstants.{NODES_MAX, ARCS_MAX}

-- a net: its nodes are 0 to `nodes - 1`, and its arcs are numbered by their places in the list
pub record Network : Type 0 where
  pub nodes : ℕ
  pub arcs : List Arc

abbrev pub arc_of : Network → ℕ → Arc
arc_of net a = slice_index_or net.arcs a (record { tail = 0; head = 0; low = 0; cap = 0; cost = 0 })

-- a signed number that is not below 0, as the natural number that it is
abbrev pub magnitude : ℤ → ℕ
magnitude (pos n) = n
magnitude (negsuc n) = 0

-- the greatest cap of an arc
abbrev pub flow_max : ℕ
flow_max = magnitude FLOW_MAX

-- an arc of a net with so many nodes
pub record IsArc (nodes : ℕ) (arc : Arc) : Type 0 where
  pub tail : arc.tail < nodes
  pub head : arc.head < nodes
  pub bounds : arc.low ≤ arc.cap
  pub flow : arc.cap ≤ flow_max
  pub price : arc.cost ≤ PRICE_MAX

pub record IsNetwork (net : Network) : Type 0 where
  pub some : 1 ≤ net.nodes
  pub few : net.nodes ≤ NODES_MAX
  pub arcs_few : length net.arcs ≤ ARCS_MAX
  pub each : (a : ℕ) → a < length net.arcs → IsArc net.nodes (arc_of net a)

abbrev pub plain : NetArc → Arc
plain arc = record { tail = arc.tail; head = arc.head; low = magnitude arc.low; cap = magnitude arc.cap; cost = magnitude arc.cost }

abbrev pub signed : Arc → NetArc
signed arc = record { tail = arc.tail; head = arc.head; low = pos arc.low; cap = pos arc.cap; cost = pos arc.cost }
