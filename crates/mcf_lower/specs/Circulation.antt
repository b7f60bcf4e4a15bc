use Rattle.std.specs.Prelude.{ℕ, ◌≡◌, ◌*◌, ◌<◌, ◌≤◌, ℤ, pos, ◌+ℤ◌, ◌-ℤ◌, ◌<ℤ◌, Bool, not, ◌&&◌, ◌==◌, length, if◌then◌else◌}
use Rattle.mcf_lower.specs.Net.{Network, arc_of}
use Rattle.tqd_base.specs.Sum.{sum_to}

-- Lower bounds are never below 0, so the units on each arc are a natural number.

-- the units that a flow brings to node v, and those that it takes from there
abbrev pub inflow : Network → (ℕ → ℕ) → ℕ → ℕ
inflow net flow v = sum_to (length net.arcs) (λ a. if (arc_of net a).head == v then flow a else 0)

abbrev pub outflow : Network → (ℕ → ℕ) → ℕ → ℕ
outflow net flow v = sum_to (length net.arcs) (λ a. if (arc_of net a).tail == v then flow a else 0)

-- a flow within the bounds of each arc that brings to each node what it takes from there
pub record IsCirculation (net : Network) (flow : ℕ → ℕ) : Type 0 where
  pub low : (a : ℕ) → a < length net.arcs → (arc_of net a).low ≤ flow a
  pub cap : (a : ℕ) → a < length net.arcs → flow a ≤ (arc_of net a).cap
  pub balance : (v : ℕ) → v < net.nodes → inflow net flow v ≡ outflow net flow v

-- the lows of the arcs that leave a set of nodes, and the caps of those that enter it
abbrev pub lows_out : Network → (ℕ → Bool) → ℕ
lows_out net has = sum_to (length net.arcs) (λ a. if has (arc_of net a).tail && not (has (arc_of net a).head) then (arc_of net a).low else 0)

abbrev pub caps_in : Network → (ℕ → Bool) → ℕ
caps_in net has = sum_to (length net.arcs) (λ a. if not (has (arc_of net a).tail) && has (arc_of net a).head then (arc_of net a).cap else 0)

-- a set of nodes out of which more has to flow than can come in
abbrev pub IsCut : Network → (ℕ → Bool) → Type 0
IsCut net has = caps_in net has < lows_out net has

abbrev pub cost : Network → (ℕ → ℕ) → ℕ
cost net flow = sum_to (length net.arcs) (λ a. (arc_of net a).cost * flow a)

-- the cost of a unit on arc a, where each node takes and gives units at its number
abbrev pub reduced_cost : Network → (ℕ → ℤ) → ℕ → ℤ
reduced_cost net number a = pos (arc_of net a).cost +ℤ number (arc_of net a).tail -ℤ number (arc_of net a).head

-- node numbers that fit a flow: an arc at a loss carries no more than it has to, one at a gain all that it can
pub record Fits (net : Network) (flow : ℕ → ℕ) (number : ℕ → ℤ) : Type 0 where
  pub low : (a : ℕ) → a < length net.arcs → pos 0 <ℤ reduced_cost net number a → flow a ≡ (arc_of net a).low
  pub cap : (a : ℕ) → a < length net.arcs → reduced_cost net number a <ℤ pos 0 → flow a ≡ (arc_of net a).cap
