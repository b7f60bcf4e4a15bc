use Rattle.std.specs.Prelude.{ℕ, zero, suc, ◌≡◌, ◌+◌, ◌-◌, ◌*◌, ◌<◌, ◌≤◌, max, ℤ, pos, neg_ℤ, ◌-ℤ◌, ◌≤ℤ◌, List, length, slice_index, slice_index_or}
use Rattle.tqd_base.specs.declared.limits.TheConstants.{DUAL_MAX}
use Rattle.mcf_lower.specs.Net.{Network, arc_of}
use Rattle.mcf_lower.specs.Circulation.{Fits}
use Rattle.mcf_lower.specs.Answers.{IsFlow, IsPricedFlow, units_of}

-- the greatest of f 0, f 1, .., f (n - 1), or 0 where there is none
abbrev pub greatest_to : ℕ → (ℕ → ℕ) → ℕ
greatest_to zero f = 0
greatest_to (suc n) f = max (greatest_to n f) (f n)

abbrev pub greatest_cost : Network → ℕ
greatest_cost net = greatest_to (length net.arcs) (λ a. (arc_of net a).cost)

abbrev pub number_of : List ℤ → ℕ → ℤ
number_of numbers v = slice_index_or numbers v (pos 0)

-- numbers from which a search can start
pub record AreStart (net : Network) (numbers : List ℤ) : Type 0 where
  pub nodes : length numbers ≡ net.nodes
  pub least : (v : ℕ) → v < net.nodes → neg_ℤ DUAL_MAX ≤ℤ number_of numbers v
  pub most : (v : ℕ) → v < net.nodes → number_of numbers v ≤ℤ DUAL_MAX

-- a circulation and numbers that fit it, within what the net's costs call for
pub record IsPriced (net : Network) (flow : List ℕ) (numbers : List ℤ) : Type 0 where
  pub is_flow : IsFlow net flow
  pub fits : Fits net (units_of flow) (number_of numbers)
  pub nodes : length numbers ≡ net.nodes
  pub zero : number_of numbers 0 ≡ pos 0
  pub least : (v : ℕ) → v < net.nodes → neg_ℤ (pos ((net.nodes - 1) * greatest_cost net)) ≤ℤ number_of numbers v
  pub most : (v : ℕ) → v < net.nodes → number_of numbers v ≤ℤ pos ((net.nodes - 1) * greatest_cost net)

-- natural numbers less the first of them
pub record AreLess (numbers : List ℕ) (lowered : List ℤ) : Type 0 where
  pub length_same : length lowered ≡ length numbers
  pub each : (v : ℕ) → v < length numbers → number_of lowered v ≡ pos (slice_index numbers v) -ℤ pos (slice_index numbers 0)

-- numbers of which none is farther from the first than `most`
pub record AreNear (numbers : List ℕ) (most : ℕ) : Type 0 where
  pub above : (v : ℕ) → v < length numbers → slice_index numbers v ≤ slice_index numbers 0 + most
  pub below : (v : ℕ) → v < length numbers → slice_index numbers 0 ≤ slice_index numbers v + most

-- numbers that fit each flow that others fit, within what the net's costs call for
abbrev pub ServeAs : Network → List ℕ → List ℤ → Type 0
ServeAs net numbers bounded = (flow : List ℕ) → IsPricedFlow net flow numbers → IsPriced net flow bounded
