use Rattle.std.specs.Prelude.{ℕ, ◌≤◌, ℤ, pos, ◌*ℤ◌, ◌≤ℤ◌, int_lt, Bool, length, if◌then◌else◌}
use Rattle.mcf_lower.specs.Net.{Network, IsNetwork, arc_of}
use Rattle.tqd_base.specs.Sum.{signed_sum_to}
use Rattle.mcf_lower.specs.Circulation.{IsCirculation, IsCut, Fits, cost, reduced_cost}

abbrev pub CutExcludes : Type 0
CutExcludes = (net : Network) → IsNetwork net → (has : ℕ → Bool) → IsCut net has → (flow : ℕ → ℕ) → IsCirculation net flow → ⊥

-- the least that a circulation can cost by the numbers of the nodes
abbrev pub dual_value : Network → (ℕ → ℤ) → ℤ
dual_value net number = signed_sum_to (length net.arcs)
    (λ a. reduced_cost net number a *ℤ pos (if int_lt (reduced_cost net number a) (pos 0) then (arc_of net a).cap else (arc_of net a).low))

abbrev pub WeakDuality : Type 0
WeakDuality = (net : Network) → IsNetwork net → (number : ℕ → ℤ) → (flow : ℕ → ℕ) → IsCirculation net flow → dual_value net number ≤ℤ pos (cost net flow)

abbrev pub FitsCheapest : Type 0
FitsCheapest = (net : Network) → IsNetwork net → (flow : ℕ → ℕ) → IsCirculation net flow → (number : ℕ → ℤ) → Fits net flow number
    → (other : ℕ → ℕ) → IsCirculation net other → cost net flow ≤ cost net other
