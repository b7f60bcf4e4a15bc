use Rattle.std.specs.Prelude.{ℕ, ◌≡◌, ◌<◌, ◌≤◌, pos, List, Bool, false, length, slice_index, slice_index_or}
use Rattle.mcf_lower.specs.declared.found.Found.{Found}
use Rattle.mcf_lower.specs.declared.found.Found.TheVariants.{Flow, Cut}
use Rattle.mcf_lower.specs.declared.found.Solved.{Solved}
use Rattle.mcf_lower.specs.declared.found.Solved.TheVariants.{Flow as SolvedFlow, Cut as SolvedCut}
use Rattle.mcf_lower.specs.Net.{Network}
use Rattle.mcf_lower.specs.Circulation.{IsCirculation, IsCut, Fits}
use Rattle.mcf_lower.specs.Search.{number_max}

abbrev pub units_of : List ℕ → ℕ → ℕ
units_of flow a = slice_index flow a

abbrev pub has_of : List Bool → ℕ → Bool
has_of members v = slice_index_or members v false

-- a list of flows that is a circulation
pub record IsFlow (net : Network) (flow : List ℕ) : Type 0 where
  pub arcs : length flow ≡ length net.arcs
  pub circulation : IsCirculation net (units_of flow)

-- a set of nodes that is a cut: the net has no circulation
pub record IsCutSet (net : Network) (members : List Bool) : Type 0 where
  pub nodes : length members ≡ net.nodes
  pub cut : IsCut net (has_of members)
  pub none : (flow : ℕ → ℕ) → IsCirculation net flow → ⊥

abbrev pub IsAnswer : Network → Found → Type 0
IsAnswer net (Flow flow) = IsFlow net flow
IsAnswer net (Cut members) = IsCutSet net members

-- a circulation and numbers that fit it
pub record IsPricedFlow (net : Network) (flow numbers : List ℕ) : Type 0 where
  pub is_flow : IsFlow net flow
  pub nodes : length numbers ≡ net.nodes
  pub small : (v : ℕ) → v < net.nodes → slice_index numbers v ≤ number_max
  pub fits : Fits net (units_of flow) (λ v. pos (slice_index numbers v))

abbrev pub IsSolution : Network → Solved → Type 0
IsSolution net (SolvedFlow flow numbers) = IsPricedFlow net flow numbers.items
IsSolution net (SolvedCut members) = IsCutSet net members
