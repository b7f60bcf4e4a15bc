use Rattle.std.specs.Prelude.{ℕ, ◌<◌, ◌≤◌, List, length, slice_index}
use Rattle.mcf_lower.specs.Net.{flow_max}

-- numbers of units that no arc may exceed
pub record AreUnits (units : List ℕ) : Type 0 where
  pub most : (a : ℕ) → a < length units → slice_index units a ≤ flow_max
