-- The weights of a supplier's columns.
use Rattle.std.specs.Prelude.{ℕ, ◌≡◌, ◌≤◌, List, length, sum}
use Rattle.lagrangian.specs.declared.weights.TheConstants.{COLUMNS_MAX, WHOLE}

-- a weight for each place of a column, and no more than a whole in all
pub record AreWeights (items : List ℕ) : Type 0 where
  pub count : length items ≡ COLUMNS_MAX
  pub within : sum items ≤ WHOLE
