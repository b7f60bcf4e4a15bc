-- What holds of the numbers of every plan.
use Rattle.std.specs.Prelude.{ℕ, ◌≡◌, ◌*◌, ◌^◌, ◌<◌, ◌≤◌, List, length, slice_index}
use Rattle.tqd_base.specs.declared.limits.TheConstants.{QTY_MAX}

-- a table of so many rows and columns, kept row by row, of quantities
pub record IsTable (rows columns : ℕ) (cells : List ℕ) : Type 0 where
  pub size : length cells ≡ rows * columns
  pub fits : rows * columns < 2 ^ 64
  pub small : (at : ℕ) → slice_index cells at ≤ QTY_MAX
