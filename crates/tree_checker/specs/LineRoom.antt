-- The room that a run has for a line.
use Rattle.std.specs.Prelude.{ℕ, ◌≤◌, Vec, vec_len, vec_capacity}
use Rattle.std.specs.Global.{Global}
use Rattle.tqd_base.specs.declared.limits.TheConstants.{LINE_MAX}

-- room for a line was reserved, and never more is kept
pub record HasLineRoom (bytes : Vec ℕ Global) : Type 0 where
  pub reserved : LINE_MAX ≤ vec_capacity bytes
  pub within : vec_len bytes ≤ LINE_MAX
