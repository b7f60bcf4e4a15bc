use Rattle.std.proofs.Common.{◌≡◌, ◌<◌, ◌≤◌, ℕ, length, get_or}
use Rattle.tqd_base.specs.declared.limits.TheConstants.{QTY_MAX}
use Rattle.bound_tree.specs.Value.{cap}
use Rattle.lagrangian.proofs.columns.caps_of.Given as goal

abbrev pub invariant-loop-k : goal.invariant-loop-k
invariant-loop-k l = record {
  width : length l.caps.items ≡ l.k;
  each : (at : ℕ) → at < l.k → get_or l.caps.items at 0 ≡ cap l.job l.i at;
  small : (at : ℕ) → get_or l.caps.items at 0 ≤ QTY_MAX;
}
