use Rattle.std.proofs.Common.{◌≡◌, ℕ, ◌<◌, length, get_or}
use Rattle.lagrangian.proofs.column.Column.put.Given as goal

abbrev pub invariant-loop-k : goal.invariant-loop-k
invariant-loop-k l = record {
  width : length l.self.units ≡ length l.units;
  segment : l.self.segment ≡ l.segment;
  done : (at : ℕ) → at < l.k → get_or l.self.units at 0 ≡ get_or l.units at 0;
}
