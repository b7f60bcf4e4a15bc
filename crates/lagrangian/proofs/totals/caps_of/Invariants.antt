use Rattle.std.proofs.Common.{◌≡◌, ◌*◌, ◌≤◌}
use Rattle.tqd_base.specs.Sum.{sum_to}
use Rattle.bound_tree.specs.Value.{cap}
use Rattle.lagrangian.proofs.totals.caps_of.Given as goal

abbrev pub invariant-loop-k : goal.invariant-loop-k
invariant-loop-k l = record {
  is_sum : l.sum ≡ sum_to l.k (cap l.job l.i);
  fits : l.sum ≤ l.k * 100000000;
}
