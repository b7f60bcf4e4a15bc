use Rattle.std.proofs.Common.{◌≡◌, ◌*◌, ◌≤◌}
use Rattle.tqd_base.specs.Sum.{sum_to}
use Rattle.tqd_instance.specs.Job.{most}
use Rattle.lagrangian.proofs.totals.mosts_of.Given as goal

abbrev pub invariant-loop-k : goal.invariant-loop-k
invariant-loop-k l = record {
  is_sum : l.sum ≡ sum_to l.k (most l.job);
  fits : l.sum ≤ l.k * 6400000000;
}
