use Rattle.std.proofs.Common.{◌≡◌, ◌*◌, ◌≤◌}
use Rattle.tqd_base.specs.declared.limits.TheConstants.{QTY_MAX}
use Rattle.tqd_base.specs.Sum.{sum_to}
use Rattle.tqd_instance.specs.Plan.{units}
use Rattle.tqd_instance.proofs.job.Job.total.Given as goal

abbrev pub invariant-loop-k : goal.invariant-loop-k
invariant-loop-k l = record {
  is_sum : l.sum ≡ sum_to l.k (units l.plan l.i);
  fits : l.sum ≤ l.k * QTY_MAX;
}
