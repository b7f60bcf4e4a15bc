use Rattle.std.proofs.Common.{◌≡◌, ◌*◌, ◌≤◌}
use Rattle.tqd_base.specs.declared.limits.TheConstants.{QTY_MAX, PRICE_MAX}
use Rattle.tqd_base.specs.Sum.{sum_to}
use Rattle.tqd_instance.specs.Job.{price}
use Rattle.tqd_instance.specs.Plan.{units}
use Rattle.plan_report.proofs.plan.goods_cost.Given as goal

abbrev pub invariant-loop-k : goal.invariant-loop-k
invariant-loop-k l = record {
  added : l.sum ≡ sum_to l.k (λ k. units l.plan l.i k * price l.job l.i l.segment k);
  within : l.sum ≤ l.k * (QTY_MAX * PRICE_MAX);
}
