use Rattle.std.proofs.Common.{◌≡◌, ◌*◌, ◌≤◌}
use Rattle.tqd_base.specs.declared.limits.TheConstants.{QTY_MAX, PRICE_MAX}
use Rattle.tqd_base.specs.Sum.{sum_to}
use Rattle.tqd_instance.specs.Job.{price}
use Rattle.tqd_instance.specs.Plan.{units}
use Rattle.tqd_instance.proofs.job.Job.goods_cost.Given as goal

abbrev pub invariant-loop-k : goal.invariant-loop-k
invariant-loop-k l = record {
  is_sum : l.sum ≡ sum_to l.k (λ k. units l.plan l.i k * price l.self l.i l.j k);
  fits : l.sum ≤ l.k * (QTY_MAX * PRICE_MAX);
}
