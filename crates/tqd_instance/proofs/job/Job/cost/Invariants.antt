use Rattle.std.proofs.Common.{◌≡◌, ◌+◌, ◌*◌, ◌≤◌}
use Rattle.tqd_base.specs.declared.limits.TheConstants.{GOODS_MAX, QTY_MAX, PRICE_MAX}
use Rattle.tqd_base.specs.Sum.{sum_to}
use Rattle.tqd_instance.specs.Cost.{goods_cost, fee_cost}
use Rattle.tqd_instance.specs.Plan.{units}
use Rattle.tqd_instance.proofs.job.Job.cost.Given as goal

abbrev pub invariant-loop-i : goal.invariant-loop-i
invariant-loop-i l = record {
  is_sum : l.sum ≡ sum_to l.i (λ i. goods_cost l.self (units l.plan) i + fee_cost l.self (units l.plan) i);
  fits : l.sum ≤ l.i * ((GOODS_MAX * QTY_MAX + 1) * PRICE_MAX);
}
