use Rattle.std.proofs.Common.{◌≡◌, ◌*◌, ◌-◌, ◌≤◌}
use Rattle.tqd_base.specs.declared.limits.TheConstants.{QTY_MAX, PRICE_MAX}
use Rattle.tqd_base.specs.Sum.{sum_to}
use Rattle.tqd_instance.specs.Job.{price}
use Rattle.tqd_instance.specs.Plan.{units}
use Rattle.branching.specs.Gap.{relaxed_price}
use Rattle.branching.proofs.gap.gap_at.Given as goal

abbrev pub invariant-loop-k : goal.invariant-loop-k
invariant-loop-k l = record {
  is_sum : l.sum ≡ sum_to l.k (λ k. units l.plan l.i k * price l.job l.i l.p k - units l.plan l.i k * relaxed_price l.job l.area l.i k);
  fits : l.sum ≤ l.k * (QTY_MAX * PRICE_MAX);
}
