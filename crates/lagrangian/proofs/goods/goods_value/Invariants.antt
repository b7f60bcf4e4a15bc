use Rattle.std.proofs.Common.{◌≡◌, ◌*◌, ◌≤◌, pos, ◌-ℤ◌}
use Rattle.tqd_base.specs.Sum.{signed_sum_to}
use Rattle.tqd_instance.specs.Job.{need, most}
use Rattle.bound_tree.specs.Prices.{price_at}
use Rattle.bound_tree.specs.Value.{least_times}
use Rattle.lagrangian.proofs.goods.goods_value.Given as goal

abbrev pub invariant-loop-k : goal.invariant-loop-k
invariant-loop-k l = record {
  is_sum : signed_sum_to l.k (λ k. least_times (price_at l.good_prices k) (need l.job k) (most l.job k)) ≡ pos l.paid -ℤ pos l.saved;
  few_paid : l.paid ≤ l.k * 12800000000000000000000000;
  few_saved : l.saved ≤ l.k * 12800000000000000000000000;
}
