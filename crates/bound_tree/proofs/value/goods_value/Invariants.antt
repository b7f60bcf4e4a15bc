use Rattle.std.proofs.Common.{◌≡◌, ◌*◌, ◌≤ℤ◌, neg_ℤ, pos}
use Rattle.tqd_instance.specs.Job.{need, most}
use Rattle.tqd_base.specs.Sum.{signed_sum_to}
use Rattle.bound_tree.specs.Prices.{price_at}
use Rattle.bound_tree.specs.Value.{least_times}
use Rattle.bound_tree.proofs.value.goods_value.Given as goal

abbrev pub invariant-loop-k : goal.invariant-loop-k
invariant-loop-k l = record {
  is_sum : l.sum ≡ signed_sum_to l.k (λ k. least_times (price_at l.good_prices k) (need l.job k) (most l.job k));
  not_less : neg_ℤ (pos (l.k * 25600000000000000000000000)) ≤ℤ l.sum;
  not_more : l.sum ≤ℤ pos (l.k * 25600000000000000000000000);
}
