use Rattle.std.proofs.Common.{◌≡◌, arith}
use Rattle.std.proofs.lemmas.Int.{ints}
use Rattle.tqd_instance.specs.Job.{need, most}
use Rattle.bound_tree.specs.Prices.{price_at}
use Rattle.bound_tree.specs.Value.{least_times}
use Rattle.bound_tree.proofs.PriceReads.{price_read}
use Rattle.bound_tree.proofs.SignedSums.{signed_sum_to-more}
use Rattle.bound_tree.proofs.value.goods_value.Goals as goal

pub loop-k-preserved : goal.loop-k-preserved
loop-k-preserved c =
    let i = c.loop-k.invariant in
    let m = signed_sum_to-more c.loop-k.k (λ k. least_times (price_at c.args.good_prices.now k) (need c.args.job.now k) (most c.args.job.now k)) in
    let e : c.least_times-sum.result ≡ least_times (price_at c.args.good_prices.now c.loop-k.k) (need c.args.job.now c.loop-k.k) (most c.args.job.now c.loop-k.k) =
    (let v = c.least_times-sum.ensures.value in
    let p = price_read c.args.good_prices.now c.loop-k.k c.requires.goods_in_range in
    cc) in
    record { is_sum = omega (arith, ints); not_less = omega (arith, ints); not_more = omega (arith, ints) }
