use Rattle.std.proofs.Common.{pos, neg_ℤ, ◌≡◌, ◌*◌, ◌∙◌, ap, ap₂, arith}
use Rattle.std.specs.Int.{int_max}
use Rattle.std.proofs.lemmas.Int.{ints, clamps}
use Rattle.std.proofs.lemmas.Nat.{mul-le}
use borrow.Author.Differences.{up, down}
use Rattle.tqd_base.specs.Sum.{signed_sum_to}
use Rattle.tqd_instance.specs.Job.{goods, need, most}
use Rattle.bound_tree.specs.Prices.{price_at}
use Rattle.bound_tree.specs.Value.{least_times, goods_value}
use Rattle.bound_tree.proofs.Signed.{least_times-is}
use Rattle.bound_tree.proofs.SignedSums.{signed_sum_to-more}
use Rattle.lagrangian.proofs.PriceReads.{good_read, good_in}
use Rattle.lagrangian.proofs.SignedLaws.{up_of, down_of}
use Rattle.lagrangian.proofs.goods.goods_value.Goals as goal

pub loop-k-preserved : goal.loop-k-preserved
loop-k-preserved c =
    let k = c.loop-k.k in
    let prices = c.args.good_prices.now in
    let price = price_at prices k in
    let inv = c.loop-k.invariant in
    let read = good_read prices k c.requires.in_range in
    let range = good_in prices k c.requires.in_range in
    let l = range.not_less in
    let m = range.not_more in
    let over : pos c.above_zero.result ≡ int_max price (pos 0) = rw read at c.above_zero.ensures.value in
    let under : pos c.above_zero-in-loop-k.result ≡ int_max (neg_ℤ price) (pos 0) = omega (arith, ints, clamps, c.above_zero-in-loop-k.ensures.value) in
    let a : c.from.result * c.from-in-loop-k.result ≡ up price * need c.args.job.now k =
    ap₂ (λ x y. x * y) (c.from.ensures ∙ up_of price c.above_zero.result over) (c.from-in-loop-k.ensures ∙ c.need.ensures.value) in
    let b : c.from-in-loop-k-2.result * c.from-in-loop-k-3.result ≡ down price * most c.args.job.now k =
    ap₂ (λ x y. x * y) (c.from-in-loop-k-2.ensures ∙ down_of price c.above_zero-in-loop-k.result under) (c.from-in-loop-k-3.ensures ∙ c.most.ensures.value) in
    let times = least_times-is price (need c.args.job.now k) (most c.args.job.now k) in
    let more = signed_sum_to-more k (λ k. least_times (price_at prices k) (need c.args.job.now k) (most c.args.job.now k)) in
    let few = mul-le c.from.result c.from-in-loop-k.result 2000000000000000 6400000000 (omega arith) (omega arith) in
    let less = mul-le c.from-in-loop-k-2.result c.from-in-loop-k-3.result 2000000000000000 6400000000 (omega arith) (omega arith) in
    record {
      is_sum = omega (arith, ints);
      few_paid = omega arith;
      few_saved = omega arith;
    }

pub returns-clause-value : goal.returns-clause-value
unfolding goods_value
returns-clause-value c =
    let inv = c.loop-k.invariant in
    let all : c.loop-k.k ≡ goods c.args.job.now = omega arith in
    let sum = ap (λ n. signed_sum_to n (λ k. least_times (price_at c.args.good_prices.now k) (need c.args.job.now k) (most c.args.job.now k))) all in
    omega (arith, ints)
