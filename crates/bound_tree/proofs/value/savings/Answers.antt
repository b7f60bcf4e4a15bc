use Rattle.std.proofs.Common.{ℕ, ℤ, ap, ◌∙◌, ◌≡◌, ◌*◌, pos, neg_ℤ, refl, arith}
use Rattle.std.proofs.lemmas.Int.{ints, to_z-of_z}
use Rattle.std.proofs.lemmas.Nat.{mul-le}
use mir.Syntax.{w64}
use mir.Val.{to_z, of_z}
use Rattle.tqd_instance.specs.Job.{goods, price}
use Rattle.tqd_base.specs.Sum.{signed_sum_to}
use Rattle.bound_tree.specs.Prices.{price_at}
use Rattle.bound_tree.specs.Value.{cap, least_gain}
use Rattle.bound_tree.specs.Asked.{asked_of, charges_by}
use Rattle.bound_tree.proofs.PriceReads.{price_read, gain_computed, units_are}
use Rattle.bound_tree.proofs.SignedSums.{signed_sum_to-more}
use Rattle.bound_tree.proofs.value.savings.Goals as goal

pub loop-k-init : goal.loop-k-init
loop-k-init c = record { is_sum = refl; fits = omega arith }

pub loop-k-preserved : goal.loop-k-preserved
loop-k-preserved c =
    let i = c.loop-k.invariant in
    let job = c.args.job.now in
    let k = c.loop-k.k in
    let prices = c.args.good_prices.now in
    let f = λ (k : ℕ). least_gain (cap job c.args.i k) ((charges_by c.args.asked job).price c.args.i c.args.j k) (price_at prices k) (to_z w64 (of_z w64 c.args.place)) in
    let m = signed_sum_to-more k f in
    let u : c.from.result ≡ cap job c.args.i k = units_are job c.args.i k c.stock.result c.most.result c.min-units.result c.from.result c.stock.ensures.value c.most.ensures.value c.min-units.ensures c.from.ensures in
    let a : c.of-charge.result ≡ asked_of c.args.asked (price job c.args.i c.args.j k) = c.of-charge.ensures.value ∙ ap (asked_of c.args.asked) (c.prices-prices.ensures.value k) in
    let e : f k ≡ neg_ℤ (pos (c.from.result * c.from-in-loop-k.result)) =
    gain_computed (cap job c.args.i k) (asked_of c.args.asked (price job c.args.i c.args.j k)) c.saving.result c.from.result c.of-charge.result c.from-in-loop-k.result
    (price_at prices k) (to_z w64 (of_z w64 c.args.place)) _ _ u a c.from-in-loop-k.ensures (price_read prices k c.requires.goods_in_range) refl c.saving.ensures.value in
    let b = mul-le c.from.result c.from-in-loop-k.result 100000000 8000000000000000 (omega arith) (omega arith) in
    record { is_sum = omega (arith, ints); fits = omega arith }

pub returns : goal.returns
returns c =
    let job = c.args.job.now in
    let sum = λ (n : ℕ) (h : ℤ). signed_sum_to n
    (λ k. least_gain (cap job c.args.i k) ((charges_by c.args.asked job).price c.args.i c.args.j k) (price_at c.args.good_prices.now k) h) in
    let all : c.loop-k.k ≡ goods job = omega arith in
    record {
      value = c.loop-k.invariant.is_sum ∙ ap (λ h. sum c.loop-k.k h) (to_z-of_z w64 c.args.place c.ranges.place) ∙ ap (λ n. sum n c.args.place) all;
      within = omega arith;
    }
