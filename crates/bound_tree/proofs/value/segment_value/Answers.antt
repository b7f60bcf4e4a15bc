use Rattle.std.proofs.Common.{ℤ, ◌≡◌, ◌∙◌, ap, sym, pos, neg_ℤ, arith}
use Rattle.std.proofs.lemmas.Int.{ints}
use Rattle.tqd_instance.specs.Job.{goods, low, high, fee}
use Rattle.tqd_base.specs.Sum.{signed_sum_to}
use Rattle.bound_tree.specs.Prices.{price_at}
use Rattle.bound_tree.specs.Value.{cap, least_gain, least_times}
use Rattle.bound_tree.specs.Asked.{asked_of, charges_by}
use Rattle.bound_tree.proofs.PriceReads.{price_read}
use Rattle.bound_tree.proofs.SegmentValues.{segment_value-none, segment_value-some, gains, gains-are}
use Rattle.bound_tree.proofs.value.segment_value.Goals as goal

pub returns-then-j-eq0-clause-value : goal.returns-then-j-eq0-clause-value
returns-then-j-eq0-clause-value c =
    sym (segment_value-none (charges_by c.args.asked c.args.job.now) c.args.job.now c.args.good_prices.now (price_at c.args.place_prices.now c.args.at) c.args.i c.args.j c.if-j-eq0.true)

pub returns-clause-value : goal.returns-clause-value
returns-clause-value c =
    let job = c.args.job.now in
    let charges = charges_by c.args.asked job in
    let prices = c.args.good_prices.now in
    let i = c.args.i in
    let j = c.args.j in
    let h = price_at c.args.place_prices.now c.args.at in
    let r = price_read c.args.place_prices.now c.args.at c.requires.places_in_range in
    let some = segment_value-some charges job prices h i j (omega (arith, c.if-j-eq0.false)) in
    let sum = λ (h : ℤ). signed_sum_to (goods job) (λ k. least_gain (cap job i k) (charges.price i j k) (price_at prices k) h) in
    let saved : neg_ℤ (pos c.savings-savings.result) ≡ gains charges job prices h i j =
    c.savings-savings.ensures.value ∙ ap sum r ∙ sym (gains-are charges job prices h i j) in
    let times : c.least_times-total.result ≡ least_times h (low job i j) (high job i j) =
    (let v = c.least_times-total.ensures.value in let l = c.low.ensures.value in let t = c.high.ensures.value in cc) in
    let paid : c.of.result ≡ asked_of c.args.asked (fee job i) =
    (let v = c.of.ensures.value in let f = c.fee.ensures.value in cc) in
    omega (arith, ints)
