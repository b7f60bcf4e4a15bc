use Rattle.std.proofs.Common.{ℕ, ◌≡◌, ◌+◌, ◌-◌, ◌≤◌, ◌∙◌, ap, arith}
use Rattle.std.proofs.lemmas.Int.{ints}
use Rattle.tqd_instance.specs.Job.{suppliers}
use Rattle.bound_tree.specs.Prices.{first_of, price_at, place_of, segment_price}
use Rattle.bound_tree.specs.Value.{supplier_value}
use Rattle.bound_tree.specs.Asked.{charges_by}
use Rattle.bound_tree.proofs.BoxPlaces.{count_few, places_to-more, places_to-within}
use Rattle.bound_tree.proofs.SignedSums.{signed_sum_to-more}
use Rattle.bound_tree.proofs.value.suppliers_value.Goals as goal

pub supplier_value-sum-requires-clause-place : goal.supplier_value-sum-requires-clause-place
supplier_value-sum-requires-clause-place c =
    omega (arith, c.loop-i.invariant.place, c.requires.fits.places, places_to-within c.args.area.now c.loop-i.i (suppliers c.args.job.now) (omega arith))

few : (c : goal.After-count_of-at) → c.count_of-at.result ≤ 16
few c = omega (arith, c.count_of-at.ensures, count_few c.args.job.now c.args.area.now c.requires.of_job c.loop-i.i (omega arith))

pub overflow_add-at : goal.overflow_add-at
overflow_add-at c = omega (arith, few c, c.loop-i.invariant.few)

pub loop-i-preserved : goal.loop-i-preserved
unfolding segment_price place_of
loop-i-preserved c =
    let inv = c.loop-i.invariant in
    let i = c.loop-i.i in
    let charges = charges_by c.args.asked c.args.job.now in
    let f = λ (i : ℕ). supplier_value charges c.args.job.now c.args.area.now c.args.good_prices.now
    (segment_price c.args.area.now (record { goods = c.args.good_prices.now; places = c.args.place_prices.now }) i) i in
    let more = signed_sum_to-more i f in
    let here : c.supplier_value-sum.result ≡ f i =
    c.supplier_value-sum.ensures.value
    ∙ ap (λ at. supplier_value charges c.args.job.now c.args.area.now c.args.good_prices.now (λ j. price_at c.args.place_prices.now (at + (j - first_of c.args.area.now i))) i) inv.place in
    record {
      place = omega (arith, places_to-more c.args.area.now i);
      few = omega (arith, few c, inv.few);
      is_sum = omega (arith, ints);
      not_less = omega (arith, ints);
      not_more = omega (arith, ints);
    }
