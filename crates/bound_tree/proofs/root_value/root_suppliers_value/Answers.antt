use Rattle.std.proofs.Common.{ℕ, ◌≡◌, ◌+◌, ◌-◌, ◌<◌, ◌∙◌, sym, arith}
use Rattle.std.proofs.lemmas.Int.{ints}
use Rattle.tqd_instance.specs.Job.{suppliers}
use Rattle.tqd_instance.proofs.Jobs.{job_in_range}
use Rattle.bound_tree.specs.Prices.{first_of, places_to, segment_price}
use Rattle.bound_tree.specs.Root.{root_of}
use Rattle.bound_tree.specs.Value.{supplier_value}
use Rattle.bound_tree.specs.Asked.{charges_by}
use Rattle.bound_tree.proofs.BoxPlaces.{places_to-zero}
use Rattle.bound_tree.proofs.SegmentValues.{first_is}
use Rattle.bound_tree.proofs.SignedSums.{signed_sum_to-more}
use Rattle.bound_tree.proofs.RootValues.{first_some, root_within, root_more, root_range}
use Rattle.bound_tree.proofs.root_value.root_suppliers_value.Goals as goal

pub loop-i-init : goal.loop-i-init
loop-i-init c = record {
  place = sym (places_to-zero (root_of c.args.job.now));
  few = omega arith;
  is_sum = omega (arith, ints);
  not_less = omega (arith, ints);
  not_more = omega (arith, ints);
}

first : (c : goal.After-from) → c.from.result ≡ first_of c.args.area.now c.loop-i.i
first c = first_is c.args.area.now c.loop-i.i _ _ c.low_of.ensures (omega (arith, c.max.ensures, c.from.ensures))

pub supplier_value-sum-requires-clause-place : goal.supplier_value-sum-requires-clause-place
supplier_value-sum-requires-clause-place c =
    omega (arith, c.loop-i.invariant.place, c.requires.fits.places, first c, root_within c.args.job.now c.args.area.now c.loop-i.i c.requires.of_job (omega (arith, c.loop-i-test.true, c.suppliers-i-end.ensures.value)))

pub loop-i-preserved : goal.loop-i-preserved
loop-i-preserved c =
    let inv = c.loop-i.invariant in
    let i = c.loop-i.i in
    let job = c.args.job.now in
    let below : i < suppliers job = omega (arith, c.loop-i-test.true, c.suppliers-i-end.ensures.value) in
    let charges = charges_by c.args.asked job in
    let f = λ (i : ℕ). supplier_value charges job c.args.area.now c.args.good_prices.now
    (segment_price (root_of job) (record { goods = c.args.good_prices.now; places = c.args.place_prices.now }) i) i in
    let more = signed_sum_to-more i f in
    let begins : c.from.result ≡ first_of c.args.area.now i = first_is c.args.area.now i c.low_of.result c.from.result c.low_of.ensures (omega (arith, c.max.ensures, c.from.ensures)) in
    let from : c.loop-i.at + c.from.result - 1 ≡ places_to (root_of job) i + (first_of c.args.area.now i - 1) = omega (arith, inv.place, begins, first_some c.args.area.now i) in
    let here : c.supplier_value-sum.result ≡ f i =
    c.supplier_value-sum.ensures.value
    ∙ root_range charges job c.args.area.now c.args.good_prices.now c.args.place_prices.now i (c.loop-i.at + c.from.result - 1) c.requires.of_job below from in
    let few = ((job_in_range job).each_supplier i below).few in
    record {
      place = omega (arith, inv.place, root_more job i below, c.segments.ensures, c.from-at.ensures);
      few = omega (arith, few, inv.few, c.segments.ensures, c.from-at.ensures);
      is_sum = omega (arith, ints);
      not_less = omega (arith, ints);
      not_more = omega (arith, ints);
    }
