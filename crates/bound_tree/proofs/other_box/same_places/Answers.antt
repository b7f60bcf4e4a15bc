use Rattle.std.proofs.Common.{ℕ, ◌≡◌, ◌<◌, refl, sym, subst, arith, inl, inr}
use Rattle.std.proofs.lemmas.Bool.{cases_lt}
use Rattle.tqd_instance.specs.Job.{suppliers}
use Rattle.tqd_instance.proofs.Jobs.{job_in_range}
use Rattle.bound_tree.specs.Prices.{places_to}
use Rattle.bound_tree.specs.OtherPlaces.{SameRange}
use Rattle.bound_tree.proofs.BoxPlaces.{count_few, places_to-zero, places_to-more, places_to-within}
use Rattle.bound_tree.proofs.other_box.same_places.Goals as goal

pub loop-i-init : goal.loop-i-init
loop-i-init c = record {
  kept_place = sym (places_to-zero c.args.kept_area.now);
  place = sym (places_to-zero c.args.area.now);
  kept_few = omega arith;
  few = omega arith;
  same = λ k below. absurd (omega arith);
}

pub same_range-requires-clause-few : goal.same_range-requires-clause-few
same_range-requires-clause-few c =
    let below : c.loop-i.i < suppliers c.args.job.now = omega (arith, c.loop-i-test.true, c.suppliers-i-end.ensures.value) in
    omega (arith, ((job_in_range c.args.job.now).each_supplier c.loop-i.i below).few, (c.requires.of_job.ranges c.loop-i.i below).within)

pub same_range-requires-clause-kept_places : goal.same_range-requires-clause-kept_places
same_range-requires-clause-kept_places c =
    let below : c.loop-i.i < suppliers c.args.job.now = omega (arith, c.loop-i-test.true, c.suppliers-i-end.ensures.value) in
    omega (arith, c.loop-i.invariant.kept_place, c.requires.kept_places, places_to-within c.args.kept_area.now c.loop-i.i (suppliers c.args.job.now) below)

pub same_range-requires-clause-places : goal.same_range-requires-clause-places
same_range-requires-clause-places c =
    let below : c.loop-i.i < suppliers c.args.job.now = omega (arith, c.loop-i-test.true, c.suppliers-i-end.ensures.value) in
    omega (arith, c.loop-i.invariant.place, c.requires.places, places_to-within c.args.area.now c.loop-i.i (suppliers c.args.job.now) below)

pub overflow_add-kept_at : goal.overflow_add-kept_at
overflow_add-kept_at c =
    let below : c.loop-i.i < suppliers c.args.job.now = omega (arith, c.loop-i-test.true, c.suppliers-i-end.ensures.value) in
    let few = count_few c.args.job.now c.args.kept_area.now c.requires.kept_of_job c.loop-i.i below in
    omega (arith, c.count_of-kept_at.ensures, few, c.loop-i.invariant.kept_few, (job_in_range c.args.job.now).few_suppliers)

pub overflow_add-at : goal.overflow_add-at
overflow_add-at c =
    let below : c.loop-i.i < suppliers c.args.job.now = omega (arith, c.loop-i-test.true, c.suppliers-i-end.ensures.value) in
    let few = count_few c.args.job.now c.args.area.now c.requires.of_job c.loop-i.i below in
    omega (arith, c.count_of-at.ensures, few, c.loop-i.invariant.few, (job_in_range c.args.job.now).few_suppliers)

pub loop-i-preserved : goal.loop-i-preserved
loop-i-preserved c =
    let inv = c.loop-i.invariant in
    let i = c.loop-i.i in
    let kept_area = c.args.kept_area.now in
    let area = c.args.area.now in
    let below : i < suppliers c.args.job.now = omega (arith, c.loop-i-test.true, c.suppliers-i-end.ensures.value) in
    let kept_few = count_few c.args.job.now kept_area c.requires.kept_of_job i below in
    let few = count_few c.args.job.now area c.requires.of_job i below in
    let here : SameRange kept_area c.args.kept.now (places_to kept_area i) area c.args.places.now (places_to area i) i =
    rw (inv.kept_place, inv.place) at (c.if-not-same_range.ensures.0 refl) in
    record {
      kept_place = omega (arith, inv.kept_place, c.count_of-kept_at.ensures, places_to-more kept_area i);
      place = omega (arith, inv.place, c.count_of-at.ensures, places_to-more area i);
      kept_few = omega (arith, inv.kept_few, c.count_of-kept_at.ensures, kept_few);
      few = omega (arith, inv.few, c.count_of-at.ensures, few);
      same = λ k most. elim (cases_lt k i) [
        | inl before ↦ inv.same k before
        | inr last ↦ (let same : i ≡ k = omega arith in subst (λ (m : ℕ). SameRange kept_area c.args.kept.now (places_to kept_area m) area c.args.places.now (places_to area m) m) same here)
      ];
    }
