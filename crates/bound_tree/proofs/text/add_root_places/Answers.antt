use Rattle.std.proofs.Common.{◌<◌, ◌++◌, ◌∙◌, ap, sym, map, arith, append-nil, ℤ, List}
use Rattle.std.specs.Fmt.{signed_decimal}
use Rattle.tqd_instance.specs.Job.{suppliers}
use Rattle.tqd_instance.proofs.Jobs.{job_in_range}
use Rattle.bound_tree.specs.LineText.{fields_text}
use Rattle.bound_tree.proofs.BoxPlaces.{count_few, places_to-zero, places_to-more, places_to-within}
use Rattle.bound_tree.proofs.RootRows.{root_written, root_prices-none}
use Rattle.bound_tree.proofs.text.add_root_places.Goals as goal

pub loop-i-init : goal.loop-i-init
loop-i-init c = record {
  place = sym (places_to-zero c.args.area.now);
  few = omega arith;
  written = sym (ap (λ (xs : List ℤ). c.args.text.now.items ++ fields_text (map signed_decimal xs)) (root_prices-none c.args.job.now c.args.area.now c.args.places.now) ∙ append-nil c.args.text.now.items);
}

pub add_root_range-requires-clause-places : goal.add_root_range-requires-clause-places
add_root_range-requires-clause-places c =
    let below : c.loop-i.i < suppliers c.args.job.now = omega (arith, c.loop-i-test.true, c.suppliers-i-end.ensures.value) in
    omega (arith, c.loop-i.invariant.place, c.requires.places, places_to-within c.args.area.now c.loop-i.i (suppliers c.args.job.now) below)

pub overflow_add-at : goal.overflow_add-at
overflow_add-at c =
    let below : c.loop-i.i < suppliers c.args.job.now = omega (arith, c.loop-i-test.true, c.suppliers-i-end.ensures.value) in
    let few = count_few c.args.job.now c.args.area.now c.requires.of_job c.loop-i.i below in
    omega (arith, c.count_of-at.ensures, few, c.loop-i.invariant.few, (job_in_range c.args.job.now).few_suppliers)

pub loop-i-preserved : goal.loop-i-preserved
loop-i-preserved c =
    let inv = c.loop-i.invariant in
    let i = c.loop-i.i in
    let area = c.args.area.now in
    let places = c.args.places.now in
    let below : i < suppliers c.args.job.now = omega (arith, c.loop-i-test.true, c.suppliers-i-end.ensures.value) in
    let few = count_few c.args.job.now area c.requires.of_job i below in
    record {
      place = omega (arith, inv.place, c.count_of-at.ensures, places_to-more area i);
      few = omega (arith, inv.few, c.count_of-at.ensures, few);
      written = root_written c.args.job.now area places c.loop-i.at i c.segments.result c.args.text.now.items c.loop-i.text.items c.add_root_range.new.text.items below inv.place c.segments.ensures.value
          inv.written c.in_ok-add_root_range.ensures;
    }
