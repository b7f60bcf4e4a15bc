use Rattle.std.proofs.Common.{◌+◌, ◌-◌, ◌≤◌, ◌∙◌, ap, sym, take, drop, arith}
use Rattle.tqd_instance.specs.Job.{suppliers}
use Rattle.bound_tree.specs.Prices.{first_of, count_of}
use Rattle.bound_tree.proofs.BoxPlaces.{count_few, places_to-zero, places_to-more, places_to-within}
use Rattle.bound_tree.proofs.Narrowing.{from_of, narrowed_none, narrowed_more}
use Rattle.bound_tree.proofs.narrow.narrowed_places.Goals as goal

pub loop-i-init : goal.loop-i-init
loop-i-init c = record {
  place = sym (places_to-zero c.args.area.now);
  few = omega arith;
  narrowed = narrowed_none c.args.area.now c.args.part.now c.args.places.now c.in_ok-narrowed.narrowed.items c.in_ok-narrowed.ensures.items;
}

pub shared_places-requires-clause-places : goal.shared_places-requires-clause-places
shared_places-requires-clause-places c = omega (arith, c.loop-i.invariant.place, c.requires.places, places_to-within c.args.area.now c.loop-i.i (suppliers c.args.job.now) (omega arith))

few : (c : goal.After-count_of-at) → c.count_of-at.result ≤ 16
few c = omega (arith, c.count_of-at.ensures, count_few c.args.job.now c.args.area.now c.requires.of_job c.loop-i.i (omega arith))

pub overflow_add-at : goal.overflow_add-at
overflow_add-at c = omega (arith, few c, c.loop-i.invariant.few)

pub loop-i-preserved : goal.loop-i-preserved
unfolding from_of
loop-i-preserved c =
    let inv = c.loop-i.invariant in
    let i = c.loop-i.i in
    let area = c.args.area.now in
    let part = c.args.part.now in
    let places = c.args.places.now in
    let shared = c.shared_places.ensures ∙ ap (λ at. take (count_of part i) (drop (at + (first_of part i - first_of area i)) places)) inv.place in
    record {
      place = omega (arith, inv.place, places_to-more c.args.area.now i);
      few = omega (arith, few c, inv.few);
      narrowed = narrowed_more area part i places c.loop-i.narrowed.items c.shared_places.result.now c.extend_from_slice.new.self.items
          (c.requires.part_of_job.ranges i (omega arith)).ordered (c.requires.within i (omega arith))
          (omega (arith, c.requires.places, places_to-within area i (suppliers c.args.job.now) (omega arith))) c.requires.in_range shared
          c.in_ok-extend_from_slice.ensures.items inv.narrowed;
    }
