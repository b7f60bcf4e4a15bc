use Rattle.std.proofs.Common.{refl, sym, subst, ◌∙◌, arith}
use Rattle.std.proofs.lemmas.List.Elements.{All-push, All-same}
use Rattle.tqd_instance.specs.Job.{suppliers}
use Rattle.bound_tree.specs.Prices.{IsPrice}
use Rattle.bound_tree.proofs.BoxPlaces.{count_few, places_to-zero, places_to-more, places_to-within}
use Rattle.box_bound.specs.NodeRow.{start_number}
use Rattle.box_bound.proofs.NumberRows.{next_none, next_one, read_price, start_number-is}
use Rattle.box_bound.proofs.row.push_suppliers.Goals as goal

pub loop-i-init : goal.loop-i-init
loop-i-init c = record {
  place = sym (places_to-zero c.args.area.now);
  few = omega arith;
  next = next_none c.args.numbers.now.items (start_number c.args.area.now c.args.start.now);
  in_range = c.requires.in_range;
}

pub start_number-requires-clause-place : goal.start_number-requires-clause-place
start_number-requires-clause-place c = λ some.
    omega (
      arith,
      c.loop-i.invariant.place,
      c.requires.fits.places,
      c.count_of-count.ensures,
      places_to-within c.args.area.now c.loop-i.i (suppliers c.args.job.now) (omega arith),
    )

pub overflow_add-at : goal.overflow_add-at
overflow_add-at c =
    omega (arith, c.loop-i.invariant.few, c.count_of-count.ensures, count_few c.args.job.now c.args.area.now c.requires.of_job c.loop-i.i (omega arith))

pub loop-i-preserved : goal.loop-i-preserved
loop-i-preserved c =
    let inv = c.loop-i.invariant in
    let i = c.loop-i.i in
    let area = c.args.area.now in
    let start = c.args.start.now in
    let pushed = c.in_ok-push.ensures.items in
    let number = start_number-is area start i c.count_of-count.result c.loop-i.at c.start_number.result c.count_of-count.ensures inv.place c.start_number.ensures.value in
    let price = c.start_number.ensures.in_range in
    let read = read_price c.start_number.result c.start_number.result refl price in
    record {
      place = omega (arith, inv.place, c.count_of-count.ensures, places_to-more area i);
      few = omega (arith, inv.few, c.count_of-count.ensures, count_few c.args.job.now area c.requires.of_job i (omega arith));
      next = next_one _ _ _ _ (start_number area start) _ inv.next pushed (read ∙ number);
      in_range = All-same IsPrice _ _ pushed (All-push IsPrice _ _ inv.in_range (subst IsPrice (sym read) price));
    }
