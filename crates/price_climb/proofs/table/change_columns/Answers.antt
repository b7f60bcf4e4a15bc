use Rattle.std.proofs.Common.{◌≤◌, sym, refl, arith}
use Rattle.bound_tree.proofs.BoxPlaces.{count_few, places_to-zero, places_to-more}
use Rattle.price_climb.proofs.Untouched.{changed_none, changed_more}
use Rattle.price_climb.proofs.table.change_columns.Goals as goal

pub loop-i-init : goal.loop-i-init
loop-i-init c = record {
  from = sym (places_to-zero c.args.area.now);
  few = omega arith;
  columns = changed_none c.args.job.now c.args.area.now c.args.row.now _ c.args.columns.now c.requires.columns;
}

few : (c : goal.After-count_of-from) → c.count_of-from.result ≤ 16
few c = omega (arith, c.count_of-from.ensures, count_few c.args.job.now c.args.area.now c.requires.fitting.of_job c.loop-i.i (omega arith))

pub overflow_add-from : goal.overflow_add-from
overflow_add-from c = omega (arith, few c, c.loop-i.invariant.few)

pub loop-i-preserved : goal.loop-i-preserved
loop-i-preserved c = record {
  from = omega (arith, places_to-more c.args.area.now c.loop-i.i);
  few = omega (arith, few c, c.loop-i.invariant.few);
  columns = changed_more c.args.job.now c.args.area.now c.args.row.now _ c.loop-i.i c.loop-i.columns _ c.after.result (omega arith) c.loop-i.invariant.columns c.after.ensures refl;
}
