use Rattle.std.proofs.Common.{◌≤◌, sym, arith}
use Rattle.bound_tree.proofs.BoxPlaces.{count_few, places_to-zero, places_to-more}
use Rattle.price_climb.proofs.Untouched.{columns_none, columns_push}
use Rattle.price_climb.proofs.table.columns_of.Goals as goal

pub loop-i-init : goal.loop-i-init
loop-i-init c = record {
  from = sym (places_to-zero c.args.area.now);
  few = omega arith;
  columns = columns_none c.args.job.now c.args.area.now c.args.row.now c.in_ok-columns.columns.items c.in_ok-columns.ensures.items;
}

few : (c : goal.After-count_of-from) → c.count_of-from.result ≤ 16
few c = omega (arith, c.count_of-from.ensures, count_few c.args.job.now c.args.area.now c.requires.of_job c.loop-i.i (omega arith))

pub overflow_add-from : goal.overflow_add-from
overflow_add-from c = omega (arith, few c, c.loop-i.invariant.few)

pub loop-i-preserved : goal.loop-i-preserved
loop-i-preserved c = record {
  from = omega (arith, places_to-more c.args.area.now c.loop-i.i);
  few = omega (arith, few c, c.loop-i.invariant.few);
  columns = columns_push c.args.job.now c.args.area.now c.args.row.now c.loop-i.i c.loop-i.columns.items c.push.new.self.items c.of.result c.loop-i.invariant.columns c.of.ensures c.in_ok-push.ensures.items;
}
