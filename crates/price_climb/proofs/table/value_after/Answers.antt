use Rattle.std.proofs.Common.{◌≡◌, ◌≤◌, sym, arith}
use Rattle.std.proofs.lemmas.Int.{ints}
use Rattle.tqd_instance.specs.Job.{suppliers}
use Rattle.bound_tree.proofs.BoxPlaces.{count_few, places_to-zero, places_to-more}
use Rattle.bound_tree.proofs.SignedSums.{signed_sum_to-more}
use Rattle.price_climb.specs.PriceList.{with_price}
use Rattle.price_climb.proofs.Bounds.{goods_within}
use Rattle.price_climb.proofs.Untouched.{supplier_in, supplier_within, least_is, fitting_after, value-is}
use Rattle.price_climb.proofs.table.value_after.Goals as goal

pub loop-i-init : goal.loop-i-init
loop-i-init c =
    let fits = fitting_after c.args.job.now c.args.area.now c.args.row.now c.args.change.place c.args.change.price c.requires.table.fitting c.requires.price in
    let g = goods_within c.args.job.now (with_price c.args.job.now c.args.row.now c.args.change.place c.args.change.price).goods fits.fits.good_prices in
    let l = g.not_less in
    let m = g.not_more in
    record {
      from = sym (places_to-zero c.args.area.now);
      few = omega arith;
      is_sum = omega (arith, ints, c.goods_after-sum.ensures);
      not_less = omega (arith, ints, c.goods_after-sum.ensures);
      not_more = omega (arith, ints, c.goods_after-sum.ensures);
    }

pub overflow_add-sum : goal.overflow_add-sum
overflow_add-sum c =
    let next = with_price c.args.job.now c.args.row.now c.args.change.place c.args.change.price in
    let fits = fitting_after c.args.job.now c.args.area.now c.args.row.now c.args.change.place c.args.change.price c.requires.table.fitting c.requires.price in
    let w = supplier_within c.args.job.now c.args.area.now next c.loop-i.i fits (omega arith) in
    let l = w.not_less in
    let m = w.not_more in
    let here = least_is c.args.job.now c.args.area.now next c.loop-i.i c.after-sum.result c.after-sum.ensures in
    omega (arith, ints)

few : (c : goal.After-count_of-from) → c.count_of-from.result ≤ 16
few c = omega (arith, c.count_of-from.ensures, count_few c.args.job.now c.args.area.now c.requires.table.fitting.of_job c.loop-i.i (omega arith))

pub overflow_add-from : goal.overflow_add-from
overflow_add-from c = omega (arith, few c, c.loop-i.invariant.few)

pub loop-i-preserved : goal.loop-i-preserved
loop-i-preserved c =
    let inv = c.loop-i.invariant in
    let next = with_price c.args.job.now c.args.row.now c.args.change.place c.args.change.price in
    let fits = fitting_after c.args.job.now c.args.area.now c.args.row.now c.args.change.place c.args.change.price c.requires.table.fitting c.requires.price in
    let w = supplier_within c.args.job.now c.args.area.now next c.loop-i.i fits (omega arith) in
    let l = w.not_less in
    let m = w.not_more in
    let here = least_is c.args.job.now c.args.area.now next c.loop-i.i c.after-sum.result c.after-sum.ensures in
    let more = signed_sum_to-more c.loop-i.i (supplier_in c.args.job.now c.args.area.now next) in
    record {
      from = omega (arith, places_to-more c.args.area.now c.loop-i.i);
      few = omega (arith, few c, inv.few);
      is_sum = omega (arith, ints);
      not_less = omega (arith, ints);
      not_more = omega (arith, ints);
    }

pub returns : goal.returns
returns c =
    let all : c.loop-i.i ≡ suppliers c.args.job.now = omega arith in
    let is = value-is c.args.job.now c.args.area.now (with_price c.args.job.now c.args.row.now c.args.change.place c.args.change.price) in
    omega (arith, ints, rw (← all) at is)
