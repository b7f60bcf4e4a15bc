use Rattle.std.proofs.Common.{◌≡◌, pos, [], arith}
use Rattle.std.proofs.lemmas.Int.{ints}
use Rattle.tqd_instance.specs.Job.{suppliers}
use Rattle.bound_tree.proofs.SignedSums.{signed_sum_to-more}
use Rattle.price_climb.proofs.Bounds.{goods_within}
use Rattle.price_climb.proofs.Untouched.{supplier_in, supplier_within, least_at, value-is}
use Rattle.price_climb.proofs.table.value_of.Goals as goal

pub loop-i-init : goal.loop-i-init
loop-i-init c =
    let g = goods_within c.args.job.now c.args.row.now.goods c.requires.fitting.fits.good_prices in
    let l = g.not_less in
    let m = g.not_more in
    record {
      is_sum = omega (arith, ints, c.requires.goods);
      not_less = omega (arith, ints, c.requires.goods);
      not_more = omega (arith, ints, c.requires.goods);
    }

pub overflow_add-sum : goal.overflow_add-sum
overflow_add-sum c =
    let w = supplier_within c.args.job.now c.args.area.now c.args.row.now c.loop-i.i c.requires.fitting (omega arith) in
    let l = w.not_less in
    let m = w.not_more in
    let here = least_at c.args.job.now c.args.area.now c.args.row.now (suppliers c.args.job.now) c.loop-i.i c.args.columns.now (record { values = []; least = pos 0 }) c.requires.each (omega arith) in
    omega (arith, ints)

pub loop-i-preserved : goal.loop-i-preserved
loop-i-preserved c =
    let inv = c.loop-i.invariant in
    let w = supplier_within c.args.job.now c.args.area.now c.args.row.now c.loop-i.i c.requires.fitting (omega arith) in
    let l = w.not_less in
    let m = w.not_more in
    let here = least_at c.args.job.now c.args.area.now c.args.row.now (suppliers c.args.job.now) c.loop-i.i c.args.columns.now (record { values = []; least = pos 0 }) c.requires.each (omega arith) in
    let more = signed_sum_to-more c.loop-i.i (supplier_in c.args.job.now c.args.area.now c.args.row.now) in
    record { is_sum = omega (arith, ints); not_less = omega (arith, ints); not_more = omega (arith, ints) }

pub returns-clause-value : goal.returns-clause-value
returns-clause-value c =
    let all : c.loop-i.i ≡ suppliers c.args.job.now = omega arith in
    let is = value-is c.args.job.now c.args.area.now c.args.row.now in
    omega (arith, ints, rw (← all) at is)
