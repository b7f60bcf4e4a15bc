use Rattle.std.proofs.Common.{arith, get_or, ◌+◌}
use Rattle.std.proofs.lemmas.Nat.{mul-le}
use Rattle.lagrangian.specs.declared.weights.TheConstants.{WHOLE}
use Rattle.tqd_instance.proofs.SumLemmas.{sum_to-more}
use Rattle.lagrangian.specs.Columns.{units_at}
use Rattle.lagrangian.proofs.Weighing.{weighed_more, weighed_within}
use Rattle.lagrangian.proofs.columns.Columns.weighted.Goals as goal

pub overflow_add-sum : goal.overflow_add-sum
overflow_add-sum c =
    let i = c.loop-at.invariant in
    let e = c.units_at-sum.ensures in
    let m = c.args.self.now in
    let more = weighed_more (get_or m.caps c.args.k 0) m.weights c.loop-at.at c.loop-at.sum c.units_at-sum.result (omega (arith, e.bounded.count)) i.part e.within in
    let within = weighed_within (get_or m.caps c.args.k 0) m.weights (c.loop-at.at + 1) (c.loop-at.sum + c.units_at-sum.result) WHOLE more e.bounded.within in
    let le = mul-le (get_or m.caps c.args.k 0) WHOLE 100000000 WHOLE e.small (omega arith) in
    omega arith

pub loop-at-preserved : goal.loop-at-preserved
loop-at-preserved c =
    let i = c.loop-at.invariant in
    let e = c.units_at-sum.ensures in
    let m = c.args.self.now in
    let more = weighed_more (get_or m.caps c.args.k 0) m.weights c.loop-at.at c.loop-at.sum c.units_at-sum.result (omega (arith, e.bounded.count)) i.part e.within in
    let within = weighed_within (get_or m.caps c.args.k 0) m.weights (c.loop-at.at + 1) (c.loop-at.sum + c.units_at-sum.result) WHOLE more e.bounded.within in
    let le = mul-le (get_or m.caps c.args.k 0) WHOLE 100000000 WHOLE e.small (omega arith) in
    record {
      value = omega (arith, sum_to-more c.loop-at.at (units_at m c.args.k), e.value);
      part = more;
      within = within;
      small = omega arith;
    }
