use Rattle.std.proofs.Common.{arith, sym, ◌∙◌, length-set}
use Rattle.money.specs.Number.{count_of}
use Rattle.bound_tree.proofs.Numbers.{counts_more, counts_all, counts_over}
use Rattle.bound_tree.proofs.fields.Fields.counts.Goals as goal

pub loop-place-preserved : goal.loop-place-preserved
loop-place-preserved g c = record {
  full = length-set _ _ _ ∙ c.loop-place.invariant.full;
  read = counts_more count_of c.args.self c.loop-place.fields c.next.new.self c.in_ok-next.field-0.now c.loop-place.place-index c.loop-place.place-items c.in_ok-place.field-0
      (omega (arith, c.loop-place-test.true)) c.loop-place.invariant.read c.in_ok-next.ensures (sym c.in_ok-place.ensures.value);
}

pub returns-in-None : goal.returns-in-None
returns-in-None g c = counts_all count_of c.args.self c.loop-place.fields c.loop-place.place-index g.row.N c.loop-place.place-items c.loop-place.invariant.full
    (omega (arith, c.loop-place-test.false, c.loop-place.invariant.full)) c.loop-place.invariant.read c.in-None.ensures.0

pub returns-in-Some : goal.returns-in-Some
returns-in-Some g c = counts_over count_of c.args.self c.loop-place.fields c.next-2.new.self c.in-Some.field-0.now c.loop-place.place-index g.row.N c.loop-place.place-items c.loop-place.invariant.full
    (omega (arith, c.loop-place-test.false, c.loop-place.invariant.full)) c.loop-place.invariant.read c.in-Some.ensures
