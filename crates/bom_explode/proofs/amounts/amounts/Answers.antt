use Rattle.std.proofs.Common.{◌≡◌, ◌+◌, ◌-◌, get_or, refl, arith}
use Rattle.bom_explode.specs.Structure.{structure_of}
use Rattle.bom_explode.proofs.Amounting.{AreAmountsFrom-more, AreCapped-from, known_amounts}
use Rattle.bom_explode.proofs.amounts.amounts.Goals as goal

pub amount-requires-clause-known : goal.amount-requires-clause-known
amount-requires-clause-known c =
    let s = structure_of c.args.bill.now in
    let next : c.loop-i.i - 1 + 1 ≡ c.loop-i.i = omega arith in
    rw (c.deref.ensures.value) (known_amounts s c.args.order.now (c.loop-i.i - 1) c.loop-i.amounts.items c.loop-i.invariant.kept c.requires.order c.requires.no_circle
    (omega arith) (rw next c.loop-i.invariant.made))

pub loop-i-preserved : goal.loop-i-preserved
loop-i-preserved c =
    let s = structure_of c.args.bill.now in
    let next : c.loop-i.i - 1 + 1 ≡ c.loop-i.i = omega arith in
    record {
      kept = c.loop-i.invariant.kept;
      made = AreAmountsFrom-more s c.args.order.now (c.loop-i.i - 1) (get_or c.args.order.now (c.loop-i.i - 1) 0) c.amount.result c.loop-i.amounts.items
          c.loop-i.invariant.kept c.requires.no_circle refl (c.requires.order.inside (c.loop-i.i - 1) (omega arith)) c.amount.ensures (rw next c.loop-i.invariant.made);
    }

pub returns : goal.returns
returns c =
    let none : c.loop-i.i ≡ 0 = omega arith in
    AreCapped-from (structure_of c.args.bill.now) c.args.order.now c.loop-i.amounts.items c.requires.order (rw none at c.loop-i.invariant.made)
