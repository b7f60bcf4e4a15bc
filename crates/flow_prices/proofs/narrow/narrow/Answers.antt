use Rattle.std.proofs.Common.{length, arith}
use Rattle.std.proofs.lemmas.Nat.{mul-le}
use Rattle.flow_prices.proofs.Narrowing.{IsPart-next, AreNarrowed-all}
use Rattle.flow_prices.proofs.narrow.narrow.Goals as goal

pub loop-v-preserved : goal.loop-v-preserved
loop-v-preserved c =
    let i = c.loop-v.invariant in
    let l = rw (c.deref.ensures.value) at c.in-Some.ensures in
    let m = mul-le (length c.args.numbers.now) c.args.gap 1065 1000000000000 c.requires.few c.requires.gap in
    IsPart-next c.args.numbers.now c.args.gap c.loop-v.narrowed.items c.loop-v.last c.loop-v.top c.in-Some.v _ i l
    (c.requires.small c.in-Some.v l.inside) (omega arith) (omega (arith, i.bound, c.requires.gap))

pub returns : goal.returns
returns c =
    let l = rw (c.deref.ensures.value) at c.in_default.ensures in
    AreNarrowed-all c.args.numbers.now c.args.gap c.loop-v.narrowed.items c.loop-v.last c.loop-v.top c.loop-v.invariant l c.requires.small
