use Rattle.std.proofs.Common.{arith, refl}
use Rattle.std.proofs.lemmas.Bool.{false≢true}
use Rattle.tqd_instance.proofs.Froms.{few_more, few_all}
use Rattle.tqd_instance.proofs.formed.has_few_intervals.Goals as goal

pub returns-then-len-gt-INTERVALS_MAX : goal.returns-then-len-gt-INTERVALS_MAX
returns-then-len-gt-INTERVALS_MAX c =
    ((λ yes. absurd (false≢true yes)), (λ few. absurd (let short = few c.loop-i.i c.in_ok-froms.froms.items c.in_ok-froms.ensures in grind arith)))

pub loop-i-preserved : goal.loop-i-preserved
loop-i-preserved c =
    few_more c.args.parts.now c.loop-i.i c.in_ok-froms.froms.items c.loop-i.invariant c.in_ok-froms.ensures (grind arith)

pub returns : goal.returns
returns c =
    ((λ _. few_all c.args.parts.now c.requires (λ i froms below. c.loop-i.invariant i froms (omega (arith, c.suppliers-i-end.ensures)))), (λ _. refl))
