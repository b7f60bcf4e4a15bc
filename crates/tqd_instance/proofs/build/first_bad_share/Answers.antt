use Rattle.std.proofs.Common.{arith, below_more, sym, ◌∙◌}
use Rattle.std.proofs.lemmas.Bool.{false≢true}
use Rattle.tqd_instance.specs.Built.{HasBadShare}
use Rattle.tqd_instance.proofs.JobBuilds.{good_shares_from}
use Rattle.tqd_instance.proofs.build.first_bad_share.Goals as goal

pub loop-i-preserved : goal.loop-i-preserved
loop-i-preserved c =
    below_more (λ i. HasBadShare c.args.parts.now i → ⊥) c.loop-i.i c.loop-i.invariant
    (λ bad. false≢true (sym c.if-has_bad_share.false ∙ c.has_bad_share.ensures.1 bad))

pub returns : goal.returns
returns c =
    good_shares_from c.args.parts.now c.requires (λ i below. c.loop-i.invariant i (omega (arith, c.suppliers-i-end.ensures)))
