use Rattle.std.proofs.Common.{◌≡◌, subst, sym, arith, rules}
use Rattle.std.proofs.lemmas.Int.{to_z-of_z}
use mir.Syntax.{w128}
use mir.Val.{SFits, to_z, of_z}
use Rattle.lagrangian.specs.declared.climb.Climber.{Climber}
use Rattle.lagrangian.specs.Bundle.{AreWholeIn}
use Rattle.lagrangian.proofs.Rises.{NoRowIsAbove-more}
use Rattle.lagrangian.proofs.WeightSums.{mixed_whole}
use Rattle.lagrangian.proofs.climb.Climber.rise.Goals as goal
use Rattle.lagrangian.proofs.climb.Climber.rise.Goals.{else-loop-test, then-loop-test+in-Some+then-flat-ge-FLAT_MAX}

pub loop-preserved : goal.loop-preserved
loop-preserved c =
    let job = c.args.job.now in
    let area = c.args.area.now in
    let v = c.in-Some.value in
    let f : SFits w128 v = search rules in
    let e : to_z w128 (of_z w128 v) ≡ v = to_z-of_z w128 v f in
    let made = c.round.ensures.made in
    let risen = c.in-Some.ensures.risen in
    rw e (record {
      made = record { prices = made.prices; tried = made.tried; bundle = made.bundle };
      pricing_made = c.round.ensures.pricing_made;
      whole = c.in-Some.ensures.whole (search rules);
      at_best = risen.at_best;
      not_lower = NoRowIsAbove-more job area c.args.self.now.goods.items _ v c.loop.invariant.not_lower risen.not_lower;
      below = risen.below;
      flat = omega (arith, c.flat_after-flat.ensures, c.if-flat-ge-FLAT_MAX.false);
    })

pub returns-clause-mixed : goal.returns-clause-mixed
returns-clause-mixed c = λ stopped.
    let job = c.args.job.now in
    let area = c.args.area.now in
    let P : Climber → Type 0 = λ x. AreWholeIn job area x.bundle in
    let whole : P c.loop-test.self = elim c.loop-test.branch [
      | else-loop-test w ↦ subst P (sym w.self-is) c.loop.invariant.whole
      | then-loop-test+in-Some+then-flat-ge-FLAT_MAX w ↦ subst P (sym w.self-is) (w.in-Some.ensures.whole (search rules))
    ] in
    mixed_whole job area c.loop-test.self.bundle c.requires.of_job whole
