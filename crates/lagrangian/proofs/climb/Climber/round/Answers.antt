use Rattle.std.proofs.Common.{◌≡◌, ℤ, List, subst, sym, arith, rules}
use Rattle.std.proofs.lemmas.Bool.{false≢true}
use Rattle.std.proofs.lemmas.Int.{ints, to_z-of_z}
use mir.Syntax.{w128}
use mir.Val.{SFits, to_z, of_z}
use Rattle.lagrangian.specs.Rounds.{IsBestValue}
use Rattle.lagrangian.proofs.Rises.{IsBestValue-priced}
use Rattle.lagrangian.proofs.climb.Climber.round.Goals as goal

pub add-requires-clause-inside : goal.add-requires-clause-inside
add-requires-clause-inside c = λ i below. (c.aim.ensures.whole c.args.job.now c.args.area.now c.requires.made c.requires.whole i below).inside

pub returns-then-value-best-clause-risen : goal.returns-then-value-best-clause-risen
returns-then-value-best-clause-risen c =
    let e : to_z w128 (of_z w128 c.args.best) ≡ c.args.best = to_z-of_z w128 c.args.best c.ranges.best in
    rw e (record { at_best = rw c.aim.ensures.goods c.requires.at_best; not_lower = omega (arith, ints); below = c.requires.below })

pub returns-clause-made : goal.returns-clause-made
returns-clause-made c =
    let made = c.aim.ensures.made c.args.job.now c.requires.made in
    record {
      prices = rw c.swap-2.ensures.x_after made.tried;
      tried = rw c.swap-2.ensures.y_after made.prices;
      bundle = c.add.ensures.made;
    }

pub returns-clause-risen : goal.returns-clause-risen
returns-clause-risen c =
    let job = c.args.job.now in
    let area = c.args.area.now in
    let v = c.value-value.result in
    let f : SFits w128 v = search rules in
    let e : to_z w128 (of_z w128 v) ≡ v = to_z-of_z w128 v f in
    let priced = IsBestValue-priced job area c.deref.result.now c.price.new.self c.price.ensures in
    let at : IsBestValue job area c.aim.new.self.tried.items v =
    subst (IsBestValue job area c.aim.new.self.tried.items) (sym c.value-value.ensures.value)
    (subst (λ (g : List ℤ). IsBestValue job area g c.price.new.self.value) c.deref.ensures.value priced) in
    rw e (record {
      at_best = rw c.swap-2.ensures.x_after at;
      not_lower = omega (arith, ints, c.if-value-best.false);
      below = λ r. false≢true (c.if-reaches.ensures.1 (rw e r));
    })
