use Rattle.std.proofs.Common.{subst, refl}
use Rattle.price_climb.specs.Climbing.{IsNoRaise}
use Rattle.price_climb.proofs.Steps.{step_up, step_down, raises_up, raises_down, no_raise}
use Rattle.price_climb.proofs.table.ClimbTable.raise_at.Goals as goal

pub returns-then-is_raised : goal.returns-then-is_raised
returns-then-is_raised c =
    raises_up c.args.self.now c.args.step _ c.args.place c.requires.step c.requires.place (step_up c.args.step c.requires.step) (c.if-is_raised.ensures.0 refl)

pub returns-then-is_raised-2 : goal.returns-then-is_raised-2
returns-then-is_raised-2 c =
    raises_down c.args.self.now c.args.step _ c.args.place c.requires.step c.requires.place (step_down c.args.step c.requires.step) (c.if-is_raised-2.ensures.0 refl)

pub returns : goal.returns
returns c = record {
  up = subst (IsNoRaise c.args.self.now.job c.args.self.now.area c.args.self.now.row c.args.place) (step_up c.args.step c.requires.step)
      (no_raise c.args.self.now c.args.place _ (λ raise. (let x = c.if-is_raised.ensures.1 raise in absurd (cc))));
  down = subst (IsNoRaise c.args.self.now.job c.args.self.now.area c.args.self.now.row c.args.place) (step_down c.args.step c.requires.step)
      (no_raise c.args.self.now c.args.place _ (λ raise. (let x = c.if-is_raised-2.ensures.1 raise in absurd (cc))));
}
