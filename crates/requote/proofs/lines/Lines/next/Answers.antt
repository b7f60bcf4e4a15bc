use Rattle.std.proofs.Common.{◌≡◌, [], Option, refl, sym, subst, ◌∙◌}
use Rattle.tqd_base.specs.World.{Bytes}
use Rattle.requote.specs.Reading.{TakesLine}
use Rattle.requote.proofs.LineCuts.{no_line, first_line}
use Rattle.requote.proofs.lines.Lines.next.Goals as goal
use denote.Ref.{Bor}

pub returns-in_err-at : goal.returns-in_err-at
returns-in_err-at c =
    let none : c.args.self.now ≡ [] = sym c.self.view_is ∙ no_line c.self.inside.left.now (sym c.line_end.ensures.value ∙ c.in_err-at.was) in
    subst (λ (line : Option (Bor Bytes)). TakesLine c.args.self.now c.args.self.now line) (sym c.from_residual.ensures) (none, none)

pub returns : goal.returns
returns c = sym c.self.view_is ∙ first_line c.self.inside.left.now c.in_ok-at.at _ _ (sym c.line_end.ensures.value ∙ c.in_ok-at.was) refl refl
