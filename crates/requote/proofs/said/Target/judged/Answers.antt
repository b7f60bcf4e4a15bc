use Rattle.std.proofs.Common.{◌≡◌, true, sym, ap, subst, ◌∙◌}
use Rattle.bound_tree.specs.Kills.{Kills}
use Rattle.requote.specs.Reading.{row_kills}
use Rattle.requote.proofs.SaidLines.{kills_with}
use Rattle.requote.proofs.said.Target.judged.Goals as goal

pub returns-clause-can_do : goal.returns-clause-can_do
returns-clause-can_do c =
    let self = c.args.self.now in
    let row = c.in_ok-build.field-0 in
    let killed : c.is_killed_by.result ≡ true = c.if-not-is_killed_by.false in
    subst (Kills self.job.now self.area self.best) (sym c.with.ensures)
    (kills_with self c.args.leaf row c.in_ok-build.ensures.fits
    (ap (row_kills self c.args.leaf) c.in_ok-build.ensures.row ∙ (sym c.is_killed_by.ensures ∙ killed)))
