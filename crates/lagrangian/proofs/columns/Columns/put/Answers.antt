use Rattle.std.proofs.Common.{subst, sym}
use Rattle.std.proofs.lemmas.List.Elements.{All-set}
use Rattle.lagrangian.specs.declared.column.Column.{Column}
use Rattle.lagrangian.specs.Columns.{IsSegmentIn, AreSegmentsIn}
use Rattle.lagrangian.proofs.columns.Columns.put.Goals as goal

pub returns-clause-inside : goal.returns-clause-inside
returns-clause-inside c = λ low high h s.
    let all = subst (AreSegmentsIn low high) (sym c.self.view_is) (c.room-at.ensures.kept.inside low high h) in
    All-set (λ (c : Column). IsSegmentIn low high c.segment) c.self.inside.list.items c.room-at.result c.put.new.self
    (subst (IsSegmentIn low high) (sym c.put.ensures.segment) s) all
