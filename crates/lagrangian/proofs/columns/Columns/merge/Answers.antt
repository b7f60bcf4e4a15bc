use Rattle.std.proofs.Common.{◌∙◌, ap, sum, subst, sym}
use Rattle.std.proofs.lemmas.List.{length-set}
use Rattle.std.proofs.lemmas.List.Elements.{All-set}
use Rattle.lagrangian.specs.declared.column.Column.{Column}
use Rattle.lagrangian.specs.Columns.{Mixture, IsSegmentIn, AreSegmentsIn}
use Rattle.lagrangian.proofs.columns.Columns.merge.Goals as goal

pub returns : goal.returns
returns c =
    let kept = c.mix.ensures.kept in
    let is = c.self-2.view_is in
    record {
      caps = ap (λ (m : Mixture). m.caps) is ∙ kept.caps;
      places = λ h. record {
        columns = length-set c.self-2.inside.list.items c.args.a c.label.new.self ∙ c.self-2.invariant.count;
        weights = c.shift.ensures.count;
      };
      total = c.shift.ensures.total ∙ ap (λ (m : Mixture). sum m.weights) is ∙ kept.total;
      inside = λ low high h.
          let all = subst (AreSegmentsIn low high) (sym is) (kept.inside low high h) in
          All-set (λ (c : Column). IsSegmentIn low high c.segment) c.self-2.inside.list.items c.args.a c.label.new.self
          (subst (IsSegmentIn low high) (sym c.label.ensures.segment) (c.heavier_segment-segment.ensures low high h)) all;
    }
