use Rattle.std.proofs.Common.{◌≡◌, sym, subst, ap, ◌∙◌}
use Rattle.std.proofs.lemmas.Result.{IfOk-weaker}
use Rattle.interval_box.specs.declared.boxes.IntervalBox.{IntervalBox}
use Rattle.bound_tree.specs.Prices.{Prices, Fits, row_of}
use Rattle.bound_tree.specs.Root.{root_of}
use Rattle.bound_tree.specs.OtherBox.{narrowed}
use Rattle.bound_tree.specs.Narrowed.{IsNarrowed}
use Rattle.bound_tree.proofs.Roots.{root_is_value}
use Rattle.requote.specs.Reading.{row_in_box, FitsAs}
use Rattle.requote.proofs.OneNarrowed.{part_of_root, narrowed_is_one}
use Rattle.requote.proofs.row.LeafRow.build.Goals as goal

pub row_of-requires-in-OfRoot : goal.row_of-requires-in-OfRoot
row_of-requires-in-OfRoot c =
    let job = c.args.job.now in
    let root = root_is_value job c.root-root.result c.root-root.ensures.whole in
    let fits = subst (FitsAs job c.args.area.now) c.in-OfRoot.is c.requires.fits in
    subst (λ (area : IntervalBox). Fits job area (row_of job c.in-OfRoot.prices.now)) (sym root) fits

pub narrowed-requires-clause-fits : goal.narrowed-requires-clause-fits
narrowed-requires-clause-fits c =
    let job = c.args.job.now in
    let root = root_is_value job c.root-root.result c.root-root.ensures.whole in
    let fits = subst (FitsAs job c.args.area.now) c.in-OfRoot.is c.requires.fits in
    subst (Fits job c.root-root.result) (sym c.in_ok-row_of-in-OfRoot.ensures)
    (subst (λ (area : IntervalBox). Fits job area (row_of job c.in-OfRoot.prices.now)) (sym root) fits)

pub narrowed-requires-clause-within : goal.narrowed-requires-clause-within
narrowed-requires-clause-within c = part_of_root c.args.job.now c.root-root.result c.args.area.now c.root-root.ensures.whole c.requires.of_job

pub returns-in_ok-row_of-in-OfRoot : goal.returns-in_ok-row_of-in-OfRoot
returns-in_ok-row_of-in-OfRoot c =
    let job = c.args.job.now in
    let area = c.args.area.now in
    let whole = c.in_ok-row_of-in-OfRoot.field-0 in
    let root = root_is_value job c.root-root.result c.root-root.ensures.whole in
    let built = c.in_ok-row_of-in-OfRoot.ensures in
    record {
      row = IfOk-weaker c.narrowed-in-OfRoot.result (IsNarrowed job c.root-root.result area whole) (λ (row : Prices). row ≡ row_in_box job area c.args.self)
          (λ (row : Prices) is. narrowed_is_one job c.root-root.result area whole row is
          ∙ (ap (λ (a : IntervalBox). narrowed job a area whole) root
          ∙ (ap (narrowed job (root_of job) area) built
          ∙ sym (ap (row_in_box job area) c.in-OfRoot.is)))) c.narrowed-in-OfRoot.ensures;
      fits = IfOk-weaker c.narrowed-in-OfRoot.result (IsNarrowed job c.root-root.result area whole) (Fits job area) (λ (row : Prices) is. is.fits) c.narrowed-in-OfRoot.ensures;
    }
