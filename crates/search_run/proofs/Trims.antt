-- Cuts, one after another.
use Rattle.std.proofs.Common.{ℕ, ◌≡◌, ◌<◌, Bool, not, List, [], ◌∷◌, ◌++◌, refl, sym, subst}
use Rattle.tqd_base.specs.declared.limits.TheConstants.{SUPPLIERS_MAX}
use Rattle.tqd_instance.specs.declared.job.Job.{Job}
use Rattle.interval_box.specs.declared.boxes.IntervalBox.{IntervalBox}
use Rattle.interval_box.specs.Ranges.{IsBoxOf}
use Rattle.interval_box.specs.Halves.{IsProper}
use Rattle.bound_tree.specs.declared.leaf.Leaf.{Leaf}
use Rattle.bound_tree.specs.Narrowed.{IsPartOf}
use Rattle.search_book.specs.Answers.{CanClose}
use Rattle.search_run.specs.declared.thought.Cut.{Cut}
use Rattle.search_run.specs.declared.trim.End.{End}
use Rattle.search_run.specs.declared.trim.Trim.{Trim}
use Rattle.search_run.specs.Thoughts.{half_of, rest_of, IsCut, AreCuts}
use Rattle.search_run.specs.Trims.{rest_after, IsTrimOf, IsEndOf}
use Rattle.search_run.proofs.Halves.{half_is_box, half_is_part, part_of_part}

-- one more cut of what is left
more_cuts : (job : Job) (area rest : IntervalBox) (cuts : List Cut) (cut : Cut) → AreCuts job area cuts → rest_after area cuts ≡ rest
    → IsCut job rest cut → AreCuts job area (cuts ++ (cut ∷ []))
more_cuts job area rest [] cut are same is = (subst (λ (a : IntervalBox). IsCut job a cut) (sym same) is, tt)
more_cuts job area rest (first ∷ cuts) cut are same is = (are.0, more_cuts job (rest_of area first) rest cuts cut are.1 same is)

rest_after_more : (area rest : IntervalBox) (cuts : List Cut) (cut : Cut) → rest_after area cuts ≡ rest → rest_after area (cuts ++ (cut ∷ [])) ≡ rest_of rest cut
rest_after_more area rest [] cut same = subst (λ (a : IntervalBox). rest_of a cut ≡ rest_of rest cut) (sym same) refl
rest_after_more area rest (first ∷ cuts) cut same = rest_after_more (rest_of area first) rest cuts cut same

-- an end as a cut
abbrev cut_of : End → Leaf → Cut
cut_of end leaf = record { supplier = end.supplier; at = end.at; low = end.low; leaf = leaf }

pub cut_trim : (job : Job) (area : IntervalBox) (trim new : Trim) (end : End) (leaf : Leaf) → IsTrimOf job area trim → IsEndOf job area trim.rest end
    → CanClose job end.dead leaf → new.cuts.items ≡ trim.cuts.items ++ (record { supplier = end.supplier; at = end.at; low = end.low; leaf = leaf } ∷ [])
    → new.rest ≡ half_of trim.rest end.supplier end.at (not end.low) → IsTrimOf job area new
cut_trim job area trim new end leaf is at can items rest =
    let cut = cut_of end leaf in
    let is_cut : IsCut job trim.rest cut = record { proper = at.proper; leaf = subst (λ (a : IntervalBox). CanClose job a leaf) at.dead_is can } in
    record {
      cuts = subst (AreCuts job area) (sym items) (more_cuts job area trim.rest trim.cuts.items cut is.cuts is.rest_is is_cut);
      rest_is =
          subst (λ (a : IntervalBox). rest_after area new.cuts.items ≡ a) (sym rest)
          (subst (λ (cuts : List Cut). rest_after area cuts ≡ half_of trim.rest end.supplier end.at (not end.low)) (sym items)
          (rest_after_more area trim.rest trim.cuts.items cut is.rest_is));
      of_job = subst (IsBoxOf job) (sym rest) (half_is_box job trim.rest end.supplier end.at (not end.low) is.of_job at.proper);
      part =
          subst (λ (a : IntervalBox). IsPartOf job a area) (sym rest)
          (part_of_part job (half_of trim.rest end.supplier end.at (not end.low)) trim.rest area
          (half_is_part job trim.rest end.supplier end.at (not end.low) is.of_job at.proper) is.part);
    }

-- an end of what is left
pub is_end : (job : Job) (area : IntervalBox) (trim : Trim) (supplier at : ℕ) (low : Bool) (dead : IntervalBox) → IsTrimOf job area trim
    → supplier < SUPPLIERS_MAX → IsProper trim.rest supplier at → dead ≡ half_of trim.rest supplier at low
    → IsEndOf job area trim.rest (record { supplier = supplier; at = at; low = low; dead = dead })
is_end job area trim supplier at low dead is few proper same = record {
  supplier = few;
  proper = proper;
  dead_is = same;
  of_job = subst (IsBoxOf job) (sym same) (half_is_box job trim.rest supplier at low is.of_job proper);
  part =
      subst (λ (a : IntervalBox). IsPartOf job a area) (sym same)
      (part_of_part job (half_of trim.rest supplier at low) trim.rest area (half_is_part job trim.rest supplier at low is.of_job proper) is.part);
}
