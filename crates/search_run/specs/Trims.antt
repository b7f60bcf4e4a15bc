-- Ends of suppliers' ranges that are split off a box.
use Rattle.std.specs.Prelude.{◌≡◌, ◌<◌, List, [], ◌∷◌}
use Rattle.tqd_base.specs.declared.limits.TheConstants.{SUPPLIERS_MAX}
use Rattle.tqd_instance.specs.declared.job.Job.{Job}
use Rattle.interval_box.specs.declared.boxes.IntervalBox.{IntervalBox}
use Rattle.interval_box.specs.Ranges.{IsBoxOf}
use Rattle.interval_box.specs.Halves.{IsProper}
use Rattle.bound_tree.specs.Narrowed.{IsPartOf}
use Rattle.search_run.specs.declared.thought.Cut.{Cut}
use Rattle.search_run.specs.declared.thought.Act.{Act}
use Rattle.search_run.specs.declared.thought.Act.TheVariants.{Stay, Kill, Reach, Solve, Trim as Trims, Split}
use Rattle.search_run.specs.declared.trim.Trim.{Trim}
use Rattle.search_run.specs.declared.trim.End.{End}
use Rattle.search_run.specs.Thoughts.{half_of, rest_of, AreCuts}

-- what cuts leave of a box
abbrev pub rest_after : IntervalBox → List Cut → IntervalBox
rest_after area [] = area
rest_after area (cut ∷ cuts) = rest_after (rest_of area cut) cuts

-- cuts of a box of a job, and what they leave of it
pub record IsTrimOf (job : Job) (area : IntervalBox) (trim : Trim) : Type 0 where
  pub cuts : AreCuts job area trim.cuts.items
  pub rest_is : rest_after area trim.cuts.items ≡ trim.rest
  pub of_job : IsBoxOf job trim.rest
  pub part : IsPartOf job trim.rest area

-- an end of a range of what is left of a box, which may be split off
pub record IsEndOf (job : Job) (area rest : IntervalBox) (end : End) : Type 0 where
  pub supplier : end.supplier < SUPPLIERS_MAX
  pub proper : IsProper rest end.supplier end.at
  pub dead_is : end.dead ≡ half_of rest end.supplier end.at end.low
  pub of_job : IsBoxOf job end.dead
  pub part : IsPartOf job end.dead area

-- a box stays as it is, or it is cut
abbrev pub IsTrimming : Job → IntervalBox → Act → Type 0
IsTrimming job area Stay = Unit {0}
IsTrimming job area (Kill leaf) = ⊥
IsTrimming job area (Reach row) = ⊥
IsTrimming job area (Solve row) = ⊥
IsTrimming job area (Trims cuts) = AreCuts job area cuts.items
IsTrimming job area (Split bound branch) = ⊥
