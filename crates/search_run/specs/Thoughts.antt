-- What a worker finds out about a box without a look at the book.
use Rattle.std.specs.Prelude.{ℕ, ℤ, ◌<◌, pos, ◌≤ℤ◌, Option, None, IfSome, IsSomeAnd, Bool, true, false, not, List, [], ◌∷◌}
use Rattle.tqd_instance.specs.declared.job.Job.{Job}
use Rattle.tqd_instance.specs.declared.plan.Plan.{Plan}
use Rattle.tqd_instance.specs.Plan.{units, IsSizedFor}
use Rattle.tqd_instance.specs.Standing.{Costs}
use Rattle.interval_box.specs.declared.boxes.IntervalBox.{IntervalBox}
use Rattle.interval_box.specs.Ranges.{IsSingle}
use Rattle.interval_box.specs.Halves.{IsProper, low_half, high_half}
use Rattle.bound_tree.specs.Prices.{Prices, Fits}
use Rattle.bound_tree.specs.Value.{value}
use Rattle.bound_tree.specs.Kills.{Kills}
use Rattle.box_bound.specs.Bounded.{IsFlow}
use Rattle.search_book.specs.Answers.{CanClose}
use Rattle.search_run.specs.declared.thought.Offer.{Offer}
use Rattle.search_run.specs.declared.thought.Cut.{Cut}
use Rattle.search_run.specs.declared.thought.Act.{Act}
use Rattle.search_run.specs.declared.thought.Act.TheVariants.{Stay, Kill, Reach, Solve, Trim, Split}
use Rattle.search_run.specs.declared.thought.Stage.{Stage}
use Rattle.search_run.specs.declared.thought.Thought.{Thought}
use Rattle.search_run.specs.Stages.{rank}

-- the low or the high half of a box
abbrev pub half_of : IntervalBox → ℕ → ℕ → Bool → IntervalBox
half_of area i at true = low_half area i at
half_of area i at false = high_half area i at

-- a plan is known whose cost a value reaches
abbrev pub Reaches : Option ℕ → ℤ → Type 0
Reaches best bound = IsSomeAnd best (λ cost. pos cost ≤ℤ bound)

-- the flow of a bound of a box, whatever its relaxed cost
abbrev pub IsFlowOf : Job → IntervalBox → Plan → Prices → Type 0
IsFlowOf job area plan row = (relaxed : ℕ) × IsFlow job area plan relaxed row

-- a feasible plan with its cost
pub record IsOffer (job : Job) (offer : Offer) : Type 0 where
  pub sized : IsSizedFor job offer.plan
  pub costs : Costs job (units offer.plan) offer.cost

-- an end of a supplier's range that may be split off a box, with a leaf that may close it
pub record IsCut (job : Job) (area : IntervalBox) (cut : Cut) : Type 0 where
  pub proper : IsProper area cut.supplier cut.at
  pub leaf : CanClose job (half_of area cut.supplier cut.at cut.low) cut.leaf

-- what a cut leaves of a box
abbrev pub rest_of : IntervalBox → Cut → IntervalBox
rest_of area cut = half_of area cut.supplier cut.at (not cut.low)

-- cuts of a box, each of what the ones before it leave
abbrev pub AreCuts : Job → IntervalBox → List Cut → Type 0
AreCuts job area [] = Unit {0}
AreCuts job area (cut ∷ cuts) = IsCut job area cut × AreCuts job (rest_of area cut) cuts

-- a plan whose cost the value of a row of the box reaches
pub record IsShownBy (job : Job) (area : IntervalBox) (row : Prices) (offer : Offer) : Type 0 where
  pub reaches : pos offer.cost ≤ℤ value job area row

-- what may be done with a box, beside a plan: the last stage does not leave the box as it is
abbrev pub IsAct : Job → IntervalBox → Stage → Option Offer → Act → Type 0
IsAct job area stage offer Stay = 0 < rank stage
IsAct job area stage offer (Kill leaf) = Kills job area None leaf
IsAct job area stage offer (Reach row) = (0 < rank stage) × Fits job area row
IsAct job area stage offer (Solve row) = Fits job area row × IsSomeAnd offer (IsShownBy job area row)
IsAct job area stage offer (Trim cuts) = (0 < rank stage) × AreCuts job area cuts.items
IsAct job area stage offer (Split bound branch) = IfSome bound (Fits job area) × IsProper area branch.supplier branch.at

-- what a thought about a box of a job says at a stage
pub record IsThought (job : Job) (area : IntervalBox) (stage : Stage) (thought : Thought) : Type 0 where
  pub offer : IfSome thought.offer (IsOffer job)
  pub act : IsAct job area stage thought.offer thought.act

-- what a bound says of a box: it is killed or solved, unless it leaves a choice
abbrev pub IsActOfBound : Job → IntervalBox → Option Offer → Act → Type 0
IsActOfBound job area offer Stay = IsSingle job area → ⊥
IsActOfBound job area offer (Kill leaf) = Kills job area None leaf
IsActOfBound job area offer (Reach row) = ⊥
IsActOfBound job area offer (Solve row) = Fits job area row × IsSomeAnd offer (IsShownBy job area row)
IsActOfBound job area offer (Trim cuts) = ⊥
IsActOfBound job area offer (Split bound branch) = ⊥

pub record IsBoundThought (job : Job) (area : IntervalBox) (thought : Thought) : Type 0 where
  pub offer : IfSome thought.offer (IsOffer job)
  pub act : IsActOfBound job area thought.offer thought.act
