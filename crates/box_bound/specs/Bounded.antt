-- What the bound of a box is.
use Rattle.std.specs.Prelude.{ℕ, ◌≡◌, ◌≤◌, pos, ◌≤ℤ◌, ◌<ℤ◌}
use Rattle.tqd_instance.specs.declared.job.Job.{Job}
use Rattle.tqd_instance.specs.declared.plan.Plan.{Plan}
use Rattle.tqd_instance.specs.Purchase.{Purchase}
use Rattle.tqd_instance.specs.Plan.{units, IsSizedFor}
use Rattle.tqd_instance.specs.Feasible.{Feasible}
use Rattle.tqd_instance.specs.Cost.{cost}
use Rattle.interval_box.specs.declared.boxes.IntervalBox.{IntervalBox}
use Rattle.interval_box.specs.Ranges.{IsSingle}
use Rattle.interval_box.specs.Winners.{WinnersFail}
use Rattle.bound_tree.specs.Prices.{Prices, Fits}
use Rattle.bound_tree.specs.Value.{value, free_value}
use Rattle.box_bound.specs.declared.answer.Bounded.{Bounded}
use Rattle.box_bound.specs.declared.answer.Bounded.TheVariants.{Flow, Empty}
use Rattle.box_bound.specs.Relaxed.{Relaxed, relaxed_cost}

-- a relaxed purchase whose relaxed cost no other one is below, over all purchases
pub record IsLeastRelaxed (job : Job) (area : IntervalBox) (x : Purchase) (relaxed : ℕ) : Type 0 where
  pub is_relaxed : Relaxed job area x
  pub cost_is : relaxed_cost job area x ≡ relaxed
  pub least : (y : Purchase) → Relaxed job area y → relaxed ≤ relaxed_cost job area y

-- a feasible purchase that costs c
pub record FeasibleAt (job : Job) (x : Purchase) (c : ℕ) : Type 0 where
  pub feasible : Feasible job x
  pub cost_is : cost job x ≡ c

-- the plan of a least relaxed purchase, with its relaxed cost and a row whose value in the box is as much or more; in a box
-- that leaves no choice the plan is feasible at that cost, where the winner limits allow any
pub record IsFlow (job : Job) (area : IntervalBox) (plan : Plan) (relaxed : ℕ) (row : Prices) : Type 0 where
  pub size : IsSizedFor job plan
  pub least : IsLeastRelaxed job area (units plan) relaxed
  pub fits : Fits job area row
  pub reaches : pos relaxed ≤ℤ value job area row
  pub single : IsSingle job area → (WinnersFail job area → ⊥) → FeasibleAt job (units plan) relaxed

-- no purchase is a relaxed one, and a row shows that none in the box is feasible
pub record IsEmpty (job : Job) (area : IntervalBox) (row : Prices) : Type 0 where
  pub none : (x : Purchase) → Relaxed job area x → ⊥
  pub fits : Fits job area row
  pub above : pos 0 <ℤ free_value job area row

-- the bound of a box
abbrev pub IsBounded : Job → IntervalBox → Bounded → Type 0
IsBounded job area (Flow plan relaxed row) = IsFlow job area plan relaxed row
IsBounded job area (Empty row) = IsEmpty job area row

-- the row beside a flow has at least the value of a row that is given
abbrev pub IsNoLower : Job → IntervalBox → Prices → Bounded → Type 0
IsNoLower job area start (Flow plan relaxed row) = value job area start ≤ℤ value job area row
IsNoLower job area start (Empty row) = Unit {0}
