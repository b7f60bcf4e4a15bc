-- When no feasible purchase costs less.
use Rattle.std.specs.Prelude.{◌≤◌}
use Rattle.tqd_instance.specs.declared.job.Job.{Job}
use Rattle.tqd_instance.specs.Purchase.{Purchase}
use Rattle.tqd_instance.specs.Feasible.{Feasible}
use Rattle.tqd_instance.specs.Cost.{cost}

-- a least purchase: a feasible one, and no feasible one, among all matrices of whole numbers, costs less
pub record Least (job : Job) (x : Purchase) : Type 0 where
  pub feasible : Feasible job x
  pub least : (y : Purchase) → Feasible job y → cost job x ≤ cost job y

-- there is no feasible purchase
abbrev pub HasNoPurchase : Job → Type 0
HasNoPurchase job = (x : Purchase) → Feasible job x → ⊥
