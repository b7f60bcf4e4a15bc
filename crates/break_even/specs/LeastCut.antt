-- The least cut of a supplier's prices that lowers the least cost of a job.
use Rattle.std.specs.Prelude.{ℕ, ◌≤◌, ◌<◌}
use Rattle.tqd_instance.specs.declared.job.Job.{Job}
use Rattle.tqd_instance.specs.Change.{HasCutPrices}
use Rattle.tqd_instance.specs.Purchase.{Purchase}
use Rattle.tqd_instance.specs.Feasible.{Feasible}
use Rattle.tqd_instance.specs.Cost.{cost}
use Rattle.tqd_instance.specs.Least.{HasNoPurchase}
use Rattle.tqd_instance.specs.Optimum.{IsLeastCost}
use Rattle.break_even.specs.declared.cut.CutAnswer.{CutAnswer}
use Rattle.break_even.specs.declared.cut.CutAnswer.TheVariants.{NoPurchase, NoCut, Cut}

-- no feasible purchase of the job costs less than this
abbrev pub CostsAtLeast : ℕ → Job → Type 0
CostsAtLeast before job = (x : Purchase) → Feasible job x → before ≤ cost job x

-- under this cut of the i-th supplier's prices no feasible purchase costs less than before
abbrev pub GainsNothing : Job → ℕ → ℕ → ℕ → Type 0
GainsNothing job i before cut = (b : Job) × (HasCutPrices i cut job b × CostsAtLeast before b)

-- under this cut a least purchase costs this, which is less than before
pub record Gains (job : Job) (i before cut after : ℕ) : Type 0 where
  pub costs : (b : Job) × (HasCutPrices i cut job b × IsLeastCost b after)
  pub lower : after < before

-- no cut from 1 up to this one gains anything
abbrev pub NoneGainsTo : Job → ℕ → ℕ → ℕ → Type 0
NoneGainsTo job i before last = (d : ℕ) → 1 ≤ d → d ≤ last → (b : Job) → HasCutPrices i d job b → CostsAtLeast before b

-- the cut gains, and no lower one does
pub record IsLowestGain (job : Job) (i before cut after : ℕ) : Type 0 where
  pub some : 1 ≤ cut
  pub within : cut ≤ 1000
  pub gains : Gains job i before cut after
  pub none_below : (d : ℕ) → 1 ≤ d → d < cut → (b : Job) → HasCutPrices i d job b → CostsAtLeast before b

-- the right answer for the i-th supplier of a job
abbrev pub IsLeastCut : Job → ℕ → CutAnswer → Type 0
IsLeastCut job i NoPurchase = HasNoPurchase job
IsLeastCut job i (NoCut before) = IsLeastCost job before × NoneGainsTo job i before 1000
IsLeastCut job i (Cut cut before after) = IsLeastCost job before × IsLowestGain job i before cut after
