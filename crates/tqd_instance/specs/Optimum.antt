-- The least cost of a job, and jobs in which it is no higher.
use Rattle.std.specs.Prelude.{ℕ, ◌≡◌, ◌≤◌, ◌<◌, Option, None, Some}
use Rattle.tqd_instance.specs.declared.job.Job.{Job}
use Rattle.tqd_instance.specs.Job.{goods, suppliers, stock, segments, low, high, price, fee, least_winners, most_winners}
use Rattle.tqd_instance.specs.Purchase.{Purchase}
use Rattle.tqd_instance.specs.Feasible.{Feasible}
use Rattle.tqd_instance.specs.Cost.{cost}
use Rattle.tqd_instance.specs.Least.{Least, HasNoPurchase}
use Rattle.tqd_instance.specs.Same.{IsSameGood}

-- a least purchase of the job costs this
abbrev pub IsLeastCost : Job → ℕ → Type 0
IsLeastCost job c = (x : Purchase) × (Least job x × (cost job x ≡ c))

-- what a least purchase of the job costs, or none where no purchase is feasible
abbrev pub IsOptimum : Job → Option ℕ → Type 0
IsOptimum job None = HasNoPurchase job
IsOptimum job (Some c) = IsLeastCost job c

-- a purchase that is feasible in job a is feasible in job b, and costs no more there
pub record NoDearer (a b : Job) (x : Purchase) : Type 0 where
  pub feasible : Feasible b x
  pub cost : cost b x ≤ cost a x

abbrev pub IsNoDearer : Job → Job → Type 0
IsNoDearer a b = (x : Purchase) → Feasible a x → NoDearer a b x

-- in a segment the same totals, and no price that is higher in b
pub record IsCheaperSegment (a b : Job) (i j : ℕ) : Type 0 where
  pub same_low : low b i j ≡ low a i j
  pub same_high : high b i j ≡ high a i j
  pub prices : (k : ℕ) → k < goods a → price b i j k ≤ price a i j k

-- a supplier with the same stocks and segments, whose fee and prices are no higher in b
pub record IsCheaperSupplier (a b : Job) (i : ℕ) : Type 0 where
  pub fee : fee b i ≤ fee a i
  pub same_stocks : (k : ℕ) → k < goods a → stock b i k ≡ stock a i k
  pub as_many_segments : segments b i ≡ segments a i
  pub each_segment : (j : ℕ) → 1 ≤ j → j ≤ segments a i → IsCheaperSegment a b i j

-- b asks for what a asks for, at prices and fees that are no higher, and its winner limits are no narrower
pub record IsCheaper (a b : Job) : Type 0 where
  pub as_many_goods : goods b ≡ goods a
  pub as_many_suppliers : suppliers b ≡ suppliers a
  pub each_good : (k : ℕ) → k < goods a → IsSameGood a b k
  pub each_supplier : (i : ℕ) → i < suppliers a → IsCheaperSupplier a b i
  pub least_winners : least_winners b ≤ least_winners a
  pub most_winners : most_winners a ≤ most_winners b
