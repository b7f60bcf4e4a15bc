-- When a purchase is feasible.
use Rattle.std.specs.Prelude.{ℕ, ◌<◌, ◌≤◌, IsSome}
use Rattle.tqd_instance.specs.declared.job.Job.{Job}
use Rattle.tqd_instance.specs.Job.{goods, suppliers, need, most, stock, pick, least_winners, most_winners}
use Rattle.tqd_instance.specs.Purchase.{Purchase, total, bought, winners}

-- the need of a good is met, and no more is bought of it than may be
pub record MeetsNeed (job : Job) (x : Purchase) (k : ℕ) : Type 0 where
  pub enough : need job k ≤ bought job x k
  pub not_more : bought job x k ≤ most job k

-- no more is bought from a supplier of a good than its stock
abbrev pub MeetsStock : Job → Purchase → ℕ → ℕ → Type 0
MeetsStock job x i k = x i k ≤ stock job i k

-- a supplier's total lies in one of its segments, or is 0
abbrev pub HasPick : Job → Purchase → ℕ → Type 0
HasPick job x i = IsSome (pick job i (total job x i))

-- the number of suppliers bought from is within the winner limits
pub record MeetsWinners (job : Job) (x : Purchase) : Type 0 where
  pub enough : least_winners job ≤ winners job x
  pub not_more : winners job x ≤ most_winners job

abbrev pub MeetsNeeds : Job → Purchase → Type 0
MeetsNeeds job x = (k : ℕ) → k < goods job → MeetsNeed job x k

abbrev pub MeetsStocks : Job → Purchase → Type 0
MeetsStocks job x = (i k : ℕ) → i < suppliers job → k < goods job → MeetsStock job x i k

abbrev pub HasPicks : Job → Purchase → Type 0
HasPicks job x = (i : ℕ) → i < suppliers job → HasPick job x i

-- a feasible purchase
pub record Feasible (job : Job) (x : Purchase) : Type 0 where
  pub needs : MeetsNeeds job x
  pub stocks : MeetsStocks job x
  pub picks : HasPicks job x
  pub winners : MeetsWinners job x
