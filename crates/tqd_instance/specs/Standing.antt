-- How a purchase stands: feasible with its cost, or the first test of feasibility that fails.
-- The tests come in the order needs, stocks, picks, winner limits; within one of them in the order of its places.
use Rattle.std.specs.Prelude.{ℕ, ◌≡◌, ◌<◌, ◌⊎◌, None}
use Rattle.tqd_instance.specs.declared.job.Job.{Job}
use Rattle.tqd_instance.specs.declared.standing.Standing.{Standing}
use Rattle.tqd_instance.specs.declared.standing.Standing.TheVariants.{Feasible as IsFeasible, Need, Stock, Gap, Winners}
use Rattle.tqd_instance.specs.Job.{goods, suppliers, need, most, stock, pick, least_winners, most_winners}
use Rattle.tqd_instance.specs.Purchase.{Purchase, total, bought, winners}
use Rattle.tqd_instance.specs.Feasible.{Feasible, MeetsNeed, MeetsStock, HasPick, MeetsNeeds, MeetsStocks, HasPicks}
use Rattle.tqd_instance.specs.Cost.{cost}

-- the first good of which too little or too much is bought, and how much that is
pub record FailsNeed (job : Job) (x : Purchase) (good sum : ℕ) : Type 0 where
  pub in_range : good < goods job
  pub is_sum : sum ≡ bought job x good
  pub fails : (sum < need job good) ⊎ (most job good < sum)
  pub first : (k : ℕ) → k < good → MeetsNeed job x k

-- the first supplier, and its first good, of which more is bought than the stock
pub record FailsStock (job : Job) (x : Purchase) (supplier good : ℕ) : Type 0 where
  pub needs : MeetsNeeds job x
  pub supplier_in_range : supplier < suppliers job
  pub good_in_range : good < goods job
  pub fails : stock job supplier good < x supplier good
  pub first_supplier : (i k : ℕ) → i < supplier → k < goods job → MeetsStock job x i k
  pub first_good : (k : ℕ) → k < good → MeetsStock job x supplier k

-- the first supplier whose total lies in no segment, and that total
pub record FailsPick (job : Job) (x : Purchase) (supplier units : ℕ) : Type 0 where
  pub needs : MeetsNeeds job x
  pub stocks : MeetsStocks job x
  pub in_range : supplier < suppliers job
  pub is_total : units ≡ total job x supplier
  pub fails : pick job supplier units ≡ None
  pub first : (i : ℕ) → i < supplier → HasPick job x i

-- the number of suppliers bought from, which is not within the winner limits
pub record FailsWinners (job : Job) (x : Purchase) (number : ℕ) : Type 0 where
  pub needs : MeetsNeeds job x
  pub stocks : MeetsStocks job x
  pub picks : HasPicks job x
  pub is_number : number ≡ winners job x
  pub fails : (number < least_winners job) ⊎ (most_winners job < number)

-- a feasible purchase and its cost
pub record Costs (job : Job) (x : Purchase) (amount : ℕ) : Type 0 where
  pub feasible : Feasible job x
  pub is_cost : amount ≡ cost job x

-- the standing of a purchase, exactly
abbrev pub Stands : Job → Purchase → Standing → Type 0
Stands job x (IsFeasible amount) = Costs job x amount
Stands job x (Need good sum) = FailsNeed job x good sum
Stands job x (Stock supplier good) = FailsStock job x supplier good
Stands job x (Gap supplier units) = FailsPick job x supplier units
Stands job x (Winners number) = FailsWinners job x number
