-- The standing of a purchase as a value: the first test of feasibility that it fails, or its cost.
use Rattle.std.specs.Prelude.{ℕ, suc, zero, Bool, ◌||◌, nat_lt, if◌then◌else◌, Option, None, Some, is_some, not}
use Rattle.tqd_instance.specs.declared.job.Job.{Job}
use Rattle.tqd_instance.specs.declared.standing.Standing.{Standing}
use Rattle.tqd_instance.specs.declared.standing.Standing.TheVariants.{Feasible, Need, Stock, Gap, Winners}
use Rattle.tqd_instance.specs.Job.{goods, suppliers, need, most, stock, pick, least_winners, most_winners}
use Rattle.tqd_instance.specs.Purchase.{Purchase, total, bought, winners}
use Rattle.tqd_instance.specs.Cost.{cost}

abbrev pub or_else : Option ℕ → Option ℕ → Option ℕ
or_else (Some a) b = Some a
or_else None b = b

-- the first number below n that passes a test
unfoldable pub first_to : ℕ → (ℕ → Bool) → Option ℕ
first_to zero test = None
first_to (suc n) test = or_else (first_to n test) (if test n then Some n else None)

-- too little or too much is bought of a good
abbrev pub fails_need : Job → Purchase → ℕ → Bool
fails_need job x k = nat_lt (bought job x k) (need job k) || nat_lt (most job k) (bought job x k)

-- more is bought of a good from a supplier than the stock
abbrev pub fails_stock : Job → Purchase → ℕ → ℕ → Bool
fails_stock job x i k = nat_lt (stock job i k) (x i k)

-- the first such good of a supplier
abbrev pub over_stock : Job → Purchase → ℕ → Option ℕ
over_stock job x i = first_to (goods job) (fails_stock job x i)

-- a supplier's total lies in no segment
abbrev pub fails_pick : Job → Purchase → ℕ → Bool
fails_pick job x i = not (is_some (pick job i (total job x i)))

abbrev pub fails_winners : Job → Purchase → Bool
fails_winners job x = nat_lt (winners job x) (least_winners job) || nat_lt (most_winners job) (winners job x)

-- the tests one after another, from the last on
abbrev pub by_winners : Job → Purchase → Standing
by_winners job x = if fails_winners job x then Winners (winners job x) else Feasible (cost job x)

abbrev pub by_pick : Job → Purchase → Option ℕ → Standing
by_pick job x (Some i) = Gap i (total job x i)
by_pick job x None = by_winners job x

abbrev pub by_stock_of : ℕ → Option ℕ → Standing → Standing
by_stock_of i (Some k) other = Stock i k
by_stock_of i None other = other

abbrev pub by_stock : Job → Purchase → Option ℕ → Standing
by_stock job x (Some i) = by_stock_of i (over_stock job x i) (by_winners job x)
by_stock job x None = by_pick job x (first_to (suppliers job) (fails_pick job x))

abbrev pub by_need : Job → Purchase → Option ℕ → Standing
by_need job x (Some k) = Need k (bought job x k)
by_need job x None = by_stock job x (first_to (suppliers job) (λ i. is_some (over_stock job x i)))

unfoldable pub standing_of : Job → Purchase → Standing
standing_of job x = by_need job x (first_to (goods job) (fails_need job x))
