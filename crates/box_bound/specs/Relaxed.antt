-- The relaxed purchases of a box: what is left of its purchases where each supplier's range of segments counts as one.
use Rattle.std.specs.Prelude.{ℕ, suc, zero, ◌+◌, ◌-◌, ◌*◌, ◌<◌, ◌≤◌, ◌==◌, min, if◌then◌else◌}
use Rattle.tqd_instance.specs.declared.job.Job.{Job}
use Rattle.tqd_base.specs.Sum.{sum_to}
use Rattle.tqd_instance.specs.Job.{goods, suppliers, low, high, price, fee}
use Rattle.tqd_instance.specs.Purchase.{Purchase, total}
use Rattle.tqd_instance.specs.Feasible.{MeetsNeeds, MeetsStocks}
use Rattle.interval_box.specs.declared.boxes.IntervalBox.{IntervalBox}
use Rattle.interval_box.specs.Ranges.{low_of, high_of}
use Rattle.bound_tree.specs.Prices.{first_of}

-- the least total in the first segment of a supplier's range
unfoldable pub least_total : Job → IntervalBox → ℕ → ℕ
least_total job area i = low job i (low_of area i)

-- the greatest total in the last segment of a supplier's range
unfoldable pub greatest_total : Job → IntervalBox → ℕ → ℕ
greatest_total job area i = high job i (high_of area i)

-- the least of f a, f (a + 1), .., f (a + n)
unfoldable pub lowest_from : ℕ → ℕ → (ℕ → ℕ) → ℕ
lowest_from a zero f = f a
lowest_from a (suc n) f = min (lowest_from a n f) (f (a + suc n))

-- the least price of a good over the segments, but segment 0, of a supplier's range; 0 where there are none
unfoldable pub least_price : Job → IntervalBox → ℕ → ℕ → ℕ
least_price job area i k = if high_of area i == 0 then 0
    else lowest_from (first_of area i) (high_of area i - first_of area i) (λ j. price job i j k)

-- the fee of a supplier from which something is bought in every purchase in the box, or else 0
unfoldable pub sure_fee : Job → IntervalBox → ℕ → ℕ
sure_fee job area i = if low_of area i == 0 then 0 else fee job i

-- a supplier's total lies somewhere from the first to the last segment of its range
pub record KeepsTotal (job : Job) (area : IntervalBox) (x : Purchase) (i : ℕ) : Type 0 where
  pub from_least : least_total job area i ≤ total job x i
  pub to_greatest : total job x i ≤ greatest_total job area i

-- a relaxed purchase: it keeps needs, mosts, stocks and these totals
pub record Relaxed (job : Job) (area : IntervalBox) (x : Purchase) : Type 0 where
  pub needs : MeetsNeeds job x
  pub stocks : MeetsStocks job x
  pub totals : (i : ℕ) → i < suppliers job → KeepsTotal job area x i

-- the relaxed cost: each good at its least price, and the fees that no purchase in the box gets round
unfoldable pub relaxed_cost : Job → IntervalBox → Purchase → ℕ
relaxed_cost job area x = sum_to (suppliers job) (λ i. sum_to (goods job) (λ k. x i k * least_price job area i k) + sure_fee job area i)
