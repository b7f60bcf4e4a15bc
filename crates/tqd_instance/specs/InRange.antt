-- What holds of the numbers of every job, in the words for them.
use Rattle.std.specs.Prelude.{ℕ, ◌≡◌, ◌+◌, ◌*◌, ◌<◌, ◌≤◌}
use Rattle.tqd_base.specs.declared.limits.TheConstants.{QTY_MAX, PRICE_MAX, GOODS_MAX, SUPPLIERS_MAX, INTERVALS_MAX}
use Rattle.tqd_instance.specs.declared.job.Job.{Job}
use Rattle.tqd_instance.specs.Job.{goods, suppliers, need, most, stock, segments, low, high, price, fee, least_winners, most_winners}

-- a good: its need and the most that may be bought of it
pub record IsGoodInRange (job : Job) (k : ℕ) : Type 0 where
  pub some : 1 ≤ need job k
  pub within : need job k ≤ QTY_MAX
  pub ordered : need job k ≤ most job k
  pub bounded : most job k ≤ SUPPLIERS_MAX * QTY_MAX

-- a segment in which something is bought
pub record IsSegmentInRange (job : Job) (i j : ℕ) : Type 0 where
  pub from_one : 1 ≤ low job i j
  pub ordered : low job i j ≤ high job i j
  pub within : high job i j ≤ QTY_MAX
  pub prices : (k : ℕ) → price job i j k ≤ PRICE_MAX

-- a supplier: segment 0 holds the total 0 alone, and each later segment begins where the one before ends
pub record IsSupplierInRange (job : Job) (i : ℕ) : Type 0 where
  pub fee_within : fee job i ≤ PRICE_MAX
  pub stock_within : (k : ℕ) → stock job i k ≤ QTY_MAX
  pub few : segments job i ≤ INTERVALS_MAX
  pub nothing_low : low job i 0 ≡ 0
  pub nothing_high : high job i 0 ≡ 0
  pub nothing_price : (k : ℕ) → price job i 0 k ≡ 0
  pub each_segment : (j : ℕ) → 1 ≤ j → j ≤ segments job i → IsSegmentInRange job i j
  pub contiguous : (j : ℕ) → 1 ≤ j → j < segments job i → low job i (j + 1) ≡ high job i j + 1

pub record IsInRange (job : Job) : Type 0 where
  pub few_goods : goods job ≤ GOODS_MAX
  pub few_suppliers : suppliers job ≤ SUPPLIERS_MAX
  pub each_good : (k : ℕ) → k < goods job → IsGoodInRange job k
  pub each_supplier : (i : ℕ) → i < suppliers job → IsSupplierInRange job i
  pub winners_ordered : least_winners job ≤ most_winners job
  pub few_winners : most_winners job ≤ SUPPLIERS_MAX
