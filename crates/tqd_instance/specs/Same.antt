-- When two jobs have the same numbers. Segment 0 stands for 'nothing is bought' in both.
use Rattle.std.specs.Prelude.{ℕ, ◌≡◌, ◌<◌, ◌≤◌}
use Rattle.tqd_instance.specs.declared.job.Job.{Job}
use Rattle.tqd_instance.specs.Job.{goods, suppliers, need, most, stock, segments, low, high, price, fee, least_winners, most_winners}

-- of a good as much has to be bought in both jobs, and as much may be
pub record IsSameGood (a b : Job) (k : ℕ) : Type 0 where
  pub same_need : need b k ≡ need a k
  pub same_most : most b k ≡ most a k

-- a segment has the same totals and the same price for each good
pub record IsSameSegment (a b : Job) (i j : ℕ) : Type 0 where
  pub same_low : low b i j ≡ low a i j
  pub same_high : high b i j ≡ high a i j
  pub same_prices : (k : ℕ) → k < goods a → price b i j k ≡ price a i j k

-- a supplier has the same fee, the same stock of each good, and the same segments
pub record IsSameSupplier (a b : Job) (i : ℕ) : Type 0 where
  pub same_fee : fee b i ≡ fee a i
  pub same_stocks : (k : ℕ) → k < goods a → stock b i k ≡ stock a i k
  pub as_many_segments : segments b i ≡ segments a i
  pub each_segment : (j : ℕ) → 1 ≤ j → j ≤ segments a i → IsSameSegment a b i j

-- two jobs have as many goods and suppliers, the same numbers at each of them, and the same winner limits
pub record HasSameNumbers (a b : Job) : Type 0 where
  pub as_many_goods : goods b ≡ goods a
  pub as_many_suppliers : suppliers b ≡ suppliers a
  pub each_good : (k : ℕ) → k < goods a → IsSameGood a b k
  pub each_supplier : (i : ℕ) → i < suppliers a → IsSameSupplier a b i
  pub same_least_winners : least_winners b ≡ least_winners a
  pub same_most_winners : most_winners b ≡ most_winners a
