-- A job with another greatest number of winners, and one with lower prices of a supplier.
use Rattle.std.specs.Prelude.{ℕ, ◌≡◌, ◌*◌, ◌-◌, ◌/◌, ◌<◌, ◌≤◌}
use Rattle.tqd_instance.specs.declared.job.Job.{Job}
use Rattle.tqd_instance.specs.Job.{goods, suppliers, stock, segments, low, high, price, fee, least_winners, most_winners}
use Rattle.tqd_instance.specs.Same.{IsSameGood, IsSameSupplier}

-- b is job a but for its greatest number of winners, which is this one
pub record HasMostWinners (most : ℕ) (a b : Job) : Type 0 where
  pub as_many_goods : goods b ≡ goods a
  pub as_many_suppliers : suppliers b ≡ suppliers a
  pub each_good : (k : ℕ) → k < goods a → IsSameGood a b k
  pub each_supplier : (i : ℕ) → i < suppliers a → IsSameSupplier a b i
  pub same_least_winners : least_winners b ≡ least_winners a
  pub most_winners : most_winners b ≡ most

-- a price less so many thousandths of it, rounded down to a millionth
unfoldable pub cut_price : ℕ → ℕ → ℕ
cut_price cut price = price * (1000 - cut) / 1000

-- a segment has the same totals, and each price less the cut
pub record IsCutSegment (cut : ℕ) (a b : Job) (i j : ℕ) : Type 0 where
  pub same_low : low b i j ≡ low a i j
  pub same_high : high b i j ≡ high a i j
  pub cut_prices : (k : ℕ) → k < goods a → price b i j k ≡ cut_price cut (price a i j k)

-- a supplier has the same fee, the same stock of each good, and the same segments with cut prices
pub record IsCutSupplier (cut : ℕ) (a b : Job) (i : ℕ) : Type 0 where
  pub same_fee : fee b i ≡ fee a i
  pub same_stocks : (k : ℕ) → k < goods a → stock b i k ≡ stock a i k
  pub as_many_segments : segments b i ≡ segments a i
  pub each_segment : (j : ℕ) → 1 ≤ j → j ≤ segments a i → IsCutSegment cut a b i j

-- b is job a but for the prices of supplier i, each of which is less by so many thousandths
pub record HasCutPrices (i cut : ℕ) (a b : Job) : Type 0 where
  pub as_many_goods : goods b ≡ goods a
  pub as_many_suppliers : suppliers b ≡ suppliers a
  pub each_good : (k : ℕ) → k < goods a → IsSameGood a b k
  pub cut_supplier : IsCutSupplier cut a b i
  pub other_suppliers : (n : ℕ) → n < suppliers a → (n ≡ i → ⊥) → IsSameSupplier a b n
  pub same_least_winners : least_winners b ≡ least_winners a
  pub same_most_winners : most_winners b ≡ most_winners a
