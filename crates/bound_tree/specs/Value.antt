-- The value of a row of prices in a box: no feasible purchase in the box costs less (weak duality, interval by interval).
use Rattle.std.specs.Prelude.{ℕ, ◌==◌, min, if◌then◌else◌, ℤ, pos, ◌+ℤ◌, ◌-ℤ◌, ◌*ℤ◌, int_lt, ◌-◌, List}
use Rattle.std.specs.Int.{int_min}
use Rattle.tqd_instance.specs.declared.job.Job.{Job}
use Rattle.tqd_instance.specs.Job.{goods, suppliers, need, most, stock, low, high, price, fee}
use Rattle.interval_box.specs.declared.boxes.IntervalBox.{IntervalBox}
use Rattle.interval_box.specs.Ranges.{low_of, high_of}
use Rattle.tqd_base.specs.Sum.{signed_sum_to}
use Rattle.bound_tree.specs.LeastFrom.{least_from}
use Rattle.bound_tree.specs.Prices.{Prices, price_at, segment_price}

-- what is asked for a unit of good k at supplier i in segment j, and once where anything is bought from i
pub record Charges : Type 0 where
  pub price : ℕ → ℕ → ℕ → ℕ
  pub fee : ℕ → ℕ

-- the prices and fees of a job
abbrev pub charges_of : Job → Charges
charges_of job = record { price = price job; fee = fee job }

-- as if nothing were asked
abbrev pub no_charges : Charges
no_charges = record { price = λ i j k. 0; fee = λ i. 0 }

-- the most units of a good that a feasible purchase takes from a supplier
unfoldable pub cap : Job → ℕ → ℕ → ℕ
cap job i k = min (stock job i k) (most job k)

-- the least of z times n, over the numbers n from low to high
unfoldable pub least_times : ℤ → ℕ → ℕ → ℤ
least_times z low high = z *ℤ pos (if int_lt z (pos 0) then high else low)

-- the least of n times the charge for a unit less its prices g and h, over the numbers n up to cap
unfoldable pub least_gain : ℕ → ℕ → ℤ → ℤ → ℤ
least_gain cap charge g h = pos cap *ℤ int_min (pos 0) (pos charge -ℤ g -ℤ h)

-- W: the least that buying from supplier i in segment j can cost beyond the prices of the goods, where a unit of the
-- total has the price h; in segment 0 nothing is bought
unfoldable pub segment_value : Charges → Job → List ℤ → ℤ → ℕ → ℕ → ℤ
segment_value charges job good_prices h i j = if j == 0 then pos 0
    else (pos (charges.fee i)
    +ℤ signed_sum_to (goods job) (λ k. least_gain (cap job i k) (charges.price i j k) (price_at good_prices k) h)
    +ℤ least_times h (low job i j) (high job i j))

-- the least of those over a supplier's range, where h has the price of each segment
unfoldable pub supplier_value : Charges → Job → IntervalBox → List ℤ → (ℕ → ℤ) → ℕ → ℤ
supplier_value charges job area good_prices h i =
    least_from (low_of area i) (high_of area i - low_of area i) (λ j. segment_value charges job good_prices (h j) i j)

-- the least that the prices of the goods come to, between their needs and what may be bought of them
unfoldable pub goods_value : Job → List ℤ → ℤ
goods_value job good_prices = signed_sum_to (goods job) (λ k. least_times (price_at good_prices k) (need job k) (most job k))

unfoldable pub value_by : Charges → Job → IntervalBox → Prices → ℤ
value_by charges job area row = goods_value job row.goods
    +ℤ signed_sum_to (suppliers job) (λ i. supplier_value charges job area row.goods (segment_price area row i) i)

-- the value of a row
abbrev pub value : Job → IntervalBox → Prices → ℤ
value job = value_by (charges_of job) job

-- its value with every price and every fee of the job taken as 0
abbrev pub free_value : Job → IntervalBox → Prices → ℤ
free_value = value_by no_charges
