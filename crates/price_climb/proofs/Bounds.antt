-- How far the values of a row that fits a box are from 0.
use Rattle.std.proofs.Common.{ℕ, zero, suc, ◌≡◌, ◌+◌, ◌*◌, ◌<◌, ◌≤◌, ℤ, pos, negsuc, neg_ℤ, ◌-ℤ◌, ◌≤ℤ◌, List, refl, sym, subst, ◌∙◌, arith, inl, inr}
use Rattle.std.specs.List.{All}
use Rattle.std.specs.Int.{int_min}
use Rattle.std.proofs.lemmas.Bool.{cases_lt}
use Rattle.std.proofs.lemmas.Int.{ints, clamps}
use Rattle.std.proofs.lemmas.Nat.{mul-le}
use borrow.Author.Differences.{down}
use Rattle.tqd_base.specs.Sum.{signed_sum_to}
use Rattle.tqd_instance.specs.declared.job.Job.{Job}
use Rattle.tqd_instance.specs.Job.{goods, suppliers, segments, need, most, low, high, price}
use Rattle.tqd_instance.proofs.Jobs.{job_in_range}
use Rattle.interval_box.specs.declared.boxes.IntervalBox.{IntervalBox}
use Rattle.interval_box.specs.Ranges.{Admits, IsBoxOf}
use Rattle.bound_tree.specs.LeastFrom.{least_from}
use Rattle.bound_tree.specs.Prices.{Prices, price_at, segment_price, IsPrice, Fits}
use Rattle.bound_tree.specs.Value.{cap, charges_of, least_gain, least_times, segment_value, goods_value}
use Rattle.bound_tree.proofs.PriceReads.{price_in}
use Rattle.bound_tree.proofs.SegmentValues.{segment_value-none, segment_value-some, gains, gains-are}
use Rattle.bound_tree.proofs.Signed.{down_le, least_gain-is, price_times-bound}
use Rattle.bound_tree.proofs.SignedSums.{signed_sum_to-zero, signed_sum_to-suc, least_from-le, le-least_from}
use Rattle.price_climb.specs.Columns.{segment_in}

-- a number at most d away from 0
pub record IsWithin (d : ℕ) (z : ℤ) : Type 0 where
  pub not_less : neg_ℤ (pos d) ≤ℤ z
  pub not_more : z ≤ℤ pos d

sum_within : (n d : ℕ) (f : ℕ → ℤ) → ((k : ℕ) → k < n → IsWithin d (f k)) → IsWithin (n * d) (signed_sum_to n f)
sum_within zero d f each = record { not_less = omega (arith, ints, signed_sum_to-zero f); not_more = omega (arith, ints, signed_sum_to-zero f) }
sum_within (suc n) d f each =
    let rest = sum_within n d f (λ k below. each k (omega arith)) in
    let last = each n (omega arith) in
    record { not_less = omega (arith, ints, signed_sum_to-suc n f); not_more = omega (arith, ints, signed_sum_to-suc n f) }

pub least_within : (a n d : ℕ) (f : ℕ → ℤ) → ((j : ℕ) → a ≤ j → j ≤ a + n → IsWithin d (f j)) → IsWithin d (least_from a n f)
least_within a n d f each =
    let first = each a (omega arith) (omega arith) in
    let least = least_from-le a n f a (omega arith) (omega arith) in
    record {
      not_less = le-least_from a n f (neg_ℤ (pos d)) (λ j from to. (each j from to).not_less);
      not_more = omega (arith, ints);
    }

below_zero : (z : ℤ) → z ≤ℤ pos 0 → neg_ℤ (pos (down z)) ≡ z
below_zero (pos zero) h = refl
below_zero (pos (suc n)) h = absurd (omega (arith, ints))
below_zero (negsuc n) h = refl

-- a gain of a unit at prices within the limit
gain_low : (m g h : ℤ) (charge : ℕ) → m ≡ int_min (pos 0) (pos charge -ℤ g -ℤ h) → g ≤ℤ pos 4000000000000000 → h ≤ℤ pos 4000000000000000
    → (neg_ℤ (pos 8000000000000000) ≤ℤ m) × (m ≤ℤ pos 0)
gain_low m g h charge is p q = (omega (arith, ints, clamps), omega (arith, ints, clamps))

gain_within : (units charge : ℕ) (g h : ℤ) → units ≤ 100000000 → IsPrice g → IsPrice h → IsWithin 800000000000000000000000 (least_gain units charge g h)
gain_within units charge g h few p q =
    let m = int_min (pos 0) (pos charge -ℤ g -ℤ h) in
    let low = gain_low m g h charge refl p.not_more q.not_more in
    let is : least_gain units charge g h ≡ neg_ℤ (pos (units * down m)) = least_gain-is units charge (down m) g h (below_zero m low.1) in
    let product = mul-le units (down m) 100000000 8000000000000000 few (down_le m 8000000000000000 low.0) in
    record { not_less = omega (arith, ints); not_more = omega (arith, ints) }

cap_within : (job : Job) (i k : ℕ) → i < suppliers job → cap job i k ≤ 100000000
unfolding cap
cap_within job i k below = let s = ((job_in_range job).each_supplier i below).stock_within k in omega arith

pub segment_is : (job : Job) (area : IntervalBox) (row : Prices) (i j : ℕ) → segment_in job area row i j ≡ segment_value (charges_of job) job row.goods (segment_price area row i j) i j
unfolding segment_in
segment_is job area row i j = refl

place_price_in : (job : Job) (area : IntervalBox) (row : Prices) (i j : ℕ) → Fits job area row → IsPrice (segment_price area row i j)
unfolding segment_price
place_price_in job area row i j fits = price_in row.places _ fits.place_prices

some_within : (job : Job) (area : IntervalBox) (row : Prices) (i j : ℕ) → Fits job area row → i < suppliers job → 1 ≤ j → j ≤ segments job i
    → IsWithin 1000000000000000000000000000 (segment_value (charges_of job) job row.goods (segment_price area row i j) i j)
some_within job area row i j fits below some last =
    let h = segment_price area row i j in
    let s = (job_in_range job).each_supplier i below in
    let t = s.each_segment j some last in
    let fee_within = s.fee_within in
    let few = (job_in_range job).few_goods in
    let is = segment_value-some (charges_of job) job row.goods h i j some in
    let all : IsWithin (goods job * 800000000000000000000000) (gains (charges_of job) job row.goods h i j) =
    subst (IsWithin (goods job * 800000000000000000000000)) (sym (gains-are (charges_of job) job row.goods h i j))
    (sum_within (goods job) 800000000000000000000000 (λ k. least_gain (cap job i k) (price job i j k) (price_at row.goods k) h)
    (λ k _. gain_within (cap job i k) (price job i j k) (price_at row.goods k) h (cap_within job i k below) (price_in row.goods k fits.good_prices) (place_price_in job area row i j fits))) in
    let total = price_times-bound h (low job i j) (high job i j) (place_price_in job area row i j fits) (omega (arith, t.ordered, t.within)) (omega (arith, t.within)) in
    let l = all.not_less in
    let m = all.not_more in
    record { not_less = omega (arith, ints); not_more = omega (arith, ints) }

-- the value of a segment
pub segment_within : (job : Job) (area : IntervalBox) (row : Prices) (i j : ℕ) → IsBoxOf job area → Fits job area row → i < suppliers job → Admits area i j
    → IsWithin 1000000000000000000000000000 (segment_in job area row i j)
segment_within job area row i j b fits below a = elim (cases_lt 0 j) [
  | inl some ↦ subst (IsWithin 1000000000000000000000000000) (sym (segment_is job area row i j))
      (some_within job area row i j fits below some (omega (arith, a.to_high, (b.ranges i below).within)))
  | inr none ↦
      (let zero_is = segment_is job area row i j ∙ segment_value-none (charges_of job) job row.goods (segment_price area row i j) i j (omega arith) in
      record { not_less = omega (arith, ints); not_more = omega (arith, ints) })
]

pub goods_value-is : (job : Job) (prices : List ℤ) → goods_value job prices ≡ signed_sum_to (goods job) (λ k. least_times (price_at prices k) (need job k) (most job k))
unfolding goods_value
goods_value-is job prices = refl

-- the sum of the goods' terms
pub goods_within : (job : Job) (prices : List ℤ) → All IsPrice prices → IsWithin 25600000000000000000000000000 (goods_value job prices)
goods_within job prices all =
    let few = (job_in_range job).few_goods in
    let is = goods_value-is job prices in
    let sum = sum_within (goods job) 25600000000000000000000000 (λ k. least_times (price_at prices k) (need job k) (most job k))
    (λ k below.
    let good = (job_in_range job).each_good k below in
    let b = price_times-bound (price_at prices k) (need job k) (most job k) (price_in prices k all) (omega (arith, good.ordered, good.bounded)) (omega (arith, good.bounded)) in
    record { not_less = b.0; not_more = b.1 }) in
    let l = sum.not_less in
    let m = sum.not_more in
    record { not_less = omega (arith, ints); not_more = omega (arith, ints) }
