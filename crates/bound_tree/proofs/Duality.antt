-- Weak duality: no feasible purchase in a box costs less than the value of a row of prices.
use Rattle.std.proofs.Common.{ℕ, ◌≡◌, ◌+◌, ◌-◌, ◌*◌, ◌<◌, ◌≤◌, ◌==◌, if◌then◌else◌, ℤ, pos, neg_ℤ, ◌+ℤ◌, ◌-ℤ◌, ◌≤ℤ◌, List, Some, refl, ap, ◌∙◌, arith, inl, inr}
use Rattle.std.specs.Prelude.{unwrap_or}
use Rattle.std.specs.Int.{int_min}
use Rattle.std.proofs.lemmas.Bool.{cases_lt}
use Rattle.std.proofs.lemmas.Bool.Decides.{nat_tests}
use Rattle.std.proofs.lemmas.Int.{ints, clamps}
use Rattle.std.proofs.lemmas.Nat.{mul-le}
use Rattle.std.proofs.Math.Nat.{mul-add}
use borrow.Author.Differences.{up, down}
use Rattle.tqd_instance.specs.declared.job.Job.{Job}
use Rattle.tqd_base.specs.Sum.{sum_to}
use Rattle.tqd_instance.specs.Job.{goods, suppliers, need, most, low, high, pick}
use Rattle.tqd_instance.specs.Purchase.{Purchase, total, bought}
use Rattle.tqd_instance.specs.Feasible.{Feasible}
use Rattle.tqd_instance.specs.InRange.{IsSupplierInRange}
use Rattle.tqd_instance.specs.Picks.{LiesIn}
use Rattle.tqd_instance.specs.Cost.{selected, goods_cost, fee_cost, cost}
use Rattle.tqd_instance.proofs.Jobs.{job_in_range}
use Rattle.tqd_instance.proofs.Picks.{picks_where_it_lies}
use Rattle.tqd_instance.proofs.SumLemmas.{sum_to-add, sum_to-mul, sum_to-same, sum_to-none, sum_to-zeros, sum_to-swap, sum_to-term}
use Rattle.interval_box.specs.declared.boxes.IntervalBox.{IntervalBox}
use Rattle.interval_box.specs.Ranges.{low_of, high_of, IsIn}
use Rattle.interval_box.proofs.Picked.{picked}
use Rattle.bound_tree.specs.Prices.{Prices, price_at, segment_price}
use Rattle.bound_tree.specs.Value.{Charges, charges_of, no_charges, cap, least_times, least_gain, segment_value, supplier_value, goods_value, value_by}
use Rattle.bound_tree.proofs.Signed.{least_times-le, least_gain-is}
use Rattle.bound_tree.proofs.SignedSums.{signed_sum_to-between, least_from-le}
use Rattle.bound_tree.proofs.SegmentValues.{segment_value-none, segment_value-some, gains, gains-are}

-- what a supplier is paid for a purchase
unfoldable pub paid : Charges → Job → Purchase → ℕ → ℕ
paid charges job x i = sum_to (goods job) (λ k. x i k * charges.price i (selected job x i) k) + (if total job x i == 0 then 0 else charges.fee i)

-- a unit less what it saves, so often
saved : (x cap a b : ℕ) → x ≤ cap → x * a ≤ x * b + cap * (a - b)
saved x cap a b few =
    let one = mul-le x a x (b + (a - b)) (omega arith) (omega arith) in
    let more = mul-le x (a - b) cap (a - b) few (omega arith) in
    omega (arith, mul-add x b (a - b))

-- the gain of the units that are bought is no less than the least gain
gain_le : (x cap charge : ℕ) (g h : ℤ) → x ≤ cap → (least_gain cap charge g h +ℤ pos (up g * x + up h * x)) ≤ℤ pos (x * charge + (down g * x + down h * x))
gain_le x cap charge g h few =
    let s = (up g + up h) - (charge + (down g + down h)) in
    let is : neg_ℤ (pos s) ≡ int_min (pos 0) (pos charge -ℤ g -ℤ h) = omega (arith, ints, clamps) in
    let e = least_gain-is cap charge s g h is in
    let m = saved x cap (up g + up h) (charge + (down g + down h)) few in
    omega (arith, ints, mul-add x (up g) (up h), mul-add x charge (down g + down h), mul-add x (down g) (down h))

-- a supplier takes no more of a good than its cap
within_cap : (job : Job) (x : Purchase) (i k : ℕ) → Feasible job x → i < suppliers job → k < goods job → x i k ≤ cap job i k
unfolding cap bought
within_cap job x i k f supplier good = omega (arith, f.stocks i k supplier good, (f.needs k good).not_more, sum_to-term (suppliers job) (λ i. x i k) i supplier)

-- the gains of what is bought in a segment are no less than the least gains
gains_le : (charges : Charges) (job : Job) (prices : List ℤ) (h : ℤ) (x : Purchase) (i j : ℕ) → ((k : ℕ) → k < goods job → x i k ≤ cap job i k)
    → (gains charges job prices h i j +ℤ pos (sum_to (goods job) (λ k. up (price_at prices k) * x i k) + up h * total job x i))
    ≤ℤ pos (sum_to (goods job) (λ k. x i k * charges.price i j k) + (sum_to (goods job) (λ k. down (price_at prices k) * x i k) + down h * total job x i))
unfolding total
gains_le charges job prices h x i j few =
    let n = goods job in
    let g : ℕ → ℤ = price_at prices in
    let b = signed_sum_to-between n (λ k. least_gain (cap job i k) (charges.price i j k) (g k) h)
    (λ k. up (g k) * x i k + up h * x i k) (λ k. x i k * charges.price i j k + (down (g k) * x i k + down h * x i k))
    (λ k below. gain_le (x i k) (cap job i k) (charges.price i j k) (g k) h (few k below)) in
    let u = sum_to-add n (λ k. up (g k) * x i k) (λ k. up h * x i k) in
    let v = sum_to-mul n (up h) (x i) in
    let p = sum_to-add n (λ k. x i k * charges.price i j k) (λ k. down (g k) * x i k + down h * x i k) in
    let d = sum_to-add n (λ k. down (g k) * x i k) (λ k. down h * x i k) in
    let w = sum_to-mul n (down h) (x i) in
    omega (arith, ints, gains-are charges job prices h i j)

-- what a supplier is paid where a total picks a segment, and where nothing is bought
paid_some : (t fee : ℕ) → 1 ≤ t → (if t == 0 then 0 else fee) ≡ fee
paid_some t fee some = grind (arith, nat_tests)

selects : (job : Job) (x : Purchase) (i j : ℕ) → pick job i (total job x i) ≡ Some j → selected job x i ≡ j
unfolding selected
selects job x i j is = ap (λ o. unwrap_or o 0) is

bought_some : (charges : Charges) (job : Job) (prices : List ℤ) (h : ℤ) (x : Purchase) (i j : ℕ) → Feasible job x → i < suppliers job → 1 ≤ j
    → low job i j ≤ total job x i → total job x i ≤ high job i j → 1 ≤ low job i j → selected job x i ≡ j
    → (segment_value charges job prices h i j +ℤ pos (sum_to (goods job) (λ k. up (price_at prices k) * x i k)))
    ≤ℤ pos (paid charges job x i + sum_to (goods job) (λ k. down (price_at prices k) * x i k))
unfolding paid
bought_some charges job prices h x i j f supplier some from to from_one is =
    let value = segment_value-some charges job prices h i j some in
    let gained = gains_le charges job prices h x i j (λ k good. within_cap job x i k f supplier good) in
    let times = least_times-le h (low job i j) (high job i j) (total job x i) from to in
    let fee = paid_some (total job x i) (charges.fee i) (omega arith) in
    let here = ap (λ j. sum_to (goods job) (λ k. x i k * charges.price i j k)) is in
    omega (arith, ints)

bought_none : (charges : Charges) (job : Job) (prices : List ℤ) (h : ℤ) (x : Purchase) (i j : ℕ) → j ≡ 0 → total job x i ≡ 0
    → (segment_value charges job prices h i j +ℤ pos (sum_to (goods job) (λ k. up (price_at prices k) * x i k)))
    ≤ℤ pos (paid charges job x i + sum_to (goods job) (λ k. down (price_at prices k) * x i k))
unfolding total
bought_none charges job prices h x i j first none =
    let value = segment_value-none charges job prices h i j first in
    let nothing = sum_to-zeros (goods job) (λ k. up (price_at prices k) * x i k)
    (λ k below. (let units = sum_to-none (goods job) (x i) none k below in omega (arith, ap (λ n. up (price_at prices k) * n) units))) in
    omega (arith, ints)

-- what a supplier is paid, beyond the prices of the goods, is no less than its value
supplier_bound : (charges : Charges) (job : Job) (area : IntervalBox) (prices : List ℤ) (h : ℕ → ℤ) (x : Purchase) (i : ℕ) → Feasible job x → IsIn job area x → i < suppliers job
    → (supplier_value charges job area prices h i +ℤ pos (sum_to (goods job) (λ k. up (price_at prices k) * x i k)))
    ≤ℤ pos (paid charges job x i + sum_to (goods job) (λ k. down (price_at prices k) * x i k))
unfolding supplier_value
supplier_bound charges job area prices h x i f inside supplier =
    let p = picked job area x i (inside i supplier) in
    let j = p.number in
    let lies = ((picks_where_it_lies job i (total job x i) supplier).some j).0 p.is in
    let s = (job_in_range job).each_supplier i supplier in
    let least = least_from-le (low_of area i) (high_of area i - low_of area i) (λ j. segment_value charges job prices (h j) i j) j
    (p.admitted.from_low) (omega (arith, p.admitted.from_low, p.admitted.to_high)) in
    let bound = bought charges job prices h x i j f supplier lies s (selects job x i j p.is) in
    omega (arith, ints)
  where
    bought : (charges : Charges) (job : Job) (prices : List ℤ) (h : ℕ → ℤ) (x : Purchase) (i j : ℕ) → Feasible job x → i < suppliers job → LiesIn job i j (total job x i)
        → IsSupplierInRange job i → selected job x i ≡ j
        → (segment_value charges job prices (h j) i j +ℤ pos (sum_to (goods job) (λ k. up (price_at prices k) * x i k)))
        ≤ℤ pos (paid charges job x i + sum_to (goods job) (λ k. down (price_at prices k) * x i k))
    bought charges job prices h x i j f supplier lies s is = elim (cases_lt 0 j) [
      | inl some ↦ bought_some charges job prices (h j) x i j f supplier some lies.from_low lies.to_high (s.each_segment j some lies.segment).from_one is
      | inr none ↦
          (let zero : j ≡ 0 = omega arith in
          bought_none charges job prices (h j) x i j zero (omega (arith, lies.to_high, ap (high job i) zero, s.nothing_high)))
    ]

-- what the prices of the goods come to for what is bought
columns : (job : Job) (x : Purchase) (w : ℕ → ℕ) → sum_to (suppliers job) (λ i. sum_to (goods job) (λ k. w k * x i k)) ≡ sum_to (goods job) (λ k. w k * bought job x k)
unfolding bought
columns job x w =
    sum_to-swap (suppliers job) (goods job) (λ i k. w k * x i k)
    ∙ sum_to-same (goods job) (λ k. sum_to (suppliers job) (λ i. w k * x i k)) (λ k. w k * sum_to (suppliers job) (λ i. x i k))
    (λ k below. sum_to-mul (suppliers job) (w k) (λ i. x i k))

goods_bound : (job : Job) (prices : List ℤ) (x : Purchase) → Feasible job x
    → (goods_value job prices +ℤ pos (sum_to (goods job) (λ k. down (price_at prices k) * bought job x k))) ≤ℤ pos (sum_to (goods job) (λ k. up (price_at prices k) * bought job x k))
unfolding goods_value
goods_bound job prices x f =
    signed_sum_to-between (goods job) (λ k. least_times (price_at prices k) (need job k) (most job k)) (λ k. down (price_at prices k) * bought job x k) (λ k. up (price_at prices k) * bought job x k)
    (λ k below. least_times-le (price_at prices k) (need job k) (most job k) (bought job x k) (f.needs k below).enough (f.needs k below).not_more)

-- the value of a row is at most what all suppliers are paid
pub value_bound : (charges : Charges) (job : Job) (area : IntervalBox) (row : Prices) (x : Purchase) → Feasible job x → IsIn job area x
    → value_by charges job area row ≤ℤ pos (sum_to (suppliers job) (paid charges job x))
unfolding value_by
value_bound charges job area row x f inside =
    let m = suppliers job in
    let g : ℕ → ℤ = price_at row.goods in
    let each = signed_sum_to-between m (λ i. supplier_value charges job area row.goods (segment_price area row i) i) (λ i. sum_to (goods job) (λ k. up (g k) * x i k))
    (λ i. paid charges job x i + sum_to (goods job) (λ k. down (g k) * x i k))
    (λ i below. supplier_bound charges job area row.goods (segment_price area row i) x i f inside below) in
    let split = sum_to-add m (paid charges job x) (λ i. sum_to (goods job) (λ k. down (g k) * x i k)) in
    let ups = columns job x (λ k. up (g k)) in
    let downs = columns job x (λ k. down (g k)) in
    let all = goods_bound job row.goods x f in
    omega (arith, ints)

pub no_cheaper : (job : Job) (area : IntervalBox) (row : Prices) (x : Purchase) → Feasible job x → IsIn job area x → value_by (charges_of job) job area row ≤ℤ pos (cost job x)
unfolding cost goods_cost fee_cost paid
no_cheaper job area row x f inside = value_bound (charges_of job) job area row x f inside

either_zero : (t fee : ℕ) → fee ≡ 0 → (if t == 0 then 0 else fee) ≡ 0
either_zero t fee none = grind (arith, nat_tests)

paid_free : (job : Job) (x : Purchase) (i : ℕ) → paid no_charges job x i ≡ 0
unfolding paid
paid_free job x i =
    let units = sum_to-zeros (goods job) (λ k. x i k * 0) (λ k below. omega arith) in
    let fee : (if total job x i == 0 then 0 else no_charges.fee i) ≡ 0 = either_zero (total job x i) 0 refl in
    omega arith

pub not_above_zero : (job : Job) (area : IntervalBox) (row : Prices) (x : Purchase) → Feasible job x → IsIn job area x → value_by no_charges job area row ≤ℤ pos 0
not_above_zero job area row x f inside =
    let b = value_bound no_charges job area row x f inside in
    let free = sum_to-zeros (suppliers job) (paid no_charges job x) (λ i below. paid_free job x i) in
    omega (arith, ints)
