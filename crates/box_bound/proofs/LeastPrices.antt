-- The least price of a good in a supplier's range.
use Rattle.std.proofs.Common.{ℕ, suc, zero, ◌≡◌, ◌+◌, ◌-◌, ◌<◌, ◌≤◌, ◌==◌, min, if◌then◌else◌, refl, ap, arith, inl, inr}
use Rattle.std.proofs.lemmas.Bool.{cases_lt}
use Rattle.std.proofs.lemmas.Bool.Decides.{nat_tests}
use Rattle.tqd_instance.specs.declared.job.Job.{Job}
use Rattle.tqd_instance.specs.Job.{suppliers, price, fee}
use Rattle.tqd_instance.proofs.Jobs.{job_in_range}
use Rattle.interval_box.specs.declared.boxes.IntervalBox.{IntervalBox}
use Rattle.interval_box.specs.Ranges.{low_of, high_of, Admits, IsRangeOf}
use Rattle.bound_tree.specs.Prices.{first_of}
use Rattle.box_bound.specs.Relaxed.{lowest_from, least_price, sure_fee}

pub lowest_from-zero : (a : ℕ) (f : ℕ → ℕ) → lowest_from a 0 f ≡ f a
unfolding lowest_from
lowest_from-zero a f = refl

pub lowest_from-suc : (a n : ℕ) (f : ℕ → ℕ) → lowest_from a (suc n) f ≡ min (lowest_from a n f) (f (a + suc n))
unfolding lowest_from
lowest_from-suc a n f = refl

-- the least is at most each value
pub lowest_from-le : (a n : ℕ) (f : ℕ → ℕ) (j : ℕ) → a ≤ j → j ≤ a + n → lowest_from a n f ≤ f j
lowest_from-le a zero f j from to =
    let here : a ≡ j = omega arith in
    omega (arith, lowest_from-zero a f, ap f here)
lowest_from-le a (suc n) f j from to = elim (cases_lt (a + n) j) [
  | inl above ↦ (let here : a + suc n ≡ j = omega arith in omega (arith, lowest_from-suc a n f, ap f here))
  | inr within ↦ (let rest = lowest_from-le a n f j from within in omega (arith, lowest_from-suc a n f))
]

-- one value more
pub lowest_from-next : (a n m : ℕ) (f : ℕ → ℕ) (least value next : ℕ) → least ≡ lowest_from a n f → value ≡ f (a + m) → m ≡ n + 1 → next ≡ min least value
    → next ≡ lowest_from a m f
lowest_from-next a n m f least value next is here more lesser =
    let size : m ≡ suc n = omega arith in
    let e = lowest_from-suc a n f in
    let last : f (a + m) ≡ f (a + suc n) = ap (λ k. f (a + k)) size in
    let all : lowest_from a m f ≡ lowest_from a (suc n) f = ap (λ k. lowest_from a k f) size in
    omega arith

if_zero : (j x y : ℕ) → j ≡ 0 → (if j == 0 then x else y) ≡ x
if_zero j x y e = grind (arith, nat_tests)

if_some : (j x y : ℕ) → 1 ≤ j → (if j == 0 then x else y) ≡ y
if_some j x y h = grind (arith, nat_tests)

pub least_price-none : (job : Job) (area : IntervalBox) (i k : ℕ) → high_of area i ≡ 0 → least_price job area i k ≡ 0
unfolding least_price
least_price-none job area i k none = if_zero (high_of area i) 0 _ none

pub least_price-some : (job : Job) (area : IntervalBox) (i k : ℕ) → 1 ≤ high_of area i
    → least_price job area i k ≡ lowest_from (first_of area i) (high_of area i - first_of area i) (λ j. price job i j k)
unfolding least_price
least_price-some job area i k some = if_some (high_of area i) 0 _ some

-- it is at most the price in each segment of the range
pub least_price-le : (job : Job) (area : IntervalBox) (i k j : ℕ) → 1 ≤ j → Admits area i j → least_price job area i k ≤ price job i j k
unfolding first_of
least_price-le job area i k j some a =
    let from = a.from_low in
    let to = a.to_high in
    omega (
      arith,
      least_price-some job area i k (omega arith),
      lowest_from-le (first_of area i) (high_of area i - first_of area i) (λ j. price job i j k) j (omega arith) (omega arith),
    )

pub least_price-within : (job : Job) (area : IntervalBox) (i k : ℕ) → i < suppliers job → IsRangeOf job area i → least_price job area i k ≤ 1000000000000
least_price-within job area i k supplier r = elim (cases_lt 0 (high_of area i)) [
  | inl some ↦
      (let s = (job_in_range job).each_supplier i supplier in
      let last : Admits area i (high_of area i) = record { from_low = r.ordered; to_high = omega arith } in
      omega (arith, least_price-le job area i k (high_of area i) some last, (s.each_segment (high_of area i) some r.within).prices k))
  | inr none ↦ omega (arith, least_price-none job area i k (omega arith))
]

-- the fee that no purchase in the box gets round is none, or the whole
pub sure_fee-none : (job : Job) (area : IntervalBox) (i : ℕ) → low_of area i ≡ 0 → sure_fee job area i ≡ 0
unfolding sure_fee
sure_fee-none job area i none = if_zero (low_of area i) 0 _ none

pub sure_fee-some : (job : Job) (area : IntervalBox) (i : ℕ) → 1 ≤ low_of area i → sure_fee job area i ≡ fee job i
unfolding sure_fee
sure_fee-some job area i some = if_some (low_of area i) 0 _ some

pub sure_fee-le : (job : Job) (area : IntervalBox) (i : ℕ) → sure_fee job area i ≤ fee job i
sure_fee-le job area i = elim (cases_lt 0 (low_of area i)) [
  | inl some ↦ omega (arith, sure_fee-some job area i some)
  | inr none ↦ omega (arith, sure_fee-none job area i (omega arith))
]
