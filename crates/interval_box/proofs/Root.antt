-- The root has every feasible purchase, and it is one box.
use Rattle.std.proofs.Common.{ℕ, suc, zero, List, get_or, set, replicate, length-set, get_or-set_same, get_or-set_other, ◌≡◌, ◌+◌, ◌<◌, ◌≤◌, length, slice_index, Option, Some, None, IsSome, arith, ap, refl, inl, inr}
use Rattle.std.proofs.lemmas.Bool.{cases_lt}
use Rattle.std.proofs.lemmas.List.{ext_get_or}
use Rattle.tqd_instance.specs.declared.job.Job.{Job}
use Rattle.tqd_instance.specs.Job.{suppliers, segments, pick}
use Rattle.tqd_instance.specs.Purchase.{Purchase, total}
use Rattle.tqd_instance.specs.Feasible.{Feasible}
use Rattle.tqd_instance.proofs.Jobs.{job_in_range}
use Rattle.tqd_instance.proofs.Picks.{picks_where_it_lies}
use Rattle.interval_box.specs.declared.boxes.IntervalBox.{IntervalBox}
use Rattle.interval_box.specs.Ranges.{low_of, high_of, Admits, PicksIn, IsZero, IsRoot, IsIn}
use Rattle.interval_box.proofs.Picked.{Picked, picks}

number_of : (o : Option ℕ) → IsSome o → (j : ℕ) × (o ≡ Some j)
number_of None h = absurd (cc)
number_of (Some j) h = (j, refl)

pub root_has : (job : Job) (area : IntervalBox) (x : Purchase) → IsRoot job area → Feasible job x → IsIn job area x
root_has job area x r f i below =
    let n = number_of (pick job i (total job x i)) (f.picks i below) in
    let l = ((picks_where_it_lies job i (total job x i) below).some n.0).0 n.1 in
    let w = r.whole i below in
    picks job area x i (record {
      number = n.0;
      is = n.1;
      admitted = record { from_low = omega (arith, w.from_zero); to_high = omega (arith, w.to_last, l.segment) };
    })

root_low : (job : Job) (a : IntervalBox) → IsRoot job a → (i : ℕ) → low_of a i ≡ 0
root_low job a r i = elim (cases_lt i (suppliers job)) [
  | inl below ↦ (r.whole i below).from_zero
  | inr past ↦ (r.of_job.others i past).low
]

root_high : (job : Job) (a b : IntervalBox) → IsRoot job a → IsRoot job b → (i : ℕ) → high_of a i ≡ high_of b i
root_high job a b r s i = elim (cases_lt i (suppliers job)) [
  | inl below ↦ omega (arith, (r.whole i below).to_last, (s.whole i below).to_last)
  | inr past ↦ omega (arith, (r.of_job.others i past).high, (s.of_job.others i past).high)
]

pub same_boxes : (a b : IntervalBox) → length a.lows ≡ length b.lows → length a.highs ≡ length b.highs
    → ((i : ℕ) → low_of a i ≡ low_of b i) → ((i : ℕ) → high_of a i ≡ high_of b i) → a ≡ b
unfolding low_of high_of
same_boxes a b low_places high_places lows highs =
    let l = ext_get_or 0 a.lows b.lows low_places (λ i below. lows i) in
    let h = ext_get_or 0 a.highs b.highs high_places (λ i below. highs i) in
    pair a.lows b.lows a.highs b.highs l h
  where
    pair : (xs ys zs ws : List ℕ) → xs ≡ ys → zs ≡ ws → ◌≡◌ {A = IntervalBox} (record { lows = xs; highs = zs }) (record { lows = ys; highs = ws })
    pair xs ys zs ws e f = rw (e, f)

pub root_is_one : (job : Job) (a b : IntervalBox) → IsRoot job a → IsRoot job b → a ≡ b
root_is_one job a b r s =
    same_boxes a b (omega (arith, r.of_job.low_places, s.of_job.low_places)) (omega (arith, r.of_job.high_places, s.of_job.high_places))
    (λ i. omega (arith, root_low job a r i, root_low job b s i)) (root_high job a b r s)

zero_at : (n k : ℕ) → get_or {A = ℕ} (replicate n 0) k 0 ≡ 0
zero_at zero k = refl
zero_at (suc n) zero = refl
zero_at (suc n) (suc k) = zero_at n k

pub zeros_are : IsZero (record { lows = replicate 64 0; highs = replicate 64 0 })
unfolding low_of high_of
zeros_are = record {
  low_places = refl;
  high_places = refl;
  unused = λ i. record { low = zero_at 64 i; high = zero_at 64 i };
}

-- the box while the root is made: the first suppliers have their whole ranges
pub record IsBegun (job : Job) (area : IntervalBox) (n : ℕ) : Type 0 where
  pub low_places : length area.lows ≡ 64
  pub high_places : length area.highs ≡ 64
  pub lows : (k : ℕ) → low_of area k ≡ 0
  pub whole : (k : ℕ) → k < n → high_of area k ≡ segments job k
  pub others : (k : ℕ) → n ≤ k → high_of area k ≡ 0

pub begins : (job : Job) (area : IntervalBox) → IsZero area → IsBegun job area 0
begins job area z = record {
  low_places = z.low_places;
  high_places = z.high_places;
  lows = λ k. (z.unused k).low;
  whole = λ k below. absurd (omega arith);
  others = λ k past. (z.unused k).high;
}

pub goes_on : (job : Job) (area : IntervalBox) (n last : ℕ) → n < suppliers job → last ≡ segments job n → IsBegun job area n
    → IsBegun job (record { lows = area.lows; highs = set area.highs n last }) (n + 1)
unfolding low_of high_of
goes_on job area n last below is b =
    let few = (job_in_range job).few_suppliers in
    let place : n < length area.highs = omega (arith, b.high_places) in
    record {
      low_places = b.low_places;
      high_places = omega (arith, length-set area.highs n last, b.high_places);
      lows = b.lows;
      whole = λ k less. elim (cases_lt k n) [
        | inl before ↦ (let other : k ≡ n → ⊥ = λ e. omega arith in omega (arith, get_or-set_other area.highs n k last 0 other, b.whole k before))
        | inr here ↦ (let same : n ≡ k = omega arith in rw (← same) (omega (arith, get_or-set_same area.highs n last 0 place)))
      ];
      others = λ k past. (let other : k ≡ n → ⊥ = λ e. omega arith in omega (arith, get_or-set_other area.highs n k last 0 other, b.others k (omega arith)));
    }

pub ends : (job : Job) (area : IntervalBox) (n : ℕ) → suppliers job ≤ n → n ≤ suppliers job → IsBegun job area n → IsRoot job area
ends job area n all within b = record {
  of_job = record {
    low_places = b.low_places;
    high_places = b.high_places;
    ranges = λ i below. record {
      ordered = omega (arith, b.lows i);
      within = omega (arith, b.whole i (omega arith));
    };
    others = λ i past. record { low = b.lows i; high = b.others i (omega arith) };
  };
  whole = λ i below. record { from_zero = b.lows i; to_last = b.whole i (omega arith) };
}
