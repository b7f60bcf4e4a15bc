-- The totals of a supplier's range rise from segment to segment.
use Rattle.std.proofs.Common.{ℕ, suc, zero, ◌≡◌, ◌+◌, ◌<◌, ◌≤◌, ap, arith, add-one, inl, inr}
use Rattle.std.proofs.lemmas.Bool.{cases_lt}
use Rattle.tqd_instance.specs.declared.job.Job.{Job}
use Rattle.tqd_instance.specs.Job.{suppliers, segments, low, high}
use Rattle.tqd_instance.specs.InRange.{IsSupplierInRange}
use Rattle.tqd_instance.proofs.Jobs.{job_in_range}
use Rattle.interval_box.specs.declared.boxes.IntervalBox.{IntervalBox}
use Rattle.interval_box.specs.Ranges.{low_of, high_of, IsRangeOf, Admits}
use Rattle.box_bound.specs.Relaxed.{least_total, greatest_total}

-- a segment's least total is at most its greatest
pub ends_ordered : (job : Job) (i : ℕ) → IsSupplierInRange job i → (j : ℕ) → j ≤ segments job i → low job i j ≤ high job i j
ends_ordered job i s zero within = omega (arith, s.nothing_low)
ends_ordered job i s (suc j) within = (s.each_segment (suc j) (omega arith) within).ordered

-- the next segment begins above the end of one
next_above : (job : Job) (i : ℕ) → IsSupplierInRange job i → (j : ℕ) → suc j ≤ segments job i → high job i j < low job i (suc j)
next_above job i s zero within = omega (arith, s.nothing_high, (s.each_segment 1 (omega arith) within).from_one)
next_above job i s (suc j) within =
    let next : low job i (suc (suc j)) ≡ high job i (suc j) + 1 = rw (← add-one (suc j)) (s.contiguous (suc j) (omega arith) (omega arith)) in
    omega arith

pub lows_rise : (job : Job) (i : ℕ) → IsSupplierInRange job i → (a j : ℕ) → a ≤ j → j ≤ segments job i → low job i a ≤ low job i j
lows_rise job i s a zero le within =
    let same : a ≡ zero = omega arith in
    omega (arith, ap (low job i) same)
lows_rise job i s a (suc j) le within = elim (cases_lt a (suc j)) [
  | inl before ↦ omega (arith, lows_rise job i s a j (omega arith) (omega arith), ends_ordered job i s j (omega arith), next_above job i s j within)
  | inr here ↦ (let same : a ≡ suc j = omega arith in omega (arith, ap (low job i) same))
]

pub highs_rise : (job : Job) (i : ℕ) → IsSupplierInRange job i → (j b : ℕ) → j ≤ b → b ≤ segments job i → high job i j ≤ high job i b
highs_rise job i s j zero le within =
    let same : j ≡ zero = omega arith in
    omega (arith, ap (high job i) same)
highs_rise job i s j (suc b) le within = elim (cases_lt j (suc b)) [
  | inl before ↦ omega (arith, highs_rise job i s j b (omega arith) (omega arith), ends_ordered job i s (suc b) within, next_above job i s b within)
  | inr here ↦ (let same : j ≡ suc b = omega arith in omega (arith, ap (high job i) same))
]

highs_within : (job : Job) (i : ℕ) → IsSupplierInRange job i → (j : ℕ) → j ≤ segments job i → high job i j ≤ 100000000
highs_within job i s zero within = omega (arith, s.nothing_high)
highs_within job i s (suc j) within = omega (arith, (s.each_segment (suc j) (omega arith) within).within)

-- the bounds of a supplier's total, and how they lie to those of a segment in its range
pub record AreTotals (job : Job) (area : IntervalBox) (i : ℕ) : Type 0 where
  pub ordered : least_total job area i ≤ greatest_total job area i
  pub within : greatest_total job area i ≤ 100000000
  pub below : (j : ℕ) → Admits area i j → least_total job area i ≤ low job i j
  pub above : (j : ℕ) → Admits area i j → high job i j ≤ greatest_total job area i

pub totals_are : (job : Job) (area : IntervalBox) (i : ℕ) → i < suppliers job → IsRangeOf job area i → AreTotals job area i
unfolding least_total greatest_total
totals_are job area i supplier r =
    let s = (job_in_range job).each_supplier i supplier in
    let a = low_of area i in
    let b = high_of area i in
    record {
      ordered = omega (arith, ends_ordered job i s a (omega (arith, r.ordered, r.within)), highs_rise job i s a b r.ordered r.within);
      within = highs_within job i s b r.within;
      below = λ j admits. lows_rise job i s a j admits.from_low (omega (arith, admits.to_high, r.within));
      above = λ j admits. highs_rise job i s j b admits.to_high r.within;
    }

-- the bounds where nothing may be bought
pub least_total-none : (job : Job) (area : IntervalBox) (i : ℕ) → i < suppliers job → low_of area i ≡ 0 → least_total job area i ≡ 0
unfolding least_total
least_total-none job area i supplier none = omega (arith, ap (low job i) none, ((job_in_range job).each_supplier i supplier).nothing_low)

pub greatest_total-none : (job : Job) (area : IntervalBox) (i : ℕ) → i < suppliers job → high_of area i ≡ 0 → greatest_total job area i ≡ 0
unfolding greatest_total
greatest_total-none job area i supplier none = omega (arith, ap (high job i) none, ((job_in_range job).each_supplier i supplier).nothing_high)

-- there are no more suppliers than a box has places
pub supplier_few : (job : Job) (i : ℕ) → i < suppliers job → i < 64
supplier_few job i supplier = omega (arith, (job_in_range job).few_suppliers)
