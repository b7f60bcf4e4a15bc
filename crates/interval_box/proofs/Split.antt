-- The halves of a proper split of a box of a job.
use Rattle.std.proofs.Common.{ℕ, ◌≡◌, ◌+◌, ◌-◌, ◌<◌, ◌≤◌, ◌⊎◌, length, Some, arith, ap, inl, inr, length-set}
use Rattle.std.proofs.lemmas.Bool.{cases_lt, cases_eq}
use Rattle.std.proofs.lemmas.Option.{same_Some}
use Rattle.tqd_instance.specs.declared.job.Job.{Job}
use Rattle.tqd_instance.specs.Job.{suppliers, pick}
use Rattle.tqd_instance.specs.Purchase.{Purchase, total}
use Rattle.tqd_instance.proofs.Jobs.{job_in_range}
use Rattle.interval_box.specs.declared.boxes.IntervalBox.{IntervalBox}
use Rattle.interval_box.specs.Ranges.{low_of, high_of, Admits, IsRangeOf, IsUnused, IsBoxOf, IsIn}
use Rattle.interval_box.specs.Halves.{IsProper, low_half, high_half, IsInOneHalf, Splits}
use Rattle.interval_box.specs.Size.{width, size}
use Rattle.interval_box.proofs.Places.{low_half-low, low_half-high, low_half-high_other, high_half-high, high_half-low, high_half-low_other, low_admits, high_admits, admits_low, admits_high}
use Rattle.interval_box.proofs.Picked.{Picked, picked, picks}
use Rattle.interval_box.proofs.Products.{product_to-split, product_to-some}

-- a proper split is at a supplier of the job, and so at a place of both lists
pub record IsPlace (job : Job) (area : IntervalBox) (i : ℕ) : Type 0 where
  pub supplier : i < suppliers job
  pub low : i < length area.lows
  pub high : i < length area.highs

pub place : (job : Job) (area : IntervalBox) (i s : ℕ) → IsBoxOf job area → IsProper area i s → IsPlace job area i
place job area i s b p =
    let few = (job_in_range job).few_suppliers in
    let at : i < suppliers job = elim (cases_lt i (suppliers job)) [
      | inl less ↦ less
      | inr past ↦ absurd (omega (arith, (b.others i past).high, p.below_high))
    ] in
    record { supplier = at; low = omega (arith, b.low_places); high = omega (arith, b.high_places) }

low_range : (job : Job) (area : IntervalBox) (i s : ℕ) → IsBoxOf job area → IsProper area i s → (k : ℕ) → k < suppliers job → IsRangeOf job (low_half area i s) k
low_range job area i s b p k below =
    let at = place job area i s b p in
    let r = b.ranges k below in
    elim (cases_eq k i) [
      | inl here ↦ record {
        ordered = omega (arith, low_half-low area i s k, low_half-high area i s k here at.high, ap (low_of area) here, p.from_low);
        within = omega (arith, low_half-high area i s k here at.high, ap (high_of area) here, p.below_high, r.within);
      }
      | inr other ↦ record {
        ordered = omega (arith, low_half-low area i s k, low_half-high_other area i s k other, r.ordered);
        within = omega (arith, low_half-high_other area i s k other, r.within);
      }
    ]

high_range : (job : Job) (area : IntervalBox) (i s : ℕ) → IsBoxOf job area → IsProper area i s → (k : ℕ) → k < suppliers job → IsRangeOf job (high_half area i s) k
high_range job area i s b p k below =
    let at = place job area i s b p in
    let r = b.ranges k below in
    elim (cases_eq k i) [
      | inl here ↦ record {
        ordered = omega (arith, high_half-high area i s k, high_half-low area i s k here at.low, ap (high_of area) here, p.below_high);
        within = omega (arith, high_half-high area i s k, r.within);
      }
      | inr other ↦ record {
        ordered = omega (arith, high_half-high area i s k, high_half-low_other area i s k other, r.ordered);
        within = omega (arith, high_half-high area i s k, r.within);
      }
    ]

pub low_is_box : (job : Job) (area : IntervalBox) (i s : ℕ) → IsBoxOf job area → IsProper area i s → IsBoxOf job (low_half area i s)
unfolding low_half
low_is_box job area i s b p =
    let at = place job area i s b p in
    record {
      low_places = b.low_places;
      high_places = omega (arith, length-set area.highs i s, b.high_places);
      ranges = low_range job area i s b p;
      others = λ k past.
          let other : k ≡ i → ⊥ = λ e. omega (arith, at.supplier) in
          record {
            low = omega (arith, low_half-low area i s k, (b.others k past).low);
            high = omega (arith, low_half-high_other area i s k other, (b.others k past).high);
          };
    }

pub high_is_box : (job : Job) (area : IntervalBox) (i s : ℕ) → IsBoxOf job area → IsProper area i s → IsBoxOf job (high_half area i s)
unfolding high_half
high_is_box job area i s b p =
    let at = place job area i s b p in
    record {
      low_places = omega (arith, length-set area.lows i (s + 1), b.low_places);
      high_places = b.high_places;
      ranges = high_range job area i s b p;
      others = λ k past.
          let other : k ≡ i → ⊥ = λ e. omega (arith, at.supplier) in
          record {
            low = omega (arith, high_half-low_other area i s k other, (b.others k past).low);
            high = omega (arith, high_half-high area i s k, (b.others k past).high);
          };
    }

low_in : (job : Job) (area : IntervalBox) (i s : ℕ) (x : Purchase) → IsBoxOf job area → IsProper area i s → IsIn job (low_half area i s) x → IsIn job area x
low_in job area i s x b p inside k below =
    let at = place job area i s b p in
    let q = picked job (low_half area i s) x k (inside k below) in
    picks job area x k (record { number = q.number; is = q.is; admitted = low_admits area i s k q.number at.high p.below_high q.admitted })

high_in : (job : Job) (area : IntervalBox) (i s : ℕ) (x : Purchase) → IsBoxOf job area → IsProper area i s → IsIn job (high_half area i s) x → IsIn job area x
high_in job area i s x b p inside k below =
    let at = place job area i s b p in
    let q = picked job (high_half area i s) x k (inside k below) in
    picks job area x k (record { number = q.number; is = q.is; admitted = high_admits area i s k q.number at.low p.from_low q.admitted })

-- two picks of one supplier are the same
same_pick : (job : Job) (x : Purchase) (i k m n : ℕ) → k ≡ i → pick job k (total job x k) ≡ Some m → pick job i (total job x i) ≡ Some n → m ≡ n
same_pick job x i k m n here first second =
    let along = ap (λ a. pick job a (total job x a)) here in
    same_Some m n (cc)

in_either : (job : Job) (area : IntervalBox) (i s : ℕ) (x : Purchase) → IsBoxOf job area → IsProper area i s → IsIn job area x
    → IsIn job (low_half area i s) x ⊎ IsIn job (high_half area i s) x
in_either job area i s x b p inside =
    let at = place job area i s b p in
    let here = picked job area x i (inside i at.supplier) in
    elim (cases_lt s here.number) [
      | inl above ↦ inr (λ k below.
          let q = picked job area x k (inside k below) in
          let side : k ≡ i → s < q.number = λ e. omega (arith, same_pick job x i k q.number here.number e q.is here.is) in
          picks job (high_half area i s) x k (record { number = q.number; is = q.is; admitted = admits_high area i s k q.number at.low side q.admitted }))
      | inr up_to ↦ inl (λ k below.
          let q = picked job area x k (inside k below) in
          let side : k ≡ i → q.number ≤ s = λ e. omega (arith, same_pick job x i k q.number here.number e q.is here.is) in
          picks job (low_half area i s) x k (record { number = q.number; is = q.is; admitted = admits_low area i s k q.number at.high side q.admitted }))
    ]

not_both : (job : Job) (area : IntervalBox) (i s : ℕ) (x : Purchase) → IsBoxOf job area → IsProper area i s
    → IsIn job (low_half area i s) x → IsIn job (high_half area i s) x → ⊥
not_both job area i s x b p lower upper =
    let at = place job area i s b p in
    let m = picked job (low_half area i s) x i (lower i at.supplier) in
    let n = picked job (high_half area i s) x i (upper i at.supplier) in
    let same = same_Some m.number n.number (let e = m.is in let f = n.is in cc) in
    let refl_i : i ≡ i = omega arith in
    omega (arith, low_half-high area i s i refl_i at.high, high_half-low area i s i refl_i at.low, m.admitted.to_high, n.admitted.from_low)

pub in_one_half : (job : Job) (area : IntervalBox) (i s : ℕ) (x : Purchase) → IsBoxOf job area → IsProper area i s → IsInOneHalf job area i s x
in_one_half job area i s x b p = record {
  either = (in_either job area i s x b p, λ h. elim h [ inl lower ↦ low_in job area i s x b p lower | inr upper ↦ high_in job area i s x b p upper ]);
  not_both = not_both job area i s x b p;
}

widths_at : (job : Job) (area : IntervalBox) (i s : ℕ) → IsBoxOf job area → IsProper area i s
    → width (low_half area i s) i + width (high_half area i s) i ≡ width area i
unfolding width
widths_at job area i s b p =
    let at = place job area i s b p in
    let refl_i : i ≡ i = omega arith in
    omega (arith, low_half-low area i s i, low_half-high area i s i refl_i at.high, high_half-high area i s i, high_half-low area i s i refl_i at.low, p.from_low, p.below_high)

low_width : (area : IntervalBox) (i s k : ℕ) → (k ≡ i → ⊥) → width (low_half area i s) k ≡ width area k
unfolding width
low_width area i s k other =
    let l = low_half-low area i s k in
    let h = low_half-high_other area i s k other in
    rw (l, h)

high_width : (area : IntervalBox) (i s k : ℕ) → (k ≡ i → ⊥) → width (high_half area i s) k ≡ width area k
unfolding width
high_width area i s k other =
    let h = high_half-high area i s k in
    let l = high_half-low_other area i s k other in
    rw (l, h)

pub sizes_add : (job : Job) (area : IntervalBox) (i s : ℕ) → IsBoxOf job area → IsProper area i s
    → size job (low_half area i s) + size job (high_half area i s) ≡ size job area
unfolding size
sizes_add job area i s b p =
    let at = place job area i s b p in
    product_to-split (suppliers job) i (width area) (width (low_half area i s)) (width (high_half area i s)) at.supplier
    (widths_at job area i s b p) (low_width area i s) (high_width area i s)

pub splits : (job : Job) (area : IntervalBox) (i s : ℕ) → IsBoxOf job area → IsProper area i s → Splits job area i s
splits job area i s b p = record {
  low_is_box = low_is_box job area i s b p;
  high_is_box = high_is_box job area i s b p;
  cover = λ x. in_one_half job area i s x b p;
  sizes = sizes_add job area i s b p;
}

pub size_some : (job : Job) (area : IntervalBox) → IsBoxOf job area → 1 ≤ size job area
unfolding size width
size_some job area b = product_to-some (suppliers job) (width area) (λ i below. omega (arith, (b.ranges i below).ordered))
