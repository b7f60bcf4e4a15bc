-- The first of the suppliers with the greatest gap.
use Rattle.std.proofs.Common.{ℕ, ◌≡◌, ◌+◌, ◌<◌, ◌≤◌, arith, ap, inl, inr}
use Rattle.std.proofs.lemmas.Bool.{cases_lt}
use Rattle.tqd_instance.specs.declared.job.Job.{Job}
use Rattle.tqd_instance.specs.Job.{suppliers}
use Rattle.tqd_instance.specs.Purchase.{Purchase}
use Rattle.interval_box.specs.declared.boxes.IntervalBox.{IntervalBox}
use Rattle.interval_box.specs.Ranges.{low_of, high_of, IsBoxOf, IsSingle}
use Rattle.branching.specs.Gap.{gap}
use Rattle.branching.specs.Chosen.{IsWide, HasGreatestGap}

-- where no supplier is wide the box is single
pub none_wide : (job : Job) (area : IntervalBox) (n : ℕ) → IsBoxOf job area → suppliers job ≤ n
    → ((k : ℕ) → k < n → IsWide job area k → ⊥) → IsSingle job area
none_wide job area n b all none i h = elim (cases_lt (low_of area i) (high_of area i)) [
  | inl wide ↦ absurd (none i (omega arith) (record { supplier = h; wide = wide }))
  | inr not_wide ↦ omega (arith, (b.ranges i h).ordered)
]

-- the greatest gap among the first n suppliers, at the first of those that have it
pub record IsGreatestTo (job : Job) (area : IntervalBox) (x : Purchase) (n i amount : ℕ) : Type 0 where
  pub itself : IsWide job area i
  pub before : i < n
  pub is_gap : amount ≡ gap job area x i
  pub greatest : (k : ℕ) → k < n → IsWide job area k → gap job area x k ≤ amount
  pub first : (k : ℕ) → k < i → IsWide job area k → gap job area x k < amount

pub greatest_begins : (job : Job) (area : IntervalBox) (x : Purchase) (i amount : ℕ) → IsWide job area i
    → ((k : ℕ) → k < i → IsWide job area k → ⊥) → amount ≡ gap job area x i → IsGreatestTo job area x (i + 1) i amount
greatest_begins job area x i amount w none is = record {
  itself = w;
  before = omega arith;
  is_gap = is;
  greatest = λ k below wide. at_most job area x i k amount is (λ less. none k less wide) (omega arith);
  first = λ k less wide. absurd (none k less wide);
}
  where
    at_most : (job : Job) (area : IntervalBox) (x : Purchase) (i k amount : ℕ) → amount ≡ gap job area x i → (k < i → ⊥) → k ≤ i
        → gap job area x k ≤ amount
    at_most job area x i k amount is not_before within =
        let same : k ≡ i = omega arith in
        omega (arith, ap (gap job area x) same)

-- one supplier more, which is not wide
pub greatest_skips : (job : Job) (area : IntervalBox) (x : Purchase) (n i amount : ℕ) → IsGreatestTo job area x n i amount
    → (low_of area n < high_of area n → ⊥) → IsGreatestTo job area x (n + 1) i amount
greatest_skips job area x n i amount g not_wide = record {
  itself = g.itself;
  before = omega (arith, g.before);
  is_gap = g.is_gap;
  greatest = λ k below wide. elim (cases_lt k n) [
    | inl less ↦ g.greatest k less wide
    | inr here ↦ (let same : k ≡ n = omega arith in absurd (not_wide (omega (arith, wide.wide, ap (low_of area) same, ap (high_of area) same))))
  ];
  first = g.first;
}

-- one supplier more, whose gap is no greater
pub greatest_stays : (job : Job) (area : IntervalBox) (x : Purchase) (n i amount here : ℕ) → IsGreatestTo job area x n i amount
    → here ≡ gap job area x n → here ≤ amount → IsGreatestTo job area x (n + 1) i amount
greatest_stays job area x n i amount here g is le = record {
  itself = g.itself;
  before = omega (arith, g.before);
  is_gap = g.is_gap;
  greatest = λ k below wide. elim (cases_lt k n) [
    | inl less ↦ g.greatest k less wide
    | inr last ↦ (let same : k ≡ n = omega arith in omega (arith, ap (gap job area x) same))
  ];
  first = g.first;
}

-- one supplier more, whose gap is greater
pub greatest_moves : (job : Job) (area : IntervalBox) (x : Purchase) (n i amount here : ℕ) → IsGreatestTo job area x n i amount
    → IsWide job area n → here ≡ gap job area x n → amount < here → IsGreatestTo job area x (n + 1) n here
greatest_moves job area x n i amount here g w is more = record {
  itself = w;
  before = omega arith;
  is_gap = is;
  greatest = λ k below wide. elim (cases_lt k n) [
    | inl less ↦ omega (arith, g.greatest k less wide)
    | inr last ↦ (let same : k ≡ n = omega arith in omega (arith, ap (gap job area x) same))
  ];
  first = λ k less wide. omega (arith, g.greatest k less wide);
}

pub greatest_ends : (job : Job) (area : IntervalBox) (x : Purchase) (n i amount : ℕ) → suppliers job ≤ n
    → IsGreatestTo job area x n i amount → HasGreatestGap job area x i
greatest_ends job area x n i amount all g = record {
  itself = g.itself;
  greatest = λ k wide. omega (arith, g.greatest k (omega (arith, wide.supplier)) wide, g.is_gap);
  first = λ k less wide. omega (arith, g.first k less wide, g.is_gap);
}
