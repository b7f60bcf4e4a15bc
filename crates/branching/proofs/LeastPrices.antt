-- The least of a function's values at numbers in a row.
use Rattle.std.proofs.Common.{ℕ, suc, zero, ◌≡◌, ◌+◌, ◌-◌, ◌<◌, ◌≤◌, min, max, arith, refl, ap, sym, ◌∙◌, inl, inr}
use Rattle.std.proofs.lemmas.Bool.{cases_lt}
use Rattle.tqd_base.specs.declared.limits.TheConstants.{PRICE_MAX}
use Rattle.tqd_instance.specs.declared.job.Job.{Job}
use Rattle.tqd_instance.specs.Job.{suppliers, segments, price}
use Rattle.tqd_instance.proofs.Jobs.{job_in_range}
use Rattle.interval_box.specs.declared.boxes.IntervalBox.{IntervalBox}
use Rattle.interval_box.specs.Ranges.{low_of, high_of, IsBoxOf}
use Rattle.branching.specs.Gap.{least_from, first_of, relaxed_price}

pub least_from-zero : (a : ℕ) (f : ℕ → ℕ) → least_from a 0 f ≡ f a
unfolding least_from
least_from-zero a f = refl

pub least_from-suc : (a n : ℕ) (f : ℕ → ℕ) → least_from a (suc n) f ≡ min (least_from a n f) (f (a + suc n))
unfolding least_from
least_from-suc a n f = refl

-- the least of f a up to f (b - 1)
pub record IsLeastBelow (f : ℕ → ℕ) (a b amount : ℕ) : Type 0 where
  pub some : a < b
  pub value : amount ≡ least_from a (b - (a + 1)) f
  pub least : (j : ℕ) → a ≤ j → j < b → amount ≤ f j

pub least_begins : (f : ℕ → ℕ) (a value : ℕ) → value ≡ f a → IsLeastBelow f a (a + 1) value
least_begins f a value is = record {
  some = omega arith;
  value = (let none : a + 1 - (a + 1) ≡ 0 = omega arith in rw none (is ∙ sym (least_from-zero a f)));
  least = λ j from below. (let here : j ≡ a = omega arith in omega (arith, ap f here));
}

pub least_goes_on : (f : ℕ → ℕ) (a b least value next : ℕ) → IsLeastBelow f a b least → value ≡ f b → next ≡ min least value
    → IsLeastBelow f a (b + 1) next
least_goes_on f a b least value next l is e =
    let more : b + 1 - (a + 1) ≡ suc (b - (a + 1)) = omega (arith, l.some) in
    let last : a + suc (b - (a + 1)) ≡ b = omega (arith, l.some) in
    let step = least_from-suc a (b - (a + 1)) f in
    record {
      some = omega (arith, l.some);
      value = rw more (omega (arith, step, ap f last, l.value));
      least = λ j from below. least_at f b j least value next is e (l.least j from) (omega arith);
    }
  where
    least_at : (f : ℕ → ℕ) (b j least value next : ℕ) → value ≡ f b → next ≡ min least value → (j < b → least ≤ f j) → j ≤ b → next ≤ f j
    least_at f b j least value next is e before within = elim (cases_lt j b) [
      | inl less ↦ omega (arith, before less)
      | inr here ↦ (let same : j ≡ b = omega arith in omega (arith, ap f same))
    ]

-- a range ends at a segment that the supplier has
pub high_few : (job : Job) (area : IntervalBox) (i : ℕ) → IsBoxOf job area → i < suppliers job → high_of area i ≤ 16
high_few job area i b h = omega (arith, ((job_in_range job).each_supplier i h).few, (b.ranges i h).within)

pub first_is : (area : IntervalBox) (i low first : ℕ) → low ≡ low_of area i → first ≡ max low 1 → first ≡ first_of area i
unfolding first_of
first_is area i low first a b = omega (arith, a, b)

pub relaxed_price-is : (job : Job) (area : IntervalBox) (i k first last least : ℕ) → first ≡ first_of area i → last ≡ high_of area i + 1
    → IsLeastBelow (λ j. price job i j k) first last least → least ≡ relaxed_price job area i k
unfolding relaxed_price
relaxed_price-is job area i k first last least a b l =
    let count : last - (first + 1) ≡ high_of area i - first_of area i = omega arith in
    l.value ∙ ap (λ n. least_from first n (λ j. price job i j k)) count ∙ ap (λ m. least_from m (high_of area i - first_of area i) (λ j. price job i j k)) a
