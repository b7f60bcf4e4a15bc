-- Laws of signed sums and of least values.
use Rattle.std.proofs.Common.{ℕ, suc, zero, ◌≡◌, ◌+◌, ◌<◌, ◌≤◌, ℤ, pos, ◌+ℤ◌, ◌≤ℤ◌, refl, ap, sym, ◌∙◌, arith, add-one, inl, inr}
use Rattle.std.specs.Int.{int_min}
use Rattle.std.proofs.lemmas.Bool.{cases_lt}
use Rattle.std.proofs.lemmas.Int.{ints, clamps}
use Rattle.tqd_instance.proofs.SumLemmas.{sum_to-zero, sum_to-suc}
use Rattle.tqd_base.specs.Sum.{sum_to, signed_sum_to}
use Rattle.bound_tree.specs.LeastFrom.{least_from}

pub signed_sum_to-zero : (f : ℕ → ℤ) → signed_sum_to 0 f ≡ pos 0
signed_sum_to-zero f = refl

pub signed_sum_to-suc : (n : ℕ) (f : ℕ → ℤ) → signed_sum_to (suc n) f ≡ signed_sum_to n f +ℤ f n
signed_sum_to-suc n f = refl

pub signed_sum_to-more : (n : ℕ) (f : ℕ → ℤ) → signed_sum_to (n + 1) f ≡ signed_sum_to n f +ℤ f n
signed_sum_to-more n f = ap (λ m. signed_sum_to m f) (add-one n) ∙ signed_sum_to-suc n f

pub signed_sum_to-same : (n : ℕ) (f g : ℕ → ℤ) → ((k : ℕ) → k < n → f k ≡ g k) → signed_sum_to n f ≡ signed_sum_to n g
signed_sum_to-same zero f g same = signed_sum_to-zero f ∙ sym (signed_sum_to-zero g)
signed_sum_to-same (suc n) f g same =
    let rest = signed_sum_to-same n f g (λ k below. same k (omega arith)) in
    let last = same n (omega arith) in
    omega (arith, ints, signed_sum_to-suc n f, signed_sum_to-suc n g)

pub signed_sum_to-le : (n : ℕ) (f g : ℕ → ℤ) → ((k : ℕ) → k < n → f k ≤ℤ g k) → signed_sum_to n f ≤ℤ signed_sum_to n g
signed_sum_to-le zero f g le = omega (arith, ints, signed_sum_to-zero f, signed_sum_to-zero g)
signed_sum_to-le (suc n) f g le =
    let rest = signed_sum_to-le n f g (λ k below. le k (omega arith)) in
    let last = le n (omega arith) in
    omega (arith, ints, signed_sum_to-suc n f, signed_sum_to-suc n g)

-- what bounds each value between natural numbers bounds the sum between their sums
pub signed_sum_to-between : (n : ℕ) (f : ℕ → ℤ) (a b : ℕ → ℕ) → ((k : ℕ) → k < n → (f k +ℤ pos (a k)) ≤ℤ pos (b k))
    → (signed_sum_to n f +ℤ pos (sum_to n a)) ≤ℤ pos (sum_to n b)
signed_sum_to-between zero f a b le = omega (arith, ints, signed_sum_to-zero f, sum_to-zero a, sum_to-zero b)
signed_sum_to-between (suc n) f a b le =
    let rest = signed_sum_to-between n f a b (λ k below. le k (omega arith)) in
    let last = le n (omega arith) in
    omega (arith, ints, signed_sum_to-suc n f, sum_to-suc n a, sum_to-suc n b)

pub least_from-zero : (a : ℕ) (f : ℕ → ℤ) → least_from a 0 f ≡ f a
unfolding least_from
least_from-zero a f = refl

pub least_from-suc : (a n : ℕ) (f : ℕ → ℤ) → least_from a (suc n) f ≡ int_min (least_from a n f) (f (a + suc n))
unfolding least_from
least_from-suc a n f = refl

pub least_from-more : (a n : ℕ) (f : ℕ → ℤ) → least_from a (n + 1) f ≡ int_min (least_from a n f) (f (a + (n + 1)))
least_from-more a n f = ap (λ m. least_from a m f) (add-one n) ∙ least_from-suc a n f ∙ ap (λ m. int_min (least_from a n f) (f (a + m))) (sym (add-one n))

-- the least is at most each value
pub least_from-le : (a n : ℕ) (f : ℕ → ℤ) (j : ℕ) → a ≤ j → j ≤ a + n → least_from a n f ≤ℤ f j
least_from-le a zero f j from to =
    let here : a ≡ j = omega arith in
    omega (arith, ints, least_from-zero a f, ap f here)
least_from-le a (suc n) f j from to = elim (cases_lt (a + n) j) [
  | inl above ↦ (let here : a + suc n ≡ j = omega arith in omega (arith, ints, clamps, least_from-suc a n f, ap f here))
  | inr within ↦ (let rest = least_from-le a n f j from within in omega (arith, ints, clamps, least_from-suc a n f))
]

-- a number at most each value is at most the least
pub le-least_from : (a n : ℕ) (f : ℕ → ℤ) (z : ℤ) → ((j : ℕ) → a ≤ j → j ≤ a + n → z ≤ℤ f j) → z ≤ℤ least_from a n f
le-least_from a zero f z le =
    let here = le a (omega arith) (omega arith) in
    omega (arith, ints, least_from-zero a f)
le-least_from a (suc n) f z le =
    let rest = le-least_from a n f z (λ j from to. le j from (omega arith)) in
    let last = le (a + suc n) (omega arith) (omega arith) in
    omega (arith, ints, clamps, least_from-suc a n f)

-- the steps of a loop that adds up
pub ruleset signed_sums = (signed_sum_to-zero, signed_sum_to-more)
