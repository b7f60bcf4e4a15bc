-- The first number that passes a test.
use Rattle.std.proofs.Common.{ℕ, suc, zero, ◌≡◌, ◌<◌, ◌⊎◌, Bool, true, false, Option, Some, None, if◌then◌else◌, refl, ap, sym, ◌∙◌, arith, inl, inr}
use Rattle.std.proofs.lemmas.Bool.{cases_lt}
use Rattle.std.proofs.lemmas.Option.{same_Some}
use Rattle.tree_checker.specs.Standing.{or_else, first_to}

pub first_to-none : (n : ℕ) (test : ℕ → Bool) → ((k : ℕ) → k < n → test k ≡ false) → first_to n test ≡ None
unfolding first_to
first_to-none zero test fails = refl
first_to-none (suc n) test fails =
    let before = first_to-none n test (λ k below. fails k (omega arith)) in
    let here = fails n (omega arith) in
    rw (before, here) refl

pub first_to-some : (n : ℕ) (test : ℕ → Bool) (k : ℕ) → k < n → test k ≡ true → ((j : ℕ) → j < k → test j ≡ false) → first_to n test ≡ Some k
unfolding first_to
first_to-some zero test k below passes first = absurd (omega arith)
first_to-some (suc n) test k below passes first = elim (cases_lt k n) [
  | inl before ↦ (let found = first_to-some n test k before passes first in rw found refl)
  | inr past ↦ (
      let same : k ≡ n = omega arith in
      let here : test n ≡ true = ap test (sym same) ∙ passes in
      let none = first_to-none n test (λ j less. first j (omega arith)) in
      rw (none, here) (ap Some (sym same)))
]

pub first_to-same : (n : ℕ) (f g : ℕ → Bool) → ((k : ℕ) → k < n → f k ≡ g k) → first_to n f ≡ first_to n g
unfolding first_to
first_to-same zero f g same = refl
first_to-same (suc n) f g same =
    let before = first_to-same n f g (λ k below. same k (omega arith)) in
    let here = same n (omega arith) in
    rw (before, here) refl

or_else-cases : (o p : Option ℕ) (k : ℕ) → or_else o p ≡ Some k → (o ≡ Some k) ⊎ (p ≡ Some k)
or_else-cases None p k is = inr is
or_else-cases (Some a) p k is = inl is

if_some : (b : Bool) (n k : ℕ) → (if b then Some n else None) ≡ Some k → n ≡ k
if_some true n k is = same_Some n k is
if_some false n k is = absurd (cc)

pub first_to-below : (n : ℕ) (test : ℕ → Bool) (k : ℕ) → first_to n test ≡ Some k → k < n
unfolding first_to
first_to-below zero test k is = absurd (cc)
first_to-below (suc n) test k is = elim (or_else-cases (first_to n test) (if test n then Some n else None) k is) [
  | inl before ↦ (let less = first_to-below n test k before in omega arith)
  | inr here ↦ (let same = if_some (test n) n k here in omega arith)
]
