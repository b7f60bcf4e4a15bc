-- Laws of the product of a function's values at the first numbers.
use Rattle.std.proofs.Common.{ℕ, suc, zero, ◌≡◌, ◌+◌, ◌*◌, ◌<◌, ◌≤◌, arith, refl, ap, ◌∙◌, sym, inl, inr}
use Rattle.std.proofs.Math.Nat.{mul-add}
use Rattle.std.proofs.lemmas.Bool.{cases_lt}
use Rattle.interval_box.specs.Size.{product_to}

product_to-zero : (f : ℕ → ℕ) → product_to 0 f ≡ 1
unfolding product_to
product_to-zero f = refl

product_to-suc : (n : ℕ) (f : ℕ → ℕ) → product_to (suc n) f ≡ product_to n f * f n
unfolding product_to
product_to-suc n f = refl

-- functions that agree below n have the same product
product_to-same : (n : ℕ) (f g : ℕ → ℕ) → ((k : ℕ) → k < n → f k ≡ g k) → product_to n f ≡ product_to n g
product_to-same zero f g same = product_to-zero f ∙ sym (product_to-zero g)
product_to-same (suc n) f g same =
    let rest = product_to-same n f g (λ k below. same k (omega arith)) in
    let last = same n (omega arith) in
    let left = product_to-suc n f in
    let right = product_to-suc n g in
    cc

-- where f is the sum of g and h at one number, and all three agree elsewhere, the products add up
pub product_to-split : (n i : ℕ) (f g h : ℕ → ℕ) → i < n → g i + h i ≡ f i
    → ((k : ℕ) → (k ≡ i → ⊥) → g k ≡ f k) → ((k : ℕ) → (k ≡ i → ⊥) → h k ≡ f k)
    → product_to n g + product_to n h ≡ product_to n f
product_to-split zero i f g h below at g_other h_other = absurd (omega arith)
product_to-split (suc n) i f g h below at g_other h_other = elim (cases_lt i n) [
  | inl before ↦
      (let rest = product_to-split n i f g h before at g_other h_other in
      let g_last : g n ≡ f n = g_other n (λ e. omega arith) in
      let h_last : h n ≡ f n = h_other n (λ e. omega arith) in
      combine (product_to n f) (product_to n g) (product_to n h) (f n) (g n) (h n)
      (product_to (suc n) f) (product_to (suc n) g) (product_to (suc n) h)
      (product_to-suc n f) (product_to-suc n g) (product_to-suc n h) rest g_last h_last)
  | inr here ↦
      (let last : n ≡ i = omega arith in
      let g_same = product_to-same n g f (λ k less. g_other k (λ e. omega arith)) in
      let h_same = product_to-same n h f (λ k less. h_other k (λ e. omega arith)) in
      let sum : g n + h n ≡ f n = rw last at in
      join (product_to n f) (product_to n g) (product_to n h) (f n) (g n) (h n)
      (product_to (suc n) f) (product_to (suc n) g) (product_to (suc n) h)
      (product_to-suc n f) (product_to-suc n g) (product_to-suc n h) g_same h_same sum)
]
  where
    combine : (a b c x y z p q r : ℕ) → p ≡ a * x → q ≡ b * y → r ≡ c * z → b + c ≡ a → y ≡ x → z ≡ x → q + r ≡ p
    combine a b c x y z p q r e1 e2 e3 s ey ez =
        let second : q ≡ b * x = cc in
        let third : r ≡ c * x = cc in
        let both = ap (λ m. m * x) s in
        omega (arith, both)

    join : (a b c x y z p q r : ℕ) → p ≡ a * x → q ≡ b * y → r ≡ c * z → b ≡ a → c ≡ a → y + z ≡ x → q + r ≡ p
    join a b c x y z p q r e1 e2 e3 eb ec s =
        let second : q ≡ a * y = cc in
        let third : r ≡ a * z = cc in
        let both = ap (λ m. a * m) s in
        omega (arith, both)

-- a product of numbers from 1 up is at least 1
pub product_to-some : (n : ℕ) (f : ℕ → ℕ) → ((k : ℕ) → k < n → 1 ≤ f k) → 1 ≤ product_to n f
product_to-some zero f some = omega (arith, product_to-zero f)
product_to-some (suc n) f some =
    let rest = product_to-some n f (λ k below. some k (omega arith)) in
    let last = some n (omega arith) in
    let both = times_some (product_to n f) (f n) rest last in
    omega (arith, product_to-suc n f)
  where
    times_some : (a b : ℕ) → 1 ≤ a → 1 ≤ b → 1 ≤ a * b
    times_some zero b some_a some_b = absurd (omega arith)
    times_some (suc a) zero some_a some_b = absurd (omega arith)
    times_some (suc a) (suc b) some_a some_b = omega arith
