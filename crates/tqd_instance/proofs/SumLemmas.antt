-- Laws of the sum of a function's values at the first numbers.
use Rattle.std.proofs.Common.{ℕ, suc, zero, ◌≡◌, ◌+◌, ◌*◌, ◌<◌, ◌≤◌, arith, refl, ap, ◌∙◌, sym, add-one, inl, inr}
use Rattle.std.proofs.Math.Nat.{mul-add}
use Rattle.std.proofs.lemmas.Bool.{cases_lt}
use Rattle.tqd_base.specs.Sum.{sum_to}

pub sum_to-zero : (f : ℕ → ℕ) → sum_to 0 f ≡ 0
sum_to-zero f = refl

pub sum_to-suc : (n : ℕ) (f : ℕ → ℕ) → sum_to (suc n) f ≡ sum_to n f + f n
sum_to-suc n f = refl

pub sum_to-more : (n : ℕ) (f : ℕ → ℕ) → sum_to (n + 1) f ≡ sum_to n f + f n
sum_to-more n f = ap (λ m. sum_to m f) (add-one n) ∙ sum_to-suc n f

-- functions that agree below n have the same sum
pub sum_to-same : (n : ℕ) (f g : ℕ → ℕ) → ((k : ℕ) → k < n → f k ≡ g k) → sum_to n f ≡ sum_to n g
sum_to-same zero f g same = sum_to-zero f ∙ sym (sum_to-zero g)
sum_to-same (suc n) f g same =
    let rest = sum_to-same n f g (λ k below. same k (omega arith)) in
    let last = same n (omega arith) in
    omega (arith, sum_to-suc n f, sum_to-suc n g)

-- a function that is nowhere above another below n has no greater sum
pub sum_to-le : (n : ℕ) (f g : ℕ → ℕ) → ((k : ℕ) → k < n → f k ≤ g k) → sum_to n f ≤ sum_to n g
sum_to-le zero f g le = omega (arith, sum_to-zero f)
sum_to-le (suc n) f g le =
    let rest = sum_to-le n f g (λ k below. le k (omega arith)) in
    let last = le n (omega arith) in
    omega (arith, sum_to-suc n f, sum_to-suc n g)

pub sum_to-add : (n : ℕ) (f g : ℕ → ℕ) → sum_to n (λ k. f k + g k) ≡ sum_to n f + sum_to n g
sum_to-add zero f g = omega (arith, sum_to-zero f, sum_to-zero g, sum_to-zero (λ k. f k + g k))
sum_to-add (suc n) f g =
    let rest = sum_to-add n f g in
    omega (arith, sum_to-suc n f, sum_to-suc n g, sum_to-suc n (λ k. f k + g k))

pub sum_to-mul : (n c : ℕ) (f : ℕ → ℕ) → sum_to n (λ k. c * f k) ≡ c * sum_to n f
sum_to-mul zero c f = omega (arith, sum_to-zero f, sum_to-zero (λ k. c * f k), ap (λ s. c * s) (sum_to-zero f))
sum_to-mul (suc n) c f =
    let rest = sum_to-mul n c f in
    omega (arith, sum_to-suc n (λ k. c * f k), ap (λ s. c * s) (sum_to-suc n f), mul-add c (sum_to n f) (f n))

-- values of at most m have a sum of at most n times m
pub sum_to-bound : (n m : ℕ) (f : ℕ → ℕ) → ((k : ℕ) → k < n → f k ≤ m) → sum_to n f ≤ n * m
sum_to-bound zero m f le = omega (arith, sum_to-zero f)
sum_to-bound (suc n) m f le =
    let rest = sum_to-bound n m f (λ k below. le k (omega arith)) in
    let last = le n (omega arith) in
    omega (arith, sum_to-suc n f)

-- a sum is at least the sum of fewer values, and at least each of its values
pub sum_to-longer : (m n : ℕ) (f : ℕ → ℕ) → m ≤ n → sum_to m f ≤ sum_to n f
sum_to-longer m zero f le =
    let same : m ≡ zero = omega arith in
    omega (arith, ap (λ k. sum_to k f) same)
sum_to-longer m (suc n) f le = elim (cases_lt n m) [
  | inl above ↦ (let same : m ≡ suc n = omega arith in omega (arith, ap (λ k. sum_to k f) same))
  | inr within ↦ omega (arith, sum_to-suc n f, sum_to-longer m n f within)
]

pub sum_to-term : (n : ℕ) (f : ℕ → ℕ) (k : ℕ) → k < n → f k ≤ sum_to n f
sum_to-term n f k below = omega (arith, sum_to-suc k f, sum_to-longer (suc k) n f (omega arith))

-- a sum of 0 has no value but 0
pub sum_to-none : (n : ℕ) (f : ℕ → ℕ) → sum_to n f ≡ 0 → (k : ℕ) → k < n → f k ≡ 0
sum_to-none n f none k below = omega (arith, sum_to-term n f k below)

-- the sum of zeros is 0
pub sum_to-zeros : (n : ℕ) (f : ℕ → ℕ) → ((k : ℕ) → k < n → f k ≡ 0) → sum_to n f ≡ 0
sum_to-zeros zero f zeros = sum_to-zero f
sum_to-zeros (suc n) f zeros =
    let rest = sum_to-zeros n f (λ k below. zeros k (omega arith)) in
    let last = zeros n (omega arith) in
    omega (arith, sum_to-suc n f)

-- rows summed and added up are columns summed and added up
pub sum_to-swap : (m n : ℕ) (f : ℕ → ℕ → ℕ) → sum_to m (λ i. sum_to n (f i)) ≡ sum_to n (λ k. sum_to m (λ i. f i k))
sum_to-swap zero n f =
    sum_to-zero (λ i. sum_to n (f i)) ∙ sym (sum_to-zeros n (λ k. sum_to zero (λ i. f i k)) (λ k below. sum_to-zero (λ i. f i k)))
sum_to-swap (suc m) n f =
    let rest = sum_to-swap m n f in
    let joined = sum_to-add n (λ k. sum_to m (λ i. f i k)) (f m) in
    let split = sum_to-same n (λ k. sum_to (suc m) (λ i. f i k)) (λ k. sum_to m (λ i. f i k) + f m k) (λ k below. sum_to-suc m (λ i. f i k)) in
    omega (arith, sum_to-suc m (λ i. sum_to n (f i)))

-- the steps of a loop that adds up
pub ruleset sums = (sum_to-zero, sum_to-more)
