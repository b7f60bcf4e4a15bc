-- Sums over numbers that stand for places of a table: row by row, `g` places in each.
use Rattle.std.proofs.Common.{ℕ, suc, zero, ◌≡◌, ◌≢◌, ◌+◌, ◌-◌, ◌*◌, ◌<◌, ◌≤◌, if◌then◌else◌, ℤ, ◌+ℤ◌, ap, subst, arith, inl, inr}
use Rattle.std.specs.Prelude.{nat_lt}
use Rattle.std.proofs.lemmas.Bool.{cases_lt, lt-ltb, le-ltb}
use Rattle.std.proofs.lemmas.Int.{ints}
use Rattle.std.proofs.lemmas.Nat.{mul-le}
use Rattle.tqd_base.specs.Sum.{sum_to, signed_sum_to}
use Rattle.mcf_lower.proofs.Sums.{sum_to-change}
use Rattle.tqd_instance.proofs.SumLemmas.{sum_to-zero, sum_to-suc, sum_to-zeros}
use Rattle.bound_tree.proofs.SignedSums.{signed_sum_to-zero, signed_sum_to-suc}

-- a sum in two parts
pub sum_to-cut : (m n : ℕ) (f : ℕ → ℕ) → sum_to (m + n) f ≡ sum_to m f + sum_to n (λ k. f (m + k))
sum_to-cut m zero f =
    let size : m + 0 ≡ m = omega arith in
    omega (arith, ap (λ k. sum_to k f) size, sum_to-zero (λ k. f (m + k)))
sum_to-cut m (suc n) f =
    let rest = sum_to-cut m n f in
    let size : m + suc n ≡ suc (m + n) = omega arith in
    omega (arith, ap (λ k. sum_to k f) size, sum_to-suc (m + n) f, sum_to-suc n (λ k. f (m + k)))

pub signed_sum_to-cut : (m n : ℕ) (f : ℕ → ℤ) → signed_sum_to (m + n) f ≡ signed_sum_to m f +ℤ signed_sum_to n (λ k. f (m + k))
signed_sum_to-cut m zero f =
    let size : m + 0 ≡ m = omega arith in
    omega (arith, ints, ap (λ k. signed_sum_to k f) size, signed_sum_to-zero (λ k. f (m + k)))
signed_sum_to-cut m (suc n) f =
    let rest = signed_sum_to-cut m n f in
    let size : m + suc n ≡ suc (m + n) = omega arith in
    omega (arith, ints, ap (λ k. signed_sum_to k f) size, signed_sum_to-suc (m + n) f, signed_sum_to-suc n (λ k. f (m + k)))

-- a sum over a table is the sum of its rows' sums
pub sum_to-rows : (n g : ℕ) (f : ℕ → ℕ) → sum_to (n * g) f ≡ sum_to n (λ i. sum_to g (λ k. f (i * g + k)))
sum_to-rows zero g f =
    let size : zero * g ≡ 0 = omega arith in
    omega (arith, ap (λ k. sum_to k f) size, sum_to-zero f, sum_to-zero (λ i. sum_to g (λ k. f (i * g + k))))
sum_to-rows (suc n) g f =
    let rest = sum_to-rows n g f in
    let size : suc n * g ≡ n * g + g = omega arith in
    omega (arith, ap (λ k. sum_to k f) size, sum_to-cut (n * g) g f, sum_to-suc n (λ i. sum_to g (λ k. f (i * g + k))))

pub signed_sum_to-rows : (n g : ℕ) (f : ℕ → ℤ) → signed_sum_to (n * g) f ≡ signed_sum_to n (λ i. signed_sum_to g (λ k. f (i * g + k)))
signed_sum_to-rows zero g f =
    let size : zero * g ≡ 0 = omega arith in
    omega (arith, ints, ap (λ k. signed_sum_to k f) size, signed_sum_to-zero f, signed_sum_to-zero (λ i. signed_sum_to g (λ k. f (i * g + k))))
signed_sum_to-rows (suc n) g f =
    let rest = signed_sum_to-rows n g f in
    let size : suc n * g ≡ n * g + g = omega arith in
    omega (arith, ints, ap (λ k. signed_sum_to k f) size, signed_sum_to-cut (n * g) g f, signed_sum_to-suc n (λ i. signed_sum_to g (λ k. f (i * g + k))))

-- a sum with one value that is not 0
pub sum_to-only : (n : ℕ) (f : ℕ → ℕ) (i : ℕ) → i < n → ((k : ℕ) → k < n → k ≢ i → f k ≡ 0) → sum_to n f ≡ f i
sum_to-only n f i below none =
    let change = sum_to-change n f (λ k. 0) i below none in
    let zeros = sum_to-zeros n (λ k. 0) (λ k b. omega arith) in
    omega arith

-- a place of an earlier row comes before the row
pub place_before : (n i g k : ℕ) → i < n → k < g → i * g + k < n * g
place_before n i g k before small =
    let rows : suc i * g ≤ n * g = mul-le (suc i) g n g (omega arith) (omega arith) in
    omega arith

-- the value that a table of n rows has at a place
abbrev pub flat : ℕ → (ℕ → ℕ → ℕ) → ℕ → ℕ → ℕ
flat g y zero b = 0
flat g y (suc n) b = if nat_lt b (n * g) then flat g y n b else y n (b - n * g)

pub flat-at : (g : ℕ) (y : ℕ → ℕ → ℕ) (n i k : ℕ) → i < n → k < g → flat g y n (i * g + k) ≡ y i k
flat-at g y zero i k below small = absurd (omega arith)
flat-at g y (suc n) i k below small = elim (cases_lt i n) [
  | inl before ↦
      (let inside = place_before n i g k before small in
      rw (lt-ltb (i * g + k) (n * g) inside) (flat-at g y n i k before small))
  | inr last ↦
      (let here : n ≡ i = omega arith in
      subst (λ (m : ℕ). (if nat_lt (i * g + k) (m * g) then flat g y m (i * g + k) else y m (i * g + k - m * g)) ≡ y i k) (ap (λ (m : ℕ). m) (omega (arith, here)))
      (last_row (i * g) k))
]
  where
    last_row : (r k : ℕ) → (if nat_lt (r + k) r then flat g y i (r + k) else y i (r + k - r)) ≡ y i k
    last_row r k =
        let rest : r + k - r ≡ k = omega arith in
        rw (le-ltb (r + k) r (omega arith)) (ap (y i) rest)

-- what holds at each place of each row holds at each place of the table
pub by_rows : (P : ℕ → Type 0) (n g : ℕ) → ((i k : ℕ) → i < n → k < g → P (i * g + k)) → (b : ℕ) → b < n * g → P b
by_rows P zero g each b below = absurd (omega arith)
by_rows P (suc n) g each b below = elim (cases_lt b (n * g)) [
  | inl before ↦ by_rows P n g (λ i k l s. each i k (omega arith) s) b before
  | inr past ↦
      (let at : n * g + (b - n * g) ≡ b = omega arith in
      subst P at (each n (b - n * g) (omega arith) (omega arith)))
]
