use Rattle.std.proofs.Common.{◌≡◌, ℕ, zero, suc, ◌+◌, ◌*◌, ◌<◌, ◌≤◌, ◌≢◌, ◌==◌, if◌then◌else◌, refl, sym, ap, ⊎_elim, arith, ℤ, pos, ◌-ℤ◌}
use Rattle.std.proofs.lemmas.Bool.{cases_eq}
use Rattle.std.proofs.lemmas.Bool.Decides.{nat_tests}
use Rattle.std.proofs.lemmas.Int.{ints}
use Rattle.tqd_base.specs.Sum.{sum_to, signed_sum_to}

pub sum_to-ext : (n : ℕ) (f g : ℕ → ℕ) → ((k : ℕ) → k < n → f k ≡ g k) → sum_to n f ≡ sum_to n g
sum_to-ext zero f g h = refl
sum_to-ext (suc n) f g h = let e = sum_to-ext n f g (λ k l. h k (omega arith)) in let d = h n (omega arith) in omega arith

pub sum_to-le : (n : ℕ) (f g : ℕ → ℕ) → ((k : ℕ) → k < n → f k ≤ g k) → sum_to n f ≤ sum_to n g
sum_to-le zero f g h = omega arith
sum_to-le (suc n) f g h = let e = sum_to-le n f g (λ k l. h k (omega arith)) in let d = h n (omega arith) in omega arith

pub sum_to-add : (n : ℕ) (f g : ℕ → ℕ) → sum_to n (λ k. f k + g k) ≡ sum_to n f + sum_to n g
sum_to-add zero f g = refl
sum_to-add (suc n) f g = let e = sum_to-add n f g in omega arith

pub sum_to-zero : (n : ℕ) (f : ℕ → ℕ) → ((k : ℕ) → k < n → f k ≡ 0) → sum_to n f ≡ 0
sum_to-zero zero f h = refl
sum_to-zero (suc n) f h = let e = sum_to-zero n f (λ k l. h k (omega arith)) in let d = h n (omega arith) in omega arith

pub term-le-sum_to : (n : ℕ) (f : ℕ → ℕ) (i : ℕ) → i < n → f i ≤ sum_to n f
term-le-sum_to zero f i l = omega arith
term-le-sum_to (suc n) f i l = ⊎_elim
    (λ (e : i ≡ n). let d = ap f e in omega arith)
    (λ (ne : i ≢ n). let e = term-le-sum_to n f i (omega arith) in omega arith)
    (cases_eq i n)

-- two functions that differ at one place
pub sum_to-change : (n : ℕ) (f g : ℕ → ℕ) (i : ℕ) → i < n → ((k : ℕ) → k < n → k ≢ i → f k ≡ g k) → sum_to n f + g i ≡ sum_to n g + f i
sum_to-change zero f g i l h = omega arith
sum_to-change (suc n) f g i l h = ⊎_elim
    (λ (e : i ≡ n). let s = sum_to-ext n f g (λ k b. h k (omega arith) (λ q. omega arith)) in
    let df = ap f e in let dg = ap g e in omega arith)
    (λ (ne : i ≢ n). let s = sum_to-change n f g i (omega arith) (λ k b. h k (omega arith)) in
    let d = h n (omega arith) (λ q. ne (sym q)) in omega arith)
    (cases_eq i n)

pub if_same : (i v x : ℕ) → i ≡ v → (if i == v then x else 0) ≡ x
if_same i v x e = grind (arith, nat_tests)

pub if_other : (i v x : ℕ) → i ≢ v → (if i == v then x else 0) ≡ 0
if_other i v x n = grind (arith, nat_tests)

-- the only term that is not 0
pub sum_to-at : (n : ℕ) (w : ℕ → ℕ) (i x : ℕ) → i < n → sum_to n (λ v. w v * (if i == v then x else 0)) ≡ w i * x
sum_to-at n w i x l =
    let c = sum_to-change n (λ v. w v * (if i == v then x else 0)) (λ v. 0) i l
    (λ k b ne. let e = ap (λ y. w k * y) (if_other i k x (λ q. ne (sym q))) in omega arith) in
    let z = sum_to-zero n (λ v. 0) (λ k b. refl) in
    let s = ap (λ y. w i * y) (if_same i i x refl) in
    omega arith

pub sum_to-times_add : (n : ℕ) (w f g : ℕ → ℕ) → sum_to n (λ v. w v * (f v + g v)) ≡ sum_to n (λ v. w v * f v) + sum_to n (λ v. w v * g v)
sum_to-times_add zero w f g = refl
sum_to-times_add (suc n) w f g = let e = sum_to-times_add n w f g in omega arith

-- a sum over nodes of what their arcs carry is a sum over arcs
pub sum_to-swap : (n m : ℕ) (w f : ℕ → ℕ) (end : ℕ → ℕ) → ((a : ℕ) → a < m → end a < n)
    → sum_to n (λ v. w v * sum_to m (λ a. if end a == v then f a else 0)) ≡ sum_to m (λ a. w (end a) * f a)
sum_to-swap n zero w f end h = sum_to-zero n (λ v. w v * 0) (λ k l. omega arith)
sum_to-swap n (suc m) w f end h =
    let e = sum_to-times_add n w (λ v. sum_to m (λ a. if end a == v then f a else 0)) (λ v. if end m == v then f m else 0) in
    let r = sum_to-swap n m w f end (λ a l. h a (omega arith)) in
    let s = sum_to-at n w (end m) (f m) (h m (omega arith)) in
    omega arith

-- a sum of differences
pub signed_sum_to-is : (n : ℕ) (f : ℕ → ℤ) (x y : ℕ → ℕ) → ((k : ℕ) → k < n → f k ≡ pos (x k) -ℤ pos (y k))
    → signed_sum_to n f ≡ pos (sum_to n x) -ℤ pos (sum_to n y)
signed_sum_to-is zero f x y h = refl
signed_sum_to-is (suc n) f x y h = let e = signed_sum_to-is n f x y (λ k l. h k (omega arith)) in let d = h n (omega arith) in omega (arith, ints)
