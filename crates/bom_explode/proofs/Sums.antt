use Rattle.std.proofs.Common.{◌≡◌, ℕ, zero, suc, ◌<◌, ◌≤◌, refl, ap, ⊎_elim, arith}
use Rattle.std.proofs.lemmas.Bool.{cases_lt}
use Rattle.tqd_base.specs.Sum.{sum_to}

pub sum_to-ext : (n : ℕ) (f g : ℕ → ℕ) → ((k : ℕ) → k < n → f k ≡ g k) → sum_to n f ≡ sum_to n g
sum_to-ext zero f g h = refl
sum_to-ext (suc n) f g h = let e = sum_to-ext n f g (λ k l. h k (omega arith)) in let d = h n (omega arith) in omega arith

-- terms that are 0 add nothing
pub sum_to-skip : (n m : ℕ) (f : ℕ → ℕ) → m ≤ n → ((k : ℕ) → m ≤ k → k < n → f k ≡ 0) → sum_to n f ≡ sum_to m f
sum_to-skip zero m f l h = let e : 0 ≡ m = omega arith in ap (λ k. sum_to k f) e
sum_to-skip (suc n) m f l h = ⊎_elim
    (λ (b : m < suc n). let e = sum_to-skip n m f (omega arith) (λ k p q. h k p (omega arith)) in let d = h n (omega arith) (omega arith) in omega arith)
    (λ (b : suc n ≤ m). let e : suc n ≡ m = omega arith in ap (λ k. sum_to k f) e)
    (cases_lt m (suc n))
