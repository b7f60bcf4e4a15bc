-- Rising lists of numbers.
use Rattle.std.proofs.Common.{ℕ, suc, zero, ◌≡◌, ◌<◌, ◌≤◌, List, [], ◌∷◌, length, get_or, Contains, arith, refl, sym, subst}
use Rattle.std.specs.List.{AllPairs}
use Rattle.std.specs.List.Sorted.{IsStrictlyIncreasing}
use Rattle.std.proofs.lemmas.List.Kept.{AllPairs-from_increasing}

abbrev pub Rises : List ℕ → Type 0
Rises xs = AllPairs (λ x y. x < y) xs

pub rises_tail : (x : ℕ) (xs : List ℕ) → Rises (x ∷ xs) → Rises xs
rises_tail x xs rises = λ a b d less below. rises (suc a) (suc b) d (omega arith) (omega arith)

-- the first number is below the second
pub rises_next : (x y : ℕ) (xs : List ℕ) → Rises (x ∷ y ∷ xs) → x < y
rises_next x y xs rises = rises 0 1 0 (omega arith) (omega arith)

head_least : (x : ℕ) (xs : List ℕ) (n : ℕ) → Rises (x ∷ xs) → (k : ℕ) → k < length (x ∷ xs) → get_or (x ∷ xs) k n ≡ n → x ≤ n
head_least x xs n rises zero below is = omega arith
head_least x xs n rises (suc k) below is = let less = rises 0 (suc k) n (omega arith) below in omega (arith, less, is)

in_tail : (x : ℕ) (xs : List ℕ) (n : ℕ) → (n ≡ x → ⊥) → (k : ℕ) → k < length (x ∷ xs) → get_or (x ∷ xs) k n ≡ n → Contains xs n
in_tail x xs n other zero below is = absurd (other (sym is))
in_tail x xs n other (suc k) below is = (k, omega arith, is)

tail_above : (x : ℕ) (xs : List ℕ) (n : ℕ) → Rises (x ∷ xs) → Contains xs n → x < n
tail_above x xs n rises has =
    let less = rises 0 (suc has.0) n (omega arith) (omega (arith, has.1)) in
    omega (arith, less, has.2)

-- the rest of a list has what the rest of another with the same first number has
rest_in : (x : ℕ) (xs ys : List ℕ) → Rises (x ∷ xs) → ((n : ℕ) → Contains (x ∷ xs) n → Contains (x ∷ ys) n) → (n : ℕ) → Contains xs n → Contains ys n
rest_in x xs ys rises in_other n has =
    let above = tail_above x xs n rises has in
    let there = in_other n (suc has.0, omega (arith, has.1), has.2) in
    in_tail x ys n (λ same. omega arith) there.0 there.1 there.2

-- two rising lists of the same numbers are one list
pub rising_same : (xs ys : List ℕ) → Rises xs → Rises ys → ((n : ℕ) → Contains xs n → Contains ys n) → ((n : ℕ) → Contains ys n → Contains xs n) → xs ≡ ys
rising_same [] [] xs_rise ys_rise to from = refl
rising_same [] (y ∷ ys) xs_rise ys_rise to from = let has = from y (0, omega arith, refl) in absurd (omega (arith, has.1))
rising_same (x ∷ xs) [] xs_rise ys_rise to from = let has = to x (0, omega arith, refl) in absurd (omega (arith, has.1))
rising_same (x ∷ xs) (y ∷ ys) xs_rise ys_rise to from =
    let x_in = to x (0, omega arith, refl) in
    let y_in = from y (0, omega arith, refl) in
    let y_least = head_least y ys x ys_rise x_in.0 x_in.1 x_in.2 in
    let x_least = head_least x xs y xs_rise y_in.0 y_in.1 y_in.2 in
    let same : y ≡ x = omega arith in
    let rest = rising_same xs ys (rises_tail x xs xs_rise) (rises_tail y ys ys_rise)
    (rest_in x xs ys xs_rise (subst (λ (z : ℕ). (n : ℕ) → Contains (x ∷ xs) n → Contains (z ∷ ys) n) same to))
    (rest_in x ys xs (subst (λ (z : ℕ). Rises (z ∷ ys)) same ys_rise) (subst (λ (z : ℕ). (n : ℕ) → Contains (z ∷ ys) n → Contains (x ∷ xs) n) same from)) in
    cc

pub increasing_same : (xs ys : List ℕ) → IsStrictlyIncreasing xs → IsStrictlyIncreasing ys → ((n : ℕ) → Contains xs n → Contains ys n) → ((n : ℕ) → Contains ys n → Contains xs n) → xs ≡ ys
increasing_same xs ys xs_rise ys_rise = rising_same xs ys (AllPairs-from_increasing xs xs_rise) (AllPairs-from_increasing ys ys_rise)
