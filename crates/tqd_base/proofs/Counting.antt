-- Changing the elements of a list one by one, from its front.
use native.Mathlib.Numerals.{unary_clauses}
use Rattle.std.proofs.Common.{◌∙◌, ℕ, zero, suc, ◌≡◌, ◌+◌, ◌<◌, ◌++◌, List, [], ◌∷◌, length, take, drop, map, refl, ap, arith, slice_set, slice_index_or}

-- the elements before a place are changed, those from it on are not yet
abbrev pub half_done : {A : Type 0} → (A → A) → ℕ → List A → List A
half_done f i xs = map f (take i xs) ++ drop i xs

pub half_done-next : {A : Type 0} (f : A → A) (i : ℕ) (xs : List A) (other : A) → i < length xs → slice_index_or (half_done f i xs) i other ≡ slice_index_or xs i other
half_done-next f i [] other below = absurd (omega (arith, below))
half_done-next f zero (x ∷ xs) other below = refl
half_done-next f (suc i) (x ∷ xs) other below = half_done-next f i xs other (omega (arith, below))

pub half_done-more : {A : Type 0} (f : A → A) (i : ℕ) (xs : List A) (other : A) → i < length xs
    → slice_set (half_done f i xs) i (f (slice_index_or xs i other)) ≡ half_done f (suc i) xs
half_done-more {A = A} f i [] other below = absurd (omega (arith, below))
half_done-more {A = A} f zero (x ∷ xs) other below = refl
half_done-more {A = A} f (suc i) (x ∷ xs) other below = ap (λ (rest : List A). f x ∷ rest) (half_done-more f i xs other (omega (arith, below)))

pub half_done-all : {A : Type 0} (f : A → A) (i : ℕ) (xs : List A) → length xs < i + 1 → half_done f i xs ≡ map f xs
half_done-all {A = A} f zero [] done = refl
half_done-all {A = A} f (suc i) [] done = refl
half_done-all {A = A} f zero (x ∷ xs) done = absurd (omega (arith, done))
half_done-all {A = A} f (suc i) (x ∷ xs) done = ap (λ (rest : List A). f x ∷ rest) (half_done-all f i xs (omega (arith, done)))

pub half_done-step : {A : Type 0} (f : A → A) (i : ℕ) (xs ys : List A) (changed other : A) → i < length xs → ys ≡ half_done f i xs
    → changed ≡ f (slice_index_or ys i other) → slice_set ys i changed ≡ half_done f (i + 1) xs
half_done-step {A = A} f i xs ys changed other below so_far is =
    let value : changed ≡ f (slice_index_or xs i other) = is ∙ ap (λ (zs : List A). f (slice_index_or zs i other)) so_far ∙ ap f (half_done-next f i xs other below) in
    let done : slice_set ys i changed ≡ half_done f (suc i) xs =
    ap (λ (zs : List A). slice_set zs i changed) so_far ∙ ap (λ (x : A). slice_set (half_done f i xs) i x) value ∙ half_done-more f i xs other below in
    simp unary_clauses done
