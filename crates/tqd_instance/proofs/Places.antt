-- The place at which a total lies among segments.
use Rattle.std.proofs.Common.{ℕ, suc, zero, ◌≡◌, ◌<◌, ◌≤◌, Bool, true, false, List, [], ◌∷◌, length, get_or, Option, Some, None, option_map, cond, arith, refl, subst}
use Rattle.std.proofs.lemmas.Bool.Decides.{nat_tests}
use Rattle.std.proofs.lemmas.List.{get_or_read}
use Rattle.tqd_instance.specs.declared.supplier.Segment.{Segment}
use Rattle.tqd_instance.specs.Offer.{no_segment, holds, place_of}

-- no segment holds the total
pub place_of-none : (t : ℕ) (xs : List Segment) → ((k : ℕ) → k < length xs → holds t (get_or xs k no_segment) ≡ false) → place_of t xs ≡ None
place_of-none t [] none = refl
place_of-none t (x ∷ xs) none =
    let first = none 0 (omega arith) in
    let rest = place_of-none t xs (λ k below. none (suc k) (omega arith)) in
    simp (first, rest)

-- the first segment that holds it
pub place_of-first : (t : ℕ) (xs : List Segment) (j : ℕ) → j < length xs → holds t (get_or xs j no_segment) ≡ true
    → ((k : ℕ) → k < j → holds t (get_or xs k no_segment) ≡ false) → place_of t xs ≡ Some j
place_of-first t [] j below here before = absurd (omega arith)
place_of-first t (x ∷ xs) zero below here before = simp here
place_of-first t (x ∷ xs) (suc j) below here before =
    let first = before 0 (omega arith) in
    let rest = place_of-first t xs j (omega arith) here (λ k less. before (suc k) (omega arith)) in
    simp (first, rest)

-- what the test says
pub holds-true : (t : ℕ) (s : Segment) → s.low ≤ t → t ≤ s.high → holds t s ≡ true
holds-true t s low high = grind (arith, nat_tests)

pub holds_low : (t : ℕ) (s : Segment) → holds t s ≡ true → s.low ≤ t
holds_low t s h = grind (arith, nat_tests)

pub holds_high : (t : ℕ) (s : Segment) → holds t s ≡ true → t ≤ s.high
holds_high t s h = grind (arith, nat_tests)

-- where it says no, the total is past an end
pub holds_not : (t : ℕ) (s : Segment) → holds t s ≡ false → s.low ≤ t → t ≤ s.high → ⊥
holds_not t s h low high = grind (arith, nat_tests)

-- the item read at j is the first segment that holds the total
pub place_of-read : (t : ℕ) (xs : List Segment) (j : ℕ) (s : Segment) → j < length xs → s ≡ get_or xs j s → s.low ≤ t → t ≤ s.high
    → ((k : ℕ) → k < j → holds t (get_or xs k no_segment) ≡ false) → place_of t xs ≡ Some j
place_of-read t xs j s below read low high before =
    let same : s ≡ get_or xs j no_segment = get_or_read xs j s below read no_segment in
    let here : holds t (get_or xs j no_segment) ≡ true = rw (← same) (holds-true t s low high) in
    place_of-first t xs j below here before

-- the place that is found is that of a segment which holds the total
abbrev Found : ℕ → List Segment → ℕ → Type 0
Found t xs j = (j < length xs) × (holds t (get_or xs j no_segment) ≡ true)

found_rest : (t : ℕ) (x : Segment) (xs : List Segment) (j : ℕ) (o : Option ℕ) → ((m : ℕ) → o ≡ Some m → Found t xs m)
    → option_map suc o ≡ Some j → Found t (x ∷ xs) j
found_rest t x xs j None rest is = cc
found_rest t x xs j (Some m) rest is =
    let found = rest m refl in
    let same : suc m ≡ j = cc in
    subst (λ (n : ℕ). Found t (x ∷ xs) n) same (omega (arith, found.0), found.1)

found_at : (t : ℕ) (x : Segment) (xs : List Segment) (j : ℕ) (b : Bool) → holds t x ≡ b → ((m : ℕ) → place_of t xs ≡ Some m → Found t xs m)
    → cond b (Some 0) (option_map suc (place_of t xs)) ≡ Some j → Found t (x ∷ xs) j
found_at t x xs j true b_is rest is =
    let same : 0 ≡ j = cc in
    subst (λ (n : ℕ). Found t (x ∷ xs) n) same (omega arith, b_is)
found_at t x xs j false b_is rest is = found_rest t x xs j (place_of t xs) rest is

pub place_of-some : (t : ℕ) (xs : List Segment) (j : ℕ) → place_of t xs ≡ Some j → (j < length xs) × (holds t (get_or xs j no_segment) ≡ true)
place_of-some t [] j is = cc
place_of-some t (x ∷ xs) j is = found_at t x xs j (holds t x) refl (place_of-some t xs) is
