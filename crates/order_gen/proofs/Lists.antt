-- Lists joined, and what they contain.
use Rattle.std.proofs.Common.{ℕ, suc, zero, ◌≡◌, ◌+◌, ◌<◌, List, [], ◌∷◌, ◌++◌, length, get_or, map, filter, find, cond, Bool, true, false, All, Some, None, Contains, arith, refl, ap, ◌∙◌, sym, subst, add-one, inl, inr}
use Rattle.std.specs.List.{AllPairs}
use Rattle.std.proofs.lemmas.Bool.{cases_lt}
use Rattle.std.proofs.lemmas.List.Elements.{All-nil, All-cons, All-append, All-contains_itself, Contains-append_left, Contains-append_right, Contains-append_cases}
use Rattle.std.proofs.lemmas.List.Kept.{AllPairs-cons}
use Rattle.order_gen.specs.GenParts.{joined}

pub joined-zero : {A : Type 0} (f : ℕ → List A) → joined 0 f ≡ []
unfolding joined
joined-zero f = refl

pub joined-suc : {A : Type 0} (n : ℕ) (f : ℕ → List A) → joined (suc n) f ≡ joined n f ++ f n
unfolding joined
joined-suc n f = refl

pub joined-more : {A : Type 0} (n : ℕ) (f : ℕ → List A) → joined (n + 1) f ≡ joined n f ++ f n
joined-more n f = ap (λ m. joined m f) (add-one n) ∙ joined-suc n f

pub joined_has : {A : Type 0} (n : ℕ) (f : ℕ → List A) (k : ℕ) (x : A) → k < n → Contains (f k) x → Contains (joined n f) x
joined_has zero f k x below has = absurd (omega arith)
joined_has {A} (suc n) f k x below has =
    subst (λ (xs : List A). Contains xs x) (sym (joined-suc n f)) (elim (cases_lt k n) [
      | inl before ↦ Contains-append_left (joined n f) (f n) x (joined_has n f k x before has)
      | inr last ↦ (let same : k ≡ n = omega arith in
          Contains-append_right (joined n f) (f n) x (subst (λ (m : ℕ). Contains (f m) x) same has))
    ])

pub joined_from : {A : Type 0} (n : ℕ) (f : ℕ → List A) (x : A) → Contains (joined n f) x → (k : ℕ) × (k < n) × Contains (f k) x
joined_from {A} zero f x has = absurd (omega (arith, has.1, ap length (joined-zero f)))
joined_from {A} (suc n) f x has = elim (Contains-append_cases (joined n f) (f n) x (subst (λ (xs : List A). Contains xs x) (joined-suc n f) has)) [
  | inl before ↦ (let r = joined_from n f x before in (r.0, omega (arith, r.1), r.2))
  | inr last ↦ (n, omega arith, last)
]

pub pairs-append : {A : Type 0} (R : A → A → Type 0) (xs ys : List A) → AllPairs R xs → AllPairs R ys
    → ((a b : A) → Contains xs a → Contains ys b → R a b) → AllPairs R (xs ++ ys)
pairs-append R [] ys in_xs in_ys across = in_ys
pairs-append R (x ∷ xs) ys in_xs in_ys across =
    AllPairs-cons R x (xs ++ ys)
    (All-append (R x) xs ys
    (λ k d below. in_xs 0 (suc k) d (omega arith) (omega arith))
    (λ k d below. across x (get_or ys k d) (0, omega arith, refl) (All-contains_itself ys k d below)))
    (pairs-append R xs ys
    (λ i j d less below. in_xs (suc i) (suc j) d (omega arith) (omega arith))
    in_ys
    (λ a b has_a has_b. across a b (suc has_a.0, omega (arith, has_a.1), has_a.2) has_b))

pub joined_pairs : {A : Type 0} (R : A → A → Type 0) (n : ℕ) (f : ℕ → List A) → ((k : ℕ) → k < n → AllPairs R (f k))
    → ((k l : ℕ) (a b : A) → k < l → l < n → Contains (f k) a → Contains (f l) b → R a b) → AllPairs R (joined n f)
joined_pairs R zero f within across = λ i j d less below. absurd (omega (arith, ap length (joined-zero f)))
joined_pairs {A} R (suc n) f within across =
    subst (λ (xs : List A). AllPairs R xs) (sym (joined-suc n f))
    (pairs-append R (joined n f) (f n)
    (joined_pairs R n f (λ k below. within k (omega arith)) (λ k l a b less below has_a has_b. across k l a b less (omega arith) has_a has_b))
    (within n (omega arith))
    (λ a b has_a has_b. let r = joined_from n f a has_a in across r.0 n a b r.1 (omega arith) r.2 has_b))

pub empty_all : {A : Type 0} (P : A → Type 0) (xs : List A) → xs ≡ [] → All P xs
empty_all P xs e = λ k d below. absurd (omega (arith, ap length e))

pub empty_pairs : {A : Type 0} (R : A → A → Type 0) (xs : List A) → xs ≡ [] → AllPairs R xs
empty_pairs R xs e = λ i j d less below. absurd (omega (arith, ap length e))

-- what passes a filter is kept
pub filter_has : {A : Type 0} (p : A → Bool) (xs : List A) (x : A) (k : ℕ) → k < length xs → get_or xs k x ≡ x → p x ≡ true → Contains (filter p xs) x
filter_has p [] x k below is passes = absurd (omega arith)
filter_has p (y ∷ ys) x zero below is passes =
    let here : p y ≡ true = ap p is ∙ passes in
    rw here (0, omega arith, is)
filter_has p (y ∷ ys) x (suc k) below is passes = kept p y ys x (p y) (filter_has p ys x k (omega arith) is passes)
  where
    kept : {A : Type 0} (p : A → Bool) (y : A) (ys : List A) (x : A) (b : Bool) → Contains (filter p ys) x → Contains (cond b (y ∷ filter p ys) (filter p ys)) x
    kept p y ys x true rest = (suc rest.0, omega (arith, rest.1), rest.2)
    kept p y ys x false rest = rest

pub map_has : {A B : Type 0} (f : A → B) (xs : List A) (x : A) (k : ℕ) → k < length xs → get_or xs k x ≡ x → Contains (map f xs) (f x)
map_has f [] x k below is = absurd (omega arith)
map_has f (y ∷ ys) x zero below is = (0, omega arith, ap f is)
map_has f (y ∷ ys) x (suc k) below is =
    let rest = map_has f ys x k (omega arith) is in
    (suc rest.0, omega (arith, rest.1), rest.2)

-- a list with an element that passes a test has a first one
pub find_some : {A : Type 0} (p : A → Bool) (xs : List A) (x : A) (k : ℕ) → k < length xs → get_or xs k x ≡ x → p x ≡ true → find p xs ≡ None → ⊥
find_some p [] x k below is passes none = absurd (omega arith)
find_some p (y ∷ ys) x zero below is passes none =
    let here : p y ≡ true = ap p is ∙ passes in
    let found : find p (y ∷ ys) ≡ Some y = rw here refl in
    absurd (cc)
find_some p (y ∷ ys) x (suc k) below is passes none = rest p y ys (p y) (find_some p ys x k (omega arith) is passes) none
  where
    rest : {A : Type 0} (p : A → Bool) (y : A) (ys : List A) (b : Bool) → (find p ys ≡ None → ⊥) → cond b (Some y) (find p ys) ≡ None → ⊥
    rest p y ys true later none = absurd (cc)
    rest p y ys false later none = later none

pub all_three : {A : Type 0} (P : A → Type 0) (a b c : A) → P a → P b → P c → All P (a ∷ b ∷ c ∷ [])
all_three P a b c of_a of_b of_c =
    All-cons P a (b ∷ c ∷ []) of_a (All-cons P b (c ∷ []) of_b (All-cons P c [] of_c (All-nil P)))

pub pairs_three : {A : Type 0} (R : A → A → Type 0) (a b c : A) → R a b → R a c → R b c → AllPairs R (a ∷ b ∷ c ∷ [])
pairs_three R a b c ab ac bc =
    AllPairs-cons R a (b ∷ c ∷ []) (All-cons (R a) b (c ∷ []) ab (All-cons (R a) c [] ac (All-nil (R a))))
    (AllPairs-cons R b (c ∷ []) (All-cons (R b) c [] bc (All-nil (R b)))
    (AllPairs-cons R c [] (All-nil (R c)) (empty_pairs R [] refl)))
