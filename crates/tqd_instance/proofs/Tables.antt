-- Lists with a function's values at the first numbers.
use Rattle.std.proofs.Common.{ℕ, suc, zero, ◌≡◌, ◌+◌, ◌<◌, List, [], ◌∷◌, ◌++◌, length, get_or, arith, refl, ap, ◌∙◌, sym, add-one, inl, inr}
use Rattle.std.proofs.lemmas.Bool.{cases_lt}
use Rattle.std.proofs.lemmas.Grind.{common_steps}
use Rattle.std.proofs.lemmas.List.{length-append}
use Rattle.tqd_instance.specs.Built.{table}

pub table-zero : {A : Type 0} (f : ℕ → A) → table 0 f ≡ []
unfolding table
table-zero f = refl

table-suc : {A : Type 0} (n : ℕ) (f : ℕ → A) → table (suc n) f ≡ table n f ++ f n ∷ []
unfolding table
table-suc n f = refl

pub table-more : {A : Type 0} (n : ℕ) (f : ℕ → A) → table (n + 1) f ≡ table n f ++ f n ∷ []
table-more n f = ap (λ m. table m f) (add-one n) ∙ table-suc n f

pub length-table : {A : Type 0} (n : ℕ) (f : ℕ → A) → length (table n f) ≡ n
length-table zero f = ap length (table-zero f)
length-table (suc n) f =
    let rest = length-table n f in
    ap length (table-suc n f) ∙ length-append (table n f) (f n ∷ []) ∙ omega arith

pub get_or-table : {A : Type 0} (n : ℕ) (f : ℕ → A) (k : ℕ) (d : A) → k < n → get_or (table n f) k d ≡ f k
get_or-table zero f k d below = absurd (omega arith)
get_or-table (suc n) f k d below = elim (cases_lt k n) [
  | inl before ↦ ap (λ xs. get_or xs k d) (table-suc n f) ∙ get_or_left (table n f) (f n) k d (let l = length-table n f in omega arith) ∙ get_or-table n f k d before
  | inr last ↦ ap (λ xs. get_or xs k d) (table-suc n f) ∙ get_or_last (table n f) (f n) k d (let l = length-table n f in omega arith) ∙ (let same : n ≡ k = omega arith in ap f same)
]
  where
    get_or_left : {A : Type 0} (xs : List A) (x : A) (k : ℕ) (d : A) → k < length xs → get_or (xs ++ x ∷ []) k d ≡ get_or xs k d
    get_or_left xs x k d below = grind (arith, common_steps)

    get_or_last : {A : Type 0} (xs : List A) (x : A) (k : ℕ) (d : A) → k ≡ length xs → get_or (xs ++ x ∷ []) k d ≡ x
    get_or_last xs x k d same = grind (arith, common_steps)

-- tables of functions that agree
pub table-same : {A : Type 0} (n : ℕ) (f g : ℕ → A) → ((k : ℕ) → k < n → f k ≡ g k) → table n f ≡ table n g
table-same zero f g same = table-zero f ∙ sym (table-zero g)
table-same (suc n) f g same =
    let rest = table-same n f g (λ k below. same k (omega arith)) in
    let last = same n (omega arith) in
    table-suc n f ∙ rw (rest, last) refl ∙ sym (table-suc n g)

pub ruleset tables = (table-zero, table-more)
