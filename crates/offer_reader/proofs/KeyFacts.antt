-- Keys of offers and of terms in ordered sets.
use Rattle.std.proofs.Common.{ℕ, ◌≡◌, Bool, true, false, ◌&&◌, ◌||◌, List, [], ◌∷◌, ◌++◌, map, Global, String, Ordering, refl, sym, ap, ◌∙◌}
use Rattle.std.proofs.lemmas.List.Folds.{list_any-append}
use Rattle.std.proofs.lemmas.Map.Lookups.{exact_unsigned, exact_bytes}
use Rattle.std.proofs.lemmas.Map.Text.{is_eq-slice_cmp}
use Rattle.std.specs.BTreeMap.{is_at}
use Rattle.std.specs.BTreeSet.{insert_key}
use Rattle.std.specs.Cmp.{unsigned_tied}
use Rattle.std.specs.Cmp.Lexicographic.{slice_cmp}
use Rattle.std.specs.List.{list_any}
use Rattle.std.specs.Ordering.{is_eq, match_ordering, nat_cmp, ordering_then}
use Rattle.std.specs.String.{string_bytes, string_cmp}
use Rattle.std.specs.declared.cmp.Ordering.TheVariants.{Less, Equal, Greater}
use Rattle.bom_reader.specs.Rows.{Row}
use Rattle.bom_reader.proofs.Places.{list_any-map}
use Rattle.offer_reader.specs.Steps as offers
use Rattle.offer_reader.specs.TermForms.{kind, supplier, part}
use Rattle.offer_reader.specs.TermRows.{key_of, key_texts, with_key}
use Rattle.offer_reader.specs.TermRows as terms
use Rattle.offer_reader.specs.Terms.{same_term}

-- a test passes one of the keys after a key is put in its place where it passes one of the keys or this one
first-of-three : (a b c : Bool) → (a || (b || c)) ≡ (b || (c || (a || false)))
first-of-three true true c = refl
first-of-three true false true = refl
first-of-three true false false = refl
first-of-three false true c = refl
first-of-three false false true = refl
first-of-three false false false = refl

first-again : (a b : Bool) → (a || b) ≡ (a || (b || (a || false)))
first-again true b = refl
first-again false true = refl
first-again false false = refl

any-step : {K : Type 0} (cmp : K → K → Ordering) (p : K → Bool) (x key : K) (xs : List K) → (cmp key x ≡ Equal → p key ≡ p x) → list_any p (insert_key cmp xs key) ≡ list_any p (xs ++ key ∷ [])
    → (o : Ordering) → cmp key x ≡ o → list_any p (match_ordering o (key ∷ x ∷ xs) (x ∷ xs) (x ∷ insert_key cmp xs key)) ≡ list_any p (x ∷ (xs ++ key ∷ []))
any-step cmp p x key xs same others Less is = first-of-three (p key) (p x) (list_any p xs) ∙ ap (λ (b : Bool). p x || b) (sym (list_any-append p xs (key ∷ [])))
any-step cmp p x key xs same others Equal is =
    first-again (p x) (list_any p xs) ∙ ap (λ (b : Bool). p x || b) (ap (λ (a : Bool). list_any p xs || (a || false)) (sym (same is)) ∙ sym (list_any-append p xs (key ∷ [])))
any-step cmp p x key xs same others Greater is = ap (λ (b : Bool). p x || b) others

any-inserted : {K : Type 0} (cmp : K → K → Ordering) (p : K → Bool) → ((x y : K) → cmp x y ≡ Equal → p x ≡ p y) → (keys : List K) (key : K) → list_any p (insert_key cmp keys key) ≡ list_any p (keys ++ key ∷ [])
any-inserted cmp p same [] key = refl
any-inserted cmp p same (x ∷ xs) key = any-step cmp p x key xs (same key x) (any-inserted cmp p same xs key) (cmp key x) refl

-- keys that are read by a map keep their places
map-step : {K L : Type 0} (cmp : K → K → Ordering) (view-cmp : L → L → Ordering) (view : K → L) (x key : K) (xs : List K) → map view (insert_key cmp xs key) ≡ insert_key view-cmp (map view xs) (view key)
    → (o : Ordering) → map view (match_ordering o (key ∷ x ∷ xs) (x ∷ xs) (x ∷ insert_key cmp xs key)) ≡ match_ordering o (view key ∷ view x ∷ map view xs) (view x ∷ map view xs) (view x ∷ insert_key view-cmp (map view xs) (view key))
map-step cmp view-cmp view x key xs others Less = refl
map-step cmp view-cmp view x key xs others Equal = refl
map-step cmp view-cmp view x key xs others Greater = ap (λ list. view x ∷ list) others

map-inserted : {K L : Type 0} (cmp : K → K → Ordering) (view-cmp : L → L → Ordering) (view : K → L) → ((x y : K) → cmp x y ≡ view-cmp (view x) (view y)) → (keys : List K) (key : K)
    → map view (insert_key cmp keys key) ≡ insert_key view-cmp (map view keys) (view key)
map-inserted cmp view-cmp view same [] key = refl
map-inserted cmp view-cmp view same (x ∷ xs) key = rw (same key x) (map-step cmp view-cmp view x key xs (map-inserted cmp view-cmp view same xs key) (view-cmp (view key) (view x)))

-- three orders, one after the other, tie where all three do
three-tie : (p q r : Ordering) → is_eq (ordering_then (ordering_then p q) r) ≡ (is_eq p && is_eq q && is_eq r)
three-tie Less q r = refl
three-tie Greater q r = refl
three-tie Equal Less r = refl
three-tie Equal Equal r = refl
three-tie Equal Greater r = refl

abbrev Ties : Ordering → Ordering → Ordering → Type 0
Ties p q r = (p ≡ Equal) × (q ≡ Equal) × (r ≡ Equal)

three-equal : (p q r : Ordering) → ordering_then (ordering_then p q) r ≡ Equal → Ties p q r
three-equal Less q r e = cc e
three-equal Greater q r e = cc e
three-equal Equal Less r e = cc e
three-equal Equal Equal r e = (refl, refl, e)
three-equal Equal Greater r e = cc e

-- keys of offers
key-tie : (a b : ℕ × ℕ × ℕ) → is_at (offers.key_cmp a) b ≡ offers.same_key a b
key-tie a b = three-tie (nat_cmp a.0 b.0) (nat_cmp a.1 b.1) (nat_cmp a.2 b.2) ∙ rw (unsigned_tied a.0 b.0, unsigned_tied a.1 b.1, unsigned_tied a.2 b.2) refl

pub key_there : (keys : List (ℕ × ℕ × ℕ)) (key : ℕ × ℕ × ℕ) → list_any (is_at (offers.key_cmp key)) keys ≡ list_any (offers.same_key key) keys
key_there [] key = refl
key_there (x ∷ xs) key = rw (key-tie key x, key_there xs key) refl

pub key_added : (keys : List (ℕ × ℕ × ℕ)) (key q : ℕ × ℕ × ℕ) → list_any (offers.same_key q) (offers.with_key keys key) ≡ list_any (offers.same_key q) (keys ++ key ∷ [])
key_added keys key q = any-inserted offers.key_cmp (offers.same_key q) same keys key where
  same : (x y : ℕ × ℕ × ℕ) → offers.key_cmp x y ≡ Equal → offers.same_key q x ≡ offers.same_key q y
  same x y e =
      let ties = three-equal (nat_cmp x.0 y.0) (nat_cmp x.1 y.1) (nat_cmp x.2 y.2) e in
      let a : x.0 ≡ y.0 = exact_unsigned x.0 y.0 ties.0 in
      let b : x.1 ≡ y.1 = exact_unsigned x.1 y.1 ties.1 in
      let c : x.2 ≡ y.2 = exact_unsigned x.2 y.2 ties.2 in
      rw (a, b, c) refl

-- keys of terms
abbrev pub Key : Type 0
Key = String Global × String Global × String Global

abbrev pub texts_cmp : Key → Key → Ordering
texts_cmp x y = ordering_then (ordering_then (string_cmp x.0 y.0) (string_cmp x.1 y.1)) (string_cmp x.2 y.2)

texts-tie : (x y : Key) → is_at (texts_cmp x) y ≡ same_term (key_texts x) (key_texts y)
texts-tie x y =
    three-tie (string_cmp x.0 y.0) (string_cmp x.1 y.1) (string_cmp x.2 y.2)
    ∙ rw (is_eq-slice_cmp (string_bytes x.0) (string_bytes y.0), is_eq-slice_cmp (string_bytes x.1) (string_bytes y.1), is_eq-slice_cmp (string_bytes x.2) (string_bytes y.2)) refl

texts-there : (keys : List Key) (key : Key) → list_any (is_at (texts_cmp key)) keys ≡ list_any (λ other. same_term (key_texts key) (key_texts other)) keys
texts-there [] key = refl
texts-there (x ∷ xs) key = rw (texts-tie key x, texts-there xs key) refl

pub repeats_are : (keys : List Key) (key : Key) (row : Row) → key_texts key ≡ key_of row → list_any (is_at (texts_cmp key)) keys ≡ list_any (same_term row) (map key_texts keys)
repeats_are keys key row is =
    texts-there keys key ∙ sym (list_any-map (same_term (key_texts key)) key_texts keys) ∙ ap (λ (r : Row). list_any (same_term r) (map key_texts keys)) is

pub keys_are : (keys : List Key) (key : Key) (row : Row) → key_texts key ≡ key_of row → map key_texts (insert_key texts_cmp keys key) ≡ with_key (map key_texts keys) row
keys_are keys key row is = map-inserted texts_cmp terms.key_cmp key_texts (λ x y. refl) keys key ∙ ap (λ (r : Row). insert_key terms.key_cmp (map key_texts keys) r) is

pub term_added : (keys : List Row) (row q : Row) → list_any (same_term q) (with_key keys row) ≡ list_any (same_term q) (keys ++ key_of row ∷ [])
term_added keys row q = any-inserted terms.key_cmp (same_term q) same keys (key_of row) where
  same : (x y : Row) → terms.key_cmp x y ≡ Equal → same_term q x ≡ same_term q y
  same x y e =
      let ties = three-equal (slice_cmp nat_cmp (kind x) (kind y)) (slice_cmp nat_cmp (supplier x) (supplier y)) (slice_cmp nat_cmp (part x) (part y)) e in
      let a : kind x ≡ kind y = exact_bytes (kind x) (kind y) ties.0 in
      let b : supplier x ≡ supplier y = exact_bytes (supplier x) (supplier y) ties.1 in
      let c : part x ≡ part y = exact_bytes (part x) (part y) ties.2 in
      rw (a, b, c) refl
