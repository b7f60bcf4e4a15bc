-- The rows of one supplier, and what a first value is.
use Rattle.std.proofs.Common.{ℕ, ◌≡◌, ◌≢◌, set, ◌⊎◌, is_some, ◌+◌, ◌<◌, ◌==◌, ◌&&◌, ◌||◌, Bool, true, false, List, [], ◌∷◌, ◌++◌, length, get_or, take, map, filter, find, All, Option, Some, None, option_map, unwrap_or, cond, arith, refl, ap, ◌∙◌, sym, inl, inr}
use Rattle.std.specs.List.{list_any}
use Rattle.std.proofs.lemmas.List.{take_more, length-set, get_or-set_other}
use Rattle.std.proofs.lemmas.List.Folds.{list_any-append}
use Rattle.std.proofs.lemmas.Grind.{get_or-set_at}
use Rattle.std.proofs.lemmas.Bool.{false≢true, cases_eq}
use Rattle.std.proofs.lemmas.Bool.Decides.{nat_tests}
use Rattle.std.proofs.lemmas.List.Elements.{All-filter, All-map}
use Rattle.tqd_instance.specs.declared.parts.PriceRow.{PriceRow}
use Rattle.tqd_instance.specs.declared.parts.StockRow.{StockRow}
use Rattle.tqd_base.specs.declared.limits.TheConstants.{QTY_MAX}
use Rattle.tqd_instance.specs.PartsData.{PartsData}
use Rattle.tqd_instance.specs.Parts.{IsPriceRow, IsStockRow, IsWellFormed}
use Rattle.tqd_instance.specs.Built.{offers, price_stated, stock_of}
use Rattle.tqd_instance.specs.Rows.{rows_of, offers_in, first_value, stock_stated, AreValues}

-- the first of two, where it is there
abbrev pub earlier : {A : Type 0} → Option A → Option A → Option A
earlier (Some x) other = Some x
earlier None other = other

earlier-none : {A : Type 0} (o : Option A) → earlier o None ≡ o
earlier-none (Some x) = refl
earlier-none None = refl

earlier-some : {A : Type 0} (o other : Option A) → is_some o ≡ true → earlier o other ≡ o
earlier-some (Some x) other some = refl
earlier-some None other some = absurd (false≢true some)

none_from : {A : Type 0} (o : Option A) → is_some o ≡ false → o ≡ None
none_from (Some x) none = absurd (false≢true (sym none))
none_from None none = refl

pub find-push : {X : Type 0} (p : X → Bool) (xs : List X) (y : X) → find p (xs ++ y ∷ []) ≡ earlier (find p xs) (cond (p y) (Some y) None)
find-push p [] y = refl
find-push p (x ∷ xs) y = at_head p x xs y (p x) (find-push p xs y)
  where
    at_head : {X : Type 0} (p : X → Bool) (x : X) (xs : List X) (y : X) (b : Bool) → find p (xs ++ y ∷ []) ≡ earlier (find p xs) (cond (p y) (Some y) None)
        → cond b (Some x) (find p (xs ++ y ∷ [])) ≡ earlier (cond b (Some x) (find p xs)) (cond (p y) (Some y) None)
    at_head p x xs y true rest = refl
    at_head p x xs y false rest = rest

-- a filter before a search is a test before the test
pub find-filter : {X : Type 0} (p q : X → Bool) (xs : List X) → find q (filter p xs) ≡ find (λ x. p x && q x) xs
find-filter p q [] = refl
find-filter p q (x ∷ xs) = at_head p q x xs (p x) (find-filter p q xs)
  where
    at_head : {X : Type 0} (p q : X → Bool) (x : X) (xs : List X) (b : Bool) → find q (filter p xs) ≡ find (λ x. p x && q x) xs
        → find q (cond b (x ∷ filter p xs) (filter p xs)) ≡ cond (b && q x) (Some x) (find (λ x. p x && q x) xs)
    at_head p q x xs true rest = ap (λ o. cond (q x) (Some x) o) rest
    at_head p q x xs false rest = rest

pub filter-filter : {X : Type 0} (p q : X → Bool) (xs : List X) → filter q (filter p xs) ≡ filter (λ x. p x && q x) xs
filter-filter p q [] = refl
filter-filter p q (x ∷ xs) = at_head p q x xs (p x) (filter-filter p q xs)
  where
    at_head : {X : Type 0} (p q : X → Bool) (x : X) (xs : List X) (b : Bool) → filter q (filter p xs) ≡ filter (λ x. p x && q x) xs
        → filter q (cond b (x ∷ filter p xs) (filter p xs)) ≡ cond (b && q x) (x ∷ filter (λ x. p x && q x) xs) (filter (λ x. p x && q x) xs)
    at_head p q x xs true rest = ap (λ ys. cond (q x) (x ∷ ys) ys) rest
    at_head p q x xs false rest = rest

pub any-filter : {X : Type 0} (p q : X → Bool) (xs : List X) → list_any q (filter p xs) ≡ list_any (λ x. p x && q x) xs
any-filter p q [] = refl
any-filter p q (x ∷ xs) = at_head p q x xs (p x) (any-filter p q xs)
  where
    at_head : {X : Type 0} (p q : X → Bool) (x : X) (xs : List X) (b : Bool) → list_any q (filter p xs) ≡ list_any (λ x. p x && q x) xs
        → list_any q (cond b (x ∷ filter p xs) (filter p xs)) ≡ ((b && q x) || list_any (λ x. p x && q x) xs)
    at_head p q x xs true rest = ap (λ b. q x || b) rest
    at_head p q x xs false rest = rest

-- the value found after a map
pub first_value-map : {X : Type 0} (key value : X → ℕ) (k : ℕ) (xs : List X)
    → first_value (map (λ x. (key x, value x)) xs) k ≡ option_map value (find (λ x. key x == k) xs)
unfolding first_value
first_value-map key value k [] = refl
first_value-map key value k (x ∷ xs) = at_head key value k x xs (key x == k) (first_value-map key value k xs)
  where
    at_head : {X : Type 0} (key value : X → ℕ) (k : ℕ) (x : X) (xs : List X) (b : Bool)
        → option_map (λ (e : ℕ × ℕ). e.1) (find (λ e. e.0 == k) (map (λ x. (key x, value x)) xs)) ≡ option_map value (find (λ x. key x == k) xs)
        → option_map (λ (e : ℕ × ℕ). e.1) (cond b (Some (key x, value x)) (find (λ e. e.0 == k) (map (λ x. (key x, value x)) xs))) ≡ option_map value (cond b (Some x) (find (λ x. key x == k) xs))
    at_head key value k x xs true rest = refl
    at_head key value k x xs false rest = rest

pub first_value-nil : (k : ℕ) → first_value [] k ≡ None
unfolding first_value
first_value-nil k = refl

pub first_value-push : (pairs : List (ℕ × ℕ)) (e : ℕ × ℕ) (k : ℕ) → first_value (pairs ++ e ∷ []) k ≡ earlier (first_value pairs k) (cond (e.0 == k) (Some e.1) None)
unfolding first_value
first_value-push pairs e k = ap (option_map (λ (e : ℕ × ℕ). e.1)) (find-push (λ e. e.0 == k) pairs e) ∙ inside (find (λ e. e.0 == k) pairs) e (e.0 == k)
  where
    inside : (o : Option (ℕ × ℕ)) (e : ℕ × ℕ) (b : Bool) → option_map (λ (e : ℕ × ℕ). e.1) (earlier o (cond b (Some e) None)) ≡ earlier (option_map (λ (e : ℕ × ℕ). e.1) o) (cond b (Some e.1) None)
    inside (Some x) e b = refl
    inside None e true = refl
    inside None e false = refl

pub first_value-more : (pairs : List (ℕ × ℕ)) (i k : ℕ) (d : ℕ × ℕ) → i < length pairs
    → first_value (take (i + 1) pairs) k ≡ earlier (first_value (take i pairs) k) (cond ((get_or pairs i d).0 == k) (Some (get_or pairs i d).1) None)
first_value-more pairs i k d below = ap (λ ps. first_value ps k) (take_more pairs i d below) ∙ first_value-push (take i pairs) (get_or pairs i d) k

-- the step of a loop over the pairs, where the good of this pair has no value yet
pub values_set : (goods i : ℕ) (pairs : List (ℕ × ℕ)) (vs : List (Option ℕ)) (d : ℕ × ℕ) → i < length pairs → (get_or pairs i d).0 < goods
    → AreValues goods None (first_value (take i pairs)) vs → is_some (get_or vs (get_or pairs i d).0 None) ≡ false
    → AreValues goods None (first_value (take (i + 1) pairs)) (set vs (get_or pairs i d).0 (Some (get_or pairs i d).1))
values_set goods i pairs vs d below in_goods are none = record {
  width = length-set vs (get_or pairs i d).0 (Some (get_or pairs i d).1) ∙ are.width;
  values = λ k k_in. value_at k k_in (cases_eq k (get_or pairs i d).0);
}
  where
    value_at : (k : ℕ) → k < goods → (k ≡ (get_or pairs i d).0) ⊎ (k ≢ (get_or pairs i d).0)
        → get_or (set vs (get_or pairs i d).0 (Some (get_or pairs i d).1)) k None ≡ first_value (take (i + 1) pairs) k
    value_at k k_in (inl same) =
        let before : first_value (take i pairs) k ≡ None = sym (are.values k k_in) ∙ ap (λ n. get_or vs n None) same ∙ none_from (get_or vs (get_or pairs i d).0 None) none in
        let hit : ((get_or pairs i d).0 == k) ≡ true = grind (arith, nat_tests) in
        get_or-set_at vs (get_or pairs i d).0 k (Some (get_or pairs i d).1) None same (omega (arith, are.width))
        ∙ sym (first_value-more pairs i k d below ∙ rw (before, hit) refl)
    value_at k k_in (inr other) =
        let miss : ((get_or pairs i d).0 == k) ≡ false = grind (arith, nat_tests) in
        get_or-set_other vs (get_or pairs i d).0 k (Some (get_or pairs i d).1) None other
        ∙ are.values k k_in ∙ sym (first_value-more pairs i k d below ∙ rw miss (earlier-none (first_value (take i pairs) k)))

-- the step where it has one
pub values_kept : (goods i : ℕ) (pairs : List (ℕ × ℕ)) (vs : List (Option ℕ)) (d : ℕ × ℕ) → i < length pairs → (get_or pairs i d).0 < goods
    → AreValues goods None (first_value (take i pairs)) vs → is_some (get_or vs (get_or pairs i d).0 None) ≡ true
    → AreValues goods None (first_value (take (i + 1) pairs)) vs
values_kept goods i pairs vs d below in_goods are some = record {
  width = are.width;
  values = λ k k_in. are.values k k_in ∙ sym (first_value-more pairs i k d below ∙ kept k k_in (cases_eq k (get_or pairs i d).0));
}
  where
    kept : (k : ℕ) → k < goods → (k ≡ (get_or pairs i d).0) ⊎ (k ≢ (get_or pairs i d).0)
        → earlier (first_value (take i pairs) k) (cond ((get_or pairs i d).0 == k) (Some (get_or pairs i d).1) None) ≡ first_value (take i pairs) k
    kept k k_in (inl same) =
        let there : is_some (first_value (take i pairs) k) ≡ true = rw (← are.values k k_in, same) some in
        earlier-some (first_value (take i pairs) k) (cond ((get_or pairs i d).0 == k) (Some (get_or pairs i d).1) None) there
    kept k k_in (inr other) =
        let miss : ((get_or pairs i d).0 == k) ≡ false = grind (arith, nat_tests) in
        rw miss (earlier-none (first_value (take i pairs) k))

pub offers_in-nil : (k : ℕ) → offers_in [] k ≡ false
unfolding offers_in
offers_in-nil k = refl

offers_in-more : (rows : List PriceRow) (i k : ℕ) (d : PriceRow) → i < length rows
    → offers_in (take (i + 1) rows) k ≡ (offers_in (take i rows) k || ((get_or rows i d).good == k || false))
unfolding offers_in
offers_in-more rows i k d below =
    ap (list_any (λ r. r.good == k)) (take_more rows i d below) ∙ list_any-append (λ r. r.good == k) (take i rows) (get_or rows i d ∷ [])

or_true : (b : Bool) → (b || (true || false)) ≡ true
or_true true = refl
or_true false = refl

or_false : (b : Bool) → (b || (false || false)) ≡ b
or_false true = refl
or_false false = refl

-- the step of a loop over the rows
pub offered_set : (goods i : ℕ) (rows : List PriceRow) (flags : List Bool) (d : PriceRow) → i < length rows → (get_or rows i d).good < goods
    → AreValues goods false (offers_in (take i rows)) flags
    → AreValues goods false (offers_in (take (i + 1) rows)) (set flags (get_or rows i d).good true)
offered_set goods i rows flags d below in_goods are = record {
  width = length-set flags (get_or rows i d).good true ∙ are.width;
  values = λ k k_in. value_at k k_in (cases_eq k (get_or rows i d).good);
}
  where
    value_at : (k : ℕ) → k < goods → (k ≡ (get_or rows i d).good) ⊎ (k ≢ (get_or rows i d).good)
        → get_or (set flags (get_or rows i d).good true) k false ≡ offers_in (take (i + 1) rows) k
    value_at k k_in (inl same) =
        let hit : ((get_or rows i d).good == k) ≡ true = grind (arith, nat_tests) in
        get_or-set_at flags (get_or rows i d).good k true false same (omega (arith, are.width))
        ∙ sym (offers_in-more rows i k d below ∙ rw hit (or_true (offers_in (take i rows) k)))
    value_at k k_in (inr other) =
        let miss : ((get_or rows i d).good == k) ≡ false = grind (arith, nat_tests) in
        get_or-set_other flags (get_or rows i d).good k true false other
        ∙ are.values k k_in ∙ sym (offers_in-more rows i k d below ∙ rw miss (or_false (offers_in (take i rows) k)))

-- the rows of a supplier are rows of the parts
pub rows_are : (parts : PartsData) (i : ℕ) → IsWellFormed parts → All (IsPriceRow parts.suppliers (length parts.needs)) (rows_of parts i)
rows_are parts i formed = All-filter (λ r. r.supplier == i) (IsPriceRow parts.suppliers (length parts.needs)) parts.prices formed.prices

pub offers_are : (parts : PartsData) (i k : ℕ) → offers_in (rows_of parts i) k ≡ offers parts i k
unfolding offers offers_in
offers_are parts i k = any-filter (λ r. r.supplier == i) (λ r. r.good == k) parts.prices

pub prices_are_stated : (parts : PartsData) (i from k : ℕ)
    → first_value (map (λ r. (r.good, r.price)) (filter (λ r. r.from == from) (rows_of parts i))) k ≡ price_stated parts i from k
unfolding price_stated
prices_are_stated parts i from k =
    first_value-map (λ r. r.good) (λ r. r.price) k (filter (λ r. r.from == from) (rows_of parts i))
    ∙ ap (option_map (λ r. r.price))
    (ap (find (λ r. r.good == k)) (filter-filter (λ r. r.supplier == i) (λ r. r.from == from) parts.prices)
    ∙ find-filter (λ r. r.supplier == i && r.from == from) (λ r. r.good == k) parts.prices)

pub goods_are : (parts : PartsData) (i from : ℕ) (rows : List PriceRow) → IsWellFormed parts → rows ≡ rows_of parts i
    → All (λ (e : ℕ × ℕ). e.0 < length parts.needs) (map (λ r. (r.good, r.price)) (filter (λ r. r.from == from) rows))
goods_are parts i from rows formed same =
    let filtered = All-filter (λ (r : PriceRow). r.from == from) (IsPriceRow parts.suppliers (length parts.needs)) (rows_of parts i) (rows_are parts i formed) in
    rw same (All-map (λ (e : ℕ × ℕ). e.0 < length parts.needs) (λ (r : PriceRow). (r.good, r.price)) (filter (λ r. r.from == from) (rows_of parts i))
    (λ k d below. (filtered k d below).good))

-- the same of stocks
pub stock_goods_are : (parts : PartsData) (i : ℕ) → IsWellFormed parts
    → All (λ (e : ℕ × ℕ). e.0 < length parts.needs) (map (λ r. (r.good, r.units)) (filter (λ r. r.supplier == i) parts.stocks))
stock_goods_are parts i formed =
    let filtered = All-filter (λ (r : StockRow). r.supplier == i) (IsStockRow parts.suppliers (length parts.needs)) parts.stocks formed.stocks in
    All-map (λ (e : ℕ × ℕ). e.0 < length parts.needs) (λ (r : StockRow). (r.good, r.units)) (filter (λ r. r.supplier == i) parts.stocks)
    (λ k d below. (filtered k d below).good)

pub stocks_are_stated : (parts : PartsData) (i k : ℕ)
    → first_value (map (λ r. (r.good, r.units)) (filter (λ r. r.supplier == i) parts.stocks)) k ≡ stock_stated parts i k
unfolding stock_stated
stocks_are_stated parts i k =
    first_value-map (λ r. r.good) (λ r. r.units) k (filter (λ r. r.supplier == i) parts.stocks)
    ∙ ap (option_map (λ r. r.units)) (find-filter (λ r. r.supplier == i) (λ r. r.good == k) parts.stocks)

pub stock_is : (parts : PartsData) (i k : ℕ) → cond (offers parts i k) (unwrap_or (stock_stated parts i k) QTY_MAX) 0 ≡ stock_of parts i k
unfolding stock_of stock_stated
stock_is parts i k = refl
