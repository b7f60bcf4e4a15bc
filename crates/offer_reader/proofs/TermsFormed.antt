-- The parts of a job are well formed where terms of rows without a fault are added.
use Rattle.std.proofs.Common.{ℕ, ◌≡◌, ◌<◌, ◌≤◌, Bool, true, false, List, [], ◌∷◌, ◌++◌, length, get_or, take, fold, Option, None, Some, Ok, refl, sym, ap, ◌∙◌, subst, arith, append-nil, append_assoc, option_map}
use Rattle.std.proofs.lemmas.Bool.{false≢true}
use Rattle.std.proofs.lemmas.List.{get_or-take, length-take-le}
use Rattle.std.proofs.lemmas.List.Elements.{All-head, All-tail}
use Rattle.std.proofs.lemmas.List.Folds.{list_any_at}
use Rattle.std.proofs.lemmas.Option.{none-some, option_and_then_some}
use Rattle.std.specs.Prelude.{All, filter_map, if◌then◌else◌}
use Rattle.std.specs.List.{list_any, AllPairs}
use Rattle.tqd_base.specs.declared.limits.TheConstants.{SUPPLIERS_MAX}
use Rattle.tqd_instance.specs.PartsData.{PartsData}
use Rattle.tqd_instance.specs.Parts.{IsBelow, IsWellFormed, IsStockRow, IsTotalRow, IsShareRow, IsFeeRow, IsOverRow, SameStock}
use Rattle.tqd_instance.specs.declared.parts.PriceRow.{PriceRow}
use Rattle.tqd_instance.specs.declared.parts.StockRow.{StockRow}
use Rattle.tqd_instance.specs.declared.parts.TotalRow.{TotalRow}
use Rattle.tqd_instance.specs.declared.parts.ShareRow.{ShareRow}
use Rattle.tqd_instance.specs.declared.parts.FeeRow.{FeeRow}
use Rattle.tqd_instance.specs.declared.parts.OverRow.{OverRow}
use Rattle.bom_reader.specs.Faults.{first_fault}
use Rattle.bom_reader.specs.Rows.{Row, row_number}
use Rattle.bom_reader.proofs.FirstFault.{each-sound, fault_if-none, or-none, unless-ok, unless-value}
use Rattle.bom_reader.proofs.NameFacts.{is_same}
use Rattle.offer_reader.specs.Offers.{Wanted, good_of}
use Rattle.offer_reader.specs.Book.{BookData, HasNoTerms, IsBook, parts_of}
use Rattle.offer_reader.specs.TermForms.{kind, supplier, part, kind_of, bad_field, forms_of, is_empty}
use Rattle.offer_reader.specs.TermSteps.{IsFormed}
use Rattle.offer_reader.specs.Terms.{book_with, checked_terms, form_fault, names_fault, over_good, same_term, term_by, term_fault_after, term_of, with_term}
use Rattle.offer_reader.specs.declared.kind.TermKind.{TermKind}
use Rattle.offer_reader.specs.declared.kind.TermKind.TheVariants as of_kind
use Rattle.offer_reader.specs.declared.term.Term.{Term}
use Rattle.offer_reader.specs.declared.term.Term.TheVariants as term
use Rattle.offer_reader.specs.declared.term_fault.TermFault.TheVariants.{Field, Twice}
use Rattle.offer_reader.proofs.NumberFacts.{good_inside, good_one, number_inside, number_one}
use Rattle.offer_reader.proofs.Picked.{all_picked, pairs_picked}
use Rattle.offer_reader.proofs.RowTerms.{IsOfSupplier, Says, empty_is, kind_one, map_some, says}

-- the rows of each kind among terms
abbrev the_stock : Term → Option StockRow
the_stock (term.Stock r) = Some r
the_stock _ = None

abbrev the_total : Term → Option TotalRow
the_total (term.Total r) = Some r
the_total _ = None

abbrev the_share : Term → Option ShareRow
the_share (term.Share r) = Some r
the_share _ = None

abbrev the_fee : Term → Option FeeRow
the_fee (term.Fee r) = Some r
the_fee _ = None

abbrev the_over : Term → Option OverRow
the_over (term.Over r) = Some r
the_over _ = None

-- the winner limits that the last term on them sets
abbrev least_of : ℕ → List Term → ℕ
least_of n [] = n
least_of n (term.Winners least most ∷ terms) = least_of least terms
least_of n (_ ∷ terms) = least_of n terms

abbrev most_of : ℕ → List Term → ℕ
most_of n [] = n
most_of n (term.Winners least most ∷ terms) = most_of most terms
most_of n (_ ∷ terms) = most_of n terms

-- parts with terms, list by list
abbrev with_all : PartsData → List Term → PartsData
with_all parts terms = record {
  suppliers = parts.suppliers;
  needs = parts.needs;
  prices = parts.prices;
  stocks = parts.stocks ++ filter_map the_stock terms;
  totals = parts.totals ++ filter_map the_total terms;
  shares = parts.shares ++ filter_map the_share terms;
  fees = parts.fees ++ filter_map the_fee terms;
  overs = parts.overs ++ filter_map the_over terms;
  least_winners = least_of parts.least_winners terms;
  most_winners = most_of parts.most_winners terms;
}

lists_are : (parts : PartsData) (terms : List Term) → fold with_term parts terms ≡ with_all parts terms
lists_are parts [] = simp append-nil refl
lists_are parts (term.Stock r ∷ terms) = lists_are (with_term parts (term.Stock r)) terms ∙ rw append_assoc refl
lists_are parts (term.Total r ∷ terms) = lists_are (with_term parts (term.Total r)) terms ∙ rw append_assoc refl
lists_are parts (term.Share r ∷ terms) = lists_are (with_term parts (term.Share r)) terms ∙ rw append_assoc refl
lists_are parts (term.Fee r ∷ terms) = lists_are (with_term parts (term.Fee r)) terms ∙ rw append_assoc refl
lists_are parts (term.Winners least most ∷ terms) = lists_are (with_term parts (term.Winners least most)) terms
lists_are parts (term.Over r ∷ terms) = lists_are (with_term parts (term.Over r)) terms ∙ rw append_assoc refl

is_stock : (t : Term) (r : StockRow) → the_stock t ≡ Some r → t ≡ term.Stock r
is_stock (term.Stock s) r e = cc e
is_stock (term.Total s) r e = absurd (none-some r e)
is_stock (term.Share s) r e = absurd (none-some r e)
is_stock (term.Fee s) r e = absurd (none-some r e)
is_stock (term.Winners least most) r e = absurd (none-some r e)
is_stock (term.Over s) r e = absurd (none-some r e)

is_total : (t : Term) (r : TotalRow) → the_total t ≡ Some r → t ≡ term.Total r
is_total (term.Total s) r e = cc e
is_total (term.Stock s) r e = absurd (none-some r e)
is_total (term.Share s) r e = absurd (none-some r e)
is_total (term.Fee s) r e = absurd (none-some r e)
is_total (term.Winners least most) r e = absurd (none-some r e)
is_total (term.Over s) r e = absurd (none-some r e)

is_share : (t : Term) (r : ShareRow) → the_share t ≡ Some r → t ≡ term.Share r
is_share (term.Share s) r e = cc e
is_share (term.Stock s) r e = absurd (none-some r e)
is_share (term.Total s) r e = absurd (none-some r e)
is_share (term.Fee s) r e = absurd (none-some r e)
is_share (term.Winners least most) r e = absurd (none-some r e)
is_share (term.Over s) r e = absurd (none-some r e)

is_fee : (t : Term) (r : FeeRow) → the_fee t ≡ Some r → t ≡ term.Fee r
is_fee (term.Fee s) r e = cc e
is_fee (term.Stock s) r e = absurd (none-some r e)
is_fee (term.Total s) r e = absurd (none-some r e)
is_fee (term.Share s) r e = absurd (none-some r e)
is_fee (term.Winners least most) r e = absurd (none-some r e)
is_fee (term.Over s) r e = absurd (none-some r e)

is_over : (t : Term) (r : OverRow) → the_over t ≡ Some r → t ≡ term.Over r
is_over (term.Over s) r e = cc e
is_over (term.Stock s) r e = absurd (none-some r e)
is_over (term.Total s) r e = absurd (none-some r e)
is_over (term.Share s) r e = absurd (none-some r e)
is_over (term.Fee s) r e = absurd (none-some r e)
is_over (term.Winners least most) r e = absurd (none-some r e)

-- rows of the right forms, of which no two have one kind, supplier and part
abbrev IsSound : Row → Type 0
IsSound row = (at : ℕ) × (form_fault at row (kind_of (kind row)) ≡ None)

abbrev Apart : Row → Row → Type 0
Apart a b = IsSound a × IsSound b × (same_term b a ≡ false)

formed_kind : (row : Row) (k : TermKind) → kind_of (kind row) ≡ Some k → IsSound row → IsFormed row k
formed_kind row k is sound = record { kind_is = is; forms = none_of (bad_field (forms_of k) row) (rw is at sound.1) } where
  none_of : (o : Option ℕ) → option_map (λ number. Field sound.0 number) o ≡ None → o ≡ None
  none_of None e = refl
  none_of (Some n) e = absurd (none-some _ (sym e))

row_says : (wanted : Wanted) (suppliers : List (List ℕ)) (row : Row) (t : Term) → IsSound row → term_of wanted suppliers row ≡ Some t → Says wanted suppliers row t
row_says wanted suppliers row t sound e =
    option_and_then_some (λ k. term_by wanted suppliers k row) (kind_of (kind row)) t e (λ k is by. says wanted suppliers row k t (formed_kind row k is sound) by)

row_sound : (wanted : Wanted) (book : BookData) (earlier : List Row) (row : Row) → term_fault_after wanted book earlier row ≡ None → IsSound row
row_sound wanted book earlier row none = (row_number earlier, (or-none (form_fault (row_number earlier) row (kind_of (kind row))) _ none).0)

row_new : (wanted : Wanted) (book : BookData) (earlier : List Row) (row : Row) → term_fault_after wanted book earlier row ≡ None → list_any (same_term row) earlier ≡ false
row_new wanted book earlier row none =
    let later = (or-none (form_fault (row_number earlier) row (kind_of (kind row))) _ none).1 in
    (fault_if-none (list_any (same_term row) earlier) (Twice (row_number earlier)) None (or-none (names_fault wanted.names book (row_number earlier) row) _ later).1).0

none_at : {X : Type 0} (p : X → Bool) (xs : List X) (i : ℕ) (d : X) → i < length xs → list_any p xs ≡ false → p (get_or xs i d) ≡ false
none_at p xs i d inside none = go (p (get_or xs i d)) refl where
  go : (b : Bool) → p (get_or xs i d) ≡ b → p (get_or xs i d) ≡ false
  go true is = absurd (false≢true (sym none ∙ list_any_at p xs i d inside is))
  go false is = is

rows_sound : (wanted : Wanted) (book : BookData) (rows : List Row) → first_fault (term_fault_after wanted book) [] rows ≡ None → All IsSound rows
rows_sound wanted book rows none = λ k d inside. row_sound wanted book (take k rows) (get_or rows k d) (each-sound (term_fault_after wanted book) [] rows none k d inside)

rows_apart : (wanted : Wanted) (book : BookData) (rows : List Row) → first_fault (term_fault_after wanted book) [] rows ≡ None → AllPairs Apart rows
rows_apart wanted book rows none = λ i j d ordered inside.
    let sound = rows_sound wanted book rows none in
    let new = row_new wanted book (take j rows) (get_or rows j d) (each-sound (term_fault_after wanted book) [] rows none j d inside) in
    let before = none_at (same_term (get_or rows j d)) (take j rows) i d (omega (arith, length-take-le j rows (omega arith))) new in
    (sound i d (omega arith), sound j d inside, ap (λ (r : Row). same_term (get_or rows j d) r) (sym (get_or-take j rows i d ordered)) ∙ before)

-- the same of terms: each says something of a row, and two of them of rows apart
abbrev IsStated : Wanted → List (List ℕ) → Term → Type 0
IsStated wanted suppliers t = (row : Row) × Says wanted suppliers row t

abbrev AreApart : Wanted → List (List ℕ) → Term → Term → Type 0
AreApart wanted suppliers s t = (a : Row) × (b : Row) × Says wanted suppliers a s × Says wanted suppliers b t × (same_term b a ≡ false)

terms_stated : (wanted : Wanted) (suppliers : List (List ℕ)) (rows : List Row) → All IsSound rows → All (IsStated wanted suppliers) (filter_map (term_of wanted suppliers) rows)
terms_stated wanted suppliers rows sound = all_picked (term_of wanted suppliers) IsSound (IsStated wanted suppliers) (λ row t is e. (row, row_says wanted suppliers row t is e)) rows sound

terms_apart : (wanted : Wanted) (suppliers : List (List ℕ)) (rows : List Row) → AllPairs Apart rows → AllPairs (AreApart wanted suppliers) (filter_map (term_of wanted suppliers) rows)
terms_apart wanted suppliers rows apart =
    pairs_picked (term_of wanted suppliers) Apart (AreApart wanted suppliers)
    (λ a b s t p e f. (a, b, row_says wanted suppliers a s p.0 e, row_says wanted suppliers b t p.1 f, p.2)) rows apart

same_rows : (a b : Row) → kind b ≡ kind a → supplier b ≡ supplier a → part b ≡ part a → same_term b a ≡ false → ⊥
same_rows a b kinds suppliers parts apart =
    false≢true (sym apart ∙ rw (kinds, suppliers, parts, is_same (kind a), is_same (supplier a), is_same (part a)) refl)

-- two rows of a kind on one supplier, and on no part
of_one_supplier : (suppliers : List (List ℕ)) (a b : Row) (k : TermKind) (i : ℕ) → IsOfSupplier suppliers a k i → IsOfSupplier suppliers b k i → same_term b a ≡ false → ⊥
of_one_supplier suppliers a b k i of_a of_b apart =
    same_rows a b (kind_one a b k of_a.kind_is of_b.kind_is) (number_one suppliers (supplier b) (supplier a) i of_b.supplier_is of_a.supplier_is) (of_b.no_part ∙ sym of_a.no_part) apart

stocks_apart : (wanted : Wanted) (suppliers : List (List ℕ)) (x y : StockRow) → AreApart wanted suppliers (term.Stock x) (term.Stock y) → SameStock x y → ⊥
stocks_apart wanted suppliers x y p same =
    let b_supplier = p.3.supplier_is ∙ ap (λ i. Some i) (sym same.supplier) in
    let b_good = p.3.good_is ∙ ap (λ k. Some k) (sym same.good) in
    same_rows p.0 p.1 (kind_one p.0 p.1 of_kind.Stock p.2.kind_is p.3.kind_is) (number_one suppliers (supplier p.1) (supplier p.0) x.supplier b_supplier p.2.supplier_is)
    (good_one wanted (part p.1) (part p.0) x.good b_good p.2.good_is) p.4

totals_apart : (wanted : Wanted) (suppliers : List (List ℕ)) (x y : TotalRow) → AreApart wanted suppliers (term.Total x) (term.Total y) → x.supplier ≡ y.supplier → ⊥
totals_apart wanted suppliers x y p same =
    of_one_supplier suppliers p.0 p.1 of_kind.Total x.supplier p.2.0 (subst (IsOfSupplier suppliers p.1 of_kind.Total) (sym same) p.3.0) p.4

shares_apart : (wanted : Wanted) (suppliers : List (List ℕ)) (x y : ShareRow) → AreApart wanted suppliers (term.Share x) (term.Share y) → x.supplier ≡ y.supplier → ⊥
shares_apart wanted suppliers x y p same =
    of_one_supplier suppliers p.0 p.1 of_kind.Share x.supplier p.2.0 (subst (IsOfSupplier suppliers p.1 of_kind.Share) (sym same) p.3.0) p.4

fees_apart : (wanted : Wanted) (suppliers : List (List ℕ)) (x y : FeeRow) → AreApart wanted suppliers (term.Fee x) (term.Fee y) → x.supplier ≡ y.supplier → ⊥
fees_apart wanted suppliers x y p same =
    of_one_supplier suppliers p.0 p.1 of_kind.Fee x.supplier p.2.0 (subst (IsOfSupplier suppliers p.1 of_kind.Fee) (sym same) p.3.0) p.4

-- the good that an over row is of
over_one : (wanted : Wanted) (a b : List ℕ) (g : Option ℕ) → over_good wanted a ≡ Some g → over_good wanted b ≡ Some g → a ≡ b
over_one wanted a b g of_a of_b = go (is_empty a) (is_empty b) refl refl of_a of_b where
  go : (p q : Bool) → is_empty a ≡ p → is_empty b ≡ q → (if p then Some None else option_map (λ k. Some k) (good_of wanted a)) ≡ Some g
      → (if q then Some None else option_map (λ k. Some k) (good_of wanted b)) ≡ Some g → a ≡ b
  go true true empty_a empty_b e f = empty_is a empty_a ∙ sym (empty_is b empty_b)
  go true false empty_a empty_b e f = map_some (λ k. Some k) (good_of wanted b) g f (λ k placed is. absurd (none-some k (cc (e, is))))
  go false true empty_a empty_b e f = map_some (λ k. Some k) (good_of wanted a) g e (λ k placed is. absurd (none-some k (cc (f, is))))
  go false false empty_a empty_b e f =
      map_some (λ k. Some k) (good_of wanted a) g e (λ k placed_a is_a. map_some (λ k. Some k) (good_of wanted b) g f (λ m placed_b is_b.
      let same : m ≡ k = cc (is_a, is_b) in good_one wanted a b k placed_a (placed_b ∙ ap (λ n. Some n) same)))

over_inside : (wanted : Wanted) (name : List ℕ) (g : Option ℕ) → over_good wanted name ≡ Some g → IsBelow (length wanted.goods) g
over_inside wanted name g e = go (is_empty name) e where
  go : (b : Bool) → (if b then Some None else option_map (λ k. Some k) (good_of wanted name)) ≡ Some g → IsBelow (length wanted.goods) g
  go true f = let is : None ≡ g = cc f in subst (IsBelow (length wanted.goods)) is tt
  go false f = map_some (λ k. Some k) (good_of wanted name) g f (λ k placed is. subst (IsBelow (length wanted.goods)) is (good_inside wanted name k placed))

overs_apart : (wanted : Wanted) (suppliers : List (List ℕ)) (x y : OverRow) → AreApart wanted suppliers (term.Over x) (term.Over y) → x.good ≡ y.good → ⊥
overs_apart wanted suppliers x y p same =
    same_rows p.0 p.1 (kind_one p.0 p.1 of_kind.Over p.2.kind_is p.3.kind_is) (p.3.no_supplier ∙ sym p.2.no_supplier)
    (over_one wanted (part p.1) (part p.0) x.good (p.3.good_is ∙ ap (λ g. Some g) (sym same)) p.2.good_is) p.4

terms_are : (wanted : Wanted) (suppliers : List (List ℕ)) (s t u v : Term) → s ≡ u → t ≡ v → AreApart wanted suppliers s t → AreApart wanted suppliers u v
terms_are wanted suppliers s t u v first second p = subst (λ (x : Term). AreApart wanted suppliers x v) first (subst (λ (y : Term). AreApart wanted suppliers s y) second p)

-- the winner limits are in their range
least_small : (wanted : Wanted) (suppliers : List (List ℕ)) (terms : List Term) (n : ℕ) → n ≤ SUPPLIERS_MAX → All (IsStated wanted suppliers) terms → least_of n terms ≤ SUPPLIERS_MAX
least_small wanted suppliers [] n small all = small
least_small wanted suppliers (term.Winners least most ∷ terms) n small all = least_small wanted suppliers terms least (All-head (IsStated wanted suppliers) (term.Winners least most) terms all).1.0 (All-tail (IsStated wanted suppliers) (term.Winners least most) terms all)
least_small wanted suppliers (term.Stock r ∷ terms) n small all = least_small wanted suppliers terms n small (All-tail (IsStated wanted suppliers) (term.Stock r) terms all)
least_small wanted suppliers (term.Total r ∷ terms) n small all = least_small wanted suppliers terms n small (All-tail (IsStated wanted suppliers) (term.Total r) terms all)
least_small wanted suppliers (term.Share r ∷ terms) n small all = least_small wanted suppliers terms n small (All-tail (IsStated wanted suppliers) (term.Share r) terms all)
least_small wanted suppliers (term.Fee r ∷ terms) n small all = least_small wanted suppliers terms n small (All-tail (IsStated wanted suppliers) (term.Fee r) terms all)
least_small wanted suppliers (term.Over r ∷ terms) n small all = least_small wanted suppliers terms n small (All-tail (IsStated wanted suppliers) (term.Over r) terms all)

most_small : (wanted : Wanted) (suppliers : List (List ℕ)) (terms : List Term) (n : ℕ) → n ≤ SUPPLIERS_MAX → All (IsStated wanted suppliers) terms → most_of n terms ≤ SUPPLIERS_MAX
most_small wanted suppliers [] n small all = small
most_small wanted suppliers (term.Winners least most ∷ terms) n small all = most_small wanted suppliers terms most (All-head (IsStated wanted suppliers) (term.Winners least most) terms all).1.1 (All-tail (IsStated wanted suppliers) (term.Winners least most) terms all)
most_small wanted suppliers (term.Stock r ∷ terms) n small all = most_small wanted suppliers terms n small (All-tail (IsStated wanted suppliers) (term.Stock r) terms all)
most_small wanted suppliers (term.Total r ∷ terms) n small all = most_small wanted suppliers terms n small (All-tail (IsStated wanted suppliers) (term.Total r) terms all)
most_small wanted suppliers (term.Share r ∷ terms) n small all = most_small wanted suppliers terms n small (All-tail (IsStated wanted suppliers) (term.Share r) terms all)
most_small wanted suppliers (term.Fee r ∷ terms) n small all = most_small wanted suppliers terms n small (All-tail (IsStated wanted suppliers) (term.Fee r) terms all)
most_small wanted suppliers (term.Over r ∷ terms) n small all = most_small wanted suppliers terms n small (All-tail (IsStated wanted suppliers) (term.Over r) terms all)

-- each row is in its range
stock_row : (wanted : Wanted) (suppliers : List (List ℕ)) (goods : ℕ) (t : Term) (r : StockRow) → length wanted.goods ≡ goods → IsStated wanted suppliers t → the_stock t ≡ Some r → IsStockRow (length suppliers) goods r
stock_row wanted suppliers goods t r size p e =
    let s = subst (IsStated wanted suppliers) (is_stock t r e) p in
    record { supplier = number_inside suppliers (supplier s.0) r.supplier s.1.supplier_is; good = subst (λ n. r.good < n) size (good_inside wanted (part s.0) r.good s.1.good_is); units = s.1.units }

total_row : (wanted : Wanted) (suppliers : List (List ℕ)) (t : Term) (r : TotalRow) → IsStated wanted suppliers t → the_total t ≡ Some r → IsTotalRow (length suppliers) r
total_row wanted suppliers t r p e =
    let s = subst (IsStated wanted suppliers) (is_total t r e) p in
    record { supplier = number_inside suppliers (supplier s.0) r.supplier s.1.0.supplier_is; units = s.1.1 }

share_row : (wanted : Wanted) (suppliers : List (List ℕ)) (t : Term) (r : ShareRow) → IsStated wanted suppliers t → the_share t ≡ Some r → IsShareRow (length suppliers) r
share_row wanted suppliers t r p e =
    let s = subst (IsStated wanted suppliers) (is_share t r e) p in
    record { supplier = number_inside suppliers (supplier s.0) r.supplier s.1.0.supplier_is; low = s.1.1; high = s.1.2 }

fee_row : (wanted : Wanted) (suppliers : List (List ℕ)) (t : Term) (r : FeeRow) → IsStated wanted suppliers t → the_fee t ≡ Some r → IsFeeRow (length suppliers) r
fee_row wanted suppliers t r p e =
    let s = subst (IsStated wanted suppliers) (is_fee t r e) p in
    record { supplier = number_inside suppliers (supplier s.0) r.supplier s.1.0.supplier_is; fee = s.1.1 }

over_row : (wanted : Wanted) (suppliers : List (List ℕ)) (goods : ℕ) (t : Term) (r : OverRow) → length wanted.goods ≡ goods → IsStated wanted suppliers t → the_over t ≡ Some r → IsOverRow goods r
over_row wanted suppliers goods t r size p e =
    let s = subst (IsStated wanted suppliers) (is_over t r e) p in
    record { good = subst (λ n. IsBelow n r.good) size (over_inside wanted (part s.0) r.good s.1.good_is); over = s.1.over }

well_formed : (wanted : Wanted) (suppliers : List (List ℕ)) (needs : List ℕ) (prices : List PriceRow) (terms : List Term) → IsWellFormed (parts_of needs (length suppliers) prices)
    → length wanted.goods ≡ length needs → All (IsStated wanted suppliers) terms → AllPairs (AreApart wanted suppliers) terms → IsWellFormed (with_all (parts_of needs (length suppliers) prices) terms)
well_formed wanted suppliers needs prices terms formed size stated apart = record {
  suppliers = formed.suppliers;
  needs = formed.needs;
  prices = formed.prices;
  stocks = all_picked the_stock (IsStated wanted suppliers) (IsStockRow (length suppliers) (length needs)) (λ t r p e. stock_row wanted suppliers (length needs) t r size p e) terms stated;
  totals = all_picked the_total (IsStated wanted suppliers) (IsTotalRow (length suppliers)) (λ t r p e. total_row wanted suppliers t r p e) terms stated;
  shares = all_picked the_share (IsStated wanted suppliers) (IsShareRow (length suppliers)) (λ t r p e. share_row wanted suppliers t r p e) terms stated;
  fees = all_picked the_fee (IsStated wanted suppliers) (IsFeeRow (length suppliers)) (λ t r p e. fee_row wanted suppliers t r p e) terms stated;
  overs = all_picked the_over (IsStated wanted suppliers) (IsOverRow (length needs)) (λ t r p e. over_row wanted suppliers (length needs) t r size p e) terms stated;
  least_winners = least_small wanted suppliers terms 0 (omega arith) stated;
  most_winners = most_small wanted suppliers terms 64 (omega arith) stated;
  one_price = formed.one_price;
  one_stock = pairs_picked the_stock (AreApart wanted suppliers) (λ a b. SameStock a b → ⊥)
      (λ s t x y p e f. stocks_apart wanted suppliers x y (terms_are wanted suppliers s t (term.Stock x) (term.Stock y) (is_stock s x e) (is_stock t y f) p)) terms apart;
  one_total = pairs_picked the_total (AreApart wanted suppliers) (λ a b. a.supplier ≡ b.supplier → ⊥)
      (λ s t x y p e f. totals_apart wanted suppliers x y (terms_are wanted suppliers s t (term.Total x) (term.Total y) (is_total s x e) (is_total t y f) p)) terms apart;
  one_share = pairs_picked the_share (AreApart wanted suppliers) (λ a b. a.supplier ≡ b.supplier → ⊥)
      (λ s t x y p e f. shares_apart wanted suppliers x y (terms_are wanted suppliers s t (term.Share x) (term.Share y) (is_share s x e) (is_share t y f) p)) terms apart;
  one_fee = pairs_picked the_fee (AreApart wanted suppliers) (λ a b. a.supplier ≡ b.supplier → ⊥)
      (λ s t x y p e f. fees_apart wanted suppliers x y (terms_are wanted suppliers s t (term.Fee x) (term.Fee y) (is_fee s x e) (is_fee t y f) p)) terms apart;
  one_over = pairs_picked the_over (AreApart wanted suppliers) (λ a b. a.good ≡ b.good → ⊥)
      (λ s t x y p e f. overs_apart wanted suppliers x y (terms_are wanted suppliers s t (term.Over x) (term.Over y) (is_over s x e) (is_over t y f) p)) terms apart;
  few_intervals = λ i froms are. formed.few_intervals i froms (record { rising = are.rising; stated = are.stated });
}

-- a book with the terms of rows is a book
pub terms_formed : (wanted : Wanted) (book : BookData) (rows : List Row) (terms : List Term) → IsBook book → HasNoTerms book.parts → length wanted.goods ≡ length book.parts.needs
    → checked_terms wanted book rows ≡ Ok terms → IsBook (book_with book terms)
terms_formed wanted book rows terms is no_terms size read =
    let sound = unless-ok (first_fault (term_fault_after wanted book) [] rows) (filter_map (term_of wanted book.suppliers) rows) terms read in
    let picked = unless-value (first_fault (term_fault_after wanted book) [] rows) (filter_map (term_of wanted book.suppliers) rows) terms read in
    let plain : book.parts ≡ parts_of book.parts.needs (length book.suppliers) book.parts.prices = no_terms ∙ ap (λ n. parts_of book.parts.needs n book.parts.prices) is.suppliers in
    let stated = subst (λ (list : List Term). All (IsStated wanted book.suppliers) list) picked (terms_stated wanted book.suppliers rows (rows_sound wanted book rows sound)) in
    let apart = subst (λ (list : List Term). AllPairs (AreApart wanted book.suppliers) list) picked (terms_apart wanted book.suppliers rows (rows_apart wanted book rows sound)) in
    let formed = well_formed wanted book.suppliers book.parts.needs book.parts.prices terms (subst IsWellFormed plain is.formed) size stated apart in
    record {
      suppliers = ap (λ (p : PartsData). p.suppliers) (lists_are book.parts terms) ∙ is.suppliers;
      few = is.few;
      formed = subst IsWellFormed (sym (lists_are book.parts terms)) (subst (λ (p : PartsData). IsWellFormed (with_all p terms)) (sym plain) formed);
    }
