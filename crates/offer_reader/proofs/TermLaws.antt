-- When terms come.
use Rattle.std.proofs.Common.{◌≡◌, ◌≢◌, ℕ, ◌<◌, ◌≤◌, Bool, true, false, not, ◌&&◌, ◌||◌, List, [], ◌∷◌, length, filter, get_or, take, Option, None, Some, Ok, is_some, unwrap_or, refl, sym, ap, ◌∙◌, ◌⊎◌, inl, inr, arith}
use Rattle.std.proofs.lemmas.Bool.{and_cases, and_from, and_parts, false≢true, le-ltb, not-false, or_parts}
use Rattle.std.proofs.lemmas.List.{get_or-take, get_or_default, length-take-le}
use Rattle.std.proofs.lemmas.List.Elements.{All-head, All-tail}
use Rattle.std.proofs.lemmas.List.Folds.{list_any_at, list_any_none}
use Rattle.std.proofs.lemmas.Option.{none-some}
use Rattle.std.specs.Cmp.Lexicographic.{bytes_decides}
use Rattle.std.specs.List.{AllZip, list_any, position_or_len}
use Rattle.std.specs.Prelude.{All, IsSome, codes, filter_map, option_and_then, option_map}
use Rattle.std.specs.Str.{bytes_eq}
use Rattle.tqd_base.specs.declared.limits.TheConstants.{QTY_MAX, SUPPLIERS_MAX}
use Rattle.money.specs.Number.{qty_of}
use Rattle.money.specs.Price.{price_of}
use Rattle.tqd_instance.specs.declared.parts.Over.{Over}
use Rattle.tqd_instance.specs.Parts.{WHOLE}
use Rattle.bom_reader.specs.Faults.{first_fault}
use Rattle.bom_reader.specs.Laws.{IsName}
use Rattle.bom_reader.specs.Names.{has_name, number_of}
use Rattle.bom_reader.specs.Rows.{Row, row_number}
use Rattle.bom_reader.proofs.FirstFault.{each-sound, fault_if-none, or-none, sound-each, unless-ok, unless-value}
use Rattle.bom_reader.proofs.Places.{place_inside, place_past, position-inside}
use Rattle.offer_reader.specs.Book.{BookData}
use Rattle.offer_reader.specs.Offers.{Wanted, good_of}
use Rattle.offer_reader.specs.TermForms.{PERCENT_MAX, bad_field, forms_of, high, is_any, is_empty, kind, kind_name, kind_of, low, part, supplier}
use Rattle.offer_reader.specs.TermLaws.{HasForms, IsGoodOrAll, IsGreatestShare, IsKnownRow, IsNumberOr, IsOver, IsTermRow, SameTerm, StatesTerm, StatesTerms, TermsAreWhole, takes_part}
use Rattle.offer_reader.specs.Terms.{checked_terms, form_fault, knows_part, knows_supplier, names_fault, number_or, over_good, over_in, same_term, term_by, term_fault_after, term_of}
use Rattle.offer_reader.specs.declared.kind.TermKind.{TermKind}
use Rattle.offer_reader.specs.declared.kind.TermKind.TheVariants as of_kind
use Rattle.offer_reader.specs.declared.term.Term.{Term}
use Rattle.offer_reader.specs.declared.term.Term.TheVariants as term
use Rattle.offer_reader.specs.declared.term_fault.TermFault.TheVariants.{Field, UnknownSupplier, UnknownPart, Twice}
use Rattle.offer_reader.proofs.TermFormFacts.{any-from, any-to, empty-from, empty-to, false-from, forms-from, forms-to, kind-from, kind-to, part-from, part-to, supplier-from, supplier-to}

-- numbers, where the text may be empty
value-or : (o : Option ℕ) (default : ℕ) → IsSome o → o ≡ Some (unwrap_or o default)
value-or None default e = absurd (false≢true e)
value-or (Some n) default e = refl

number-to : (default most : ℕ) (text : List ℕ) → (text ≡ []) ⊎ IsSome (qty_of 0 most text) → IsNumberOr default most text (number_or default most text)
number-to default most text (inl none) = inl (none, rw none refl)
number-to default most text (inr some) = inr (value-or (qty_of 0 most text) default some)

number-from : (default most : ℕ) (text : List ℕ) (n : ℕ) → IsNumberOr default most text n → number_or default most text ≡ n
number-from default most text n (inl none) = rw (none.0, none.1) refl
number-from default most text n (inr some) = rw some refl

share-to : (text : List ℕ) → (text ≡ []) ⊎ IsSome (qty_of 0 WHOLE text) → IsGreatestShare text (qty_of 0 WHOLE text)
share-to text (inl none) = inl (none, rw none refl)
share-to text (inr some) = inr (unwrap_or (qty_of 0 WHOLE text) 0, value-or (qty_of 0 WHOLE text) 0 some, value-or (qty_of 0 WHOLE text) 0 some)

share-from : (text : List ℕ) (greatest : Option ℕ) → IsGreatestShare text greatest → qty_of 0 WHOLE text ≡ greatest
share-from text greatest (inl none) = rw (none.0, none.1) refl
share-from text greatest (inr some) = some.1 ∙ sym some.2

over-to : (text : List ℕ) → (text ≡ codes "any") ⊎ IsSome (qty_of 0 PERCENT_MAX text) → IsOver text (over_in text)
over-to text (inl any) = inl (any, rw any refl)
over-to text (inr some) = go (is_any text) refl where
  go : (b : Bool) → is_any text ≡ b → IsOver text (over_in text)
  go true is = inl (any-to text is, rw is refl)
  go false is = inr (unwrap_or (qty_of 0 PERCENT_MAX text) 0, value-or (qty_of 0 PERCENT_MAX text) 0 some, rw is refl)

over-from : (text : List ℕ) (over : Over) → IsOver text over → over_in text ≡ over
over-from text over (inl any) = rw (any-from text any.0, any.1) refl
over-from text over (inr some) =
    let percent : is_any text ≡ false = false-from (is_any text) (any-to text) (λ any. no-number (rw any at some.1)) in
    rw (percent, some.1, some.2) refl where
      no-number : qty_of 0 PERCENT_MAX (codes "any") ≢ Some some.0
      no-number e = none-some some.0 e

-- a name takes part where it is among the names
named : (text : List ℕ) → IsName text → is_empty text ≡ false
named text is = false-from (is_empty text) (empty-to text) (λ none. let some = is.some in let short : 1 ≤ length text = some in none-short none short) where
  none-short : text ≡ [] → ¬ (1 ≤ length text)
  none-short none some = let zero_long : length text ≡ 0 = ap length none in omega (arith, zero_long, some)

supplier-in : (names : List (List ℕ)) (name : List ℕ) → IsName name → (is_empty name || has_name names name) ≡ true → number_of names name ≡ Some (position_or_len (bytes_eq name) names)
supplier-in names name is e =
    let there : has_name names name ≡ true = rw (named name is) at e in
    position-inside (bytes_eq name) names (place_inside (bytes_eq name) names there)

supplier-out : (names : List (List ℕ)) (name : List ℕ) → (is_empty name || has_name names name) ≡ false → number_of names name ≡ None
supplier-out names name e =
    let past = place_past (bytes_eq name) names (or_parts (is_empty name) (has_name names name) e).1 in
    rw (le-ltb (position_or_len (bytes_eq name) names) (length names) (omega (arith, past))) refl

good-in : (wanted : Wanted) (name : List ℕ) → IsName name → (is_empty name || is_some (good_of wanted name)) ≡ true → good_of wanted name ≡ Some (unwrap_or (good_of wanted name) 0)
good-in wanted name is e = value-or (good_of wanted name) 0 (rw (named name is) at e)

no-value : {X : Type 0} (o : Option X) → is_some o ≡ false → o ≡ None
no-value None e = refl
no-value (Some x) e = absurd (false≢true (sym e))

good-out : (wanted : Wanted) (name : List ℕ) → (is_empty name || is_some (good_of wanted name)) ≡ false → good_of wanted name ≡ None
good-out wanted name e = no-value (good_of wanted name) (or_parts (is_empty name) (is_some (good_of wanted name)) e).1

over-good-to : (wanted : Wanted) (name : List ℕ) → (is_empty name || is_some (good_of wanted name)) ≡ true → (good : Option ℕ) × (over_good wanted name ≡ Some good) × IsGoodOrAll wanted name good
over-good-to wanted name e = go (is_empty name) refl where
  go : (b : Bool) → is_empty name ≡ b → (good : Option ℕ) × (over_good wanted name ≡ Some good) × IsGoodOrAll wanted name good
  go true is = (None, rw is refl, inl (empty-to name is, refl))
  go false is =
      let some : is_some (good_of wanted name) ≡ true = rw is at e in
      let k = unwrap_or (good_of wanted name) 0 in
      let there = value-or (good_of wanted name) 0 some in
      (Some k, rw is (ap (option_map (λ (n : ℕ). Some n)) there), inr (k, λ none. false≢true (sym is ∙ empty-from name none), there, refl))

over-good-from : (wanted : Wanted) (name : List ℕ) (good : Option ℕ) → IsGoodOrAll wanted name good → over_good wanted name ≡ Some good
over-good-from wanted name good (inl all) = rw (empty-from name all.0, all.1) refl
over-good-from wanted name good (inr one) = rw (false-from (is_empty name) (empty-to name) one.1, one.2, one.3) refl

-- the parts of a row that take part
abbrev supplier_in : List (List ℕ) → Row → Bool
supplier_in suppliers row = is_empty (supplier row) || has_name suppliers (supplier row)

abbrev part_in : Wanted → Row → Bool
part_in wanted row = is_empty (part row) || is_some (good_of wanted (part row))

-- the term of a row that takes part
record HasTerm (wanted : Wanted) (suppliers : List (List ℕ)) (row : Row) : Type 0 where
  pub stated : Term
  pub term_is : term_of wanted suppliers row ≡ Some stated
  pub states : StatesTerm wanted suppliers row stated

of-kind : (wanted : Wanted) (suppliers : List (List ℕ)) (row : Row) (k : TermKind) → kind row ≡ kind_name k → term_of wanted suppliers row ≡ term_by wanted suppliers k row
of-kind wanted suppliers row k is = ap (option_and_then (λ other. term_by wanted suppliers other row)) (kind-from (kind row) k is)

term-to : (wanted : Wanted) (suppliers : List (List ℕ)) (row : Row) (k : TermKind) → kind row ≡ kind_name k → HasForms (forms_of k) row → supplier_in suppliers row ≡ true → part_in wanted row ≡ true → HasTerm wanted suppliers row
term-to wanted suppliers row of_kind.Stock is forms sells good =
    let number = supplier-in suppliers (supplier row) forms.supplier_form sells in
    let place = good-in wanted (part row) forms.part_form good in
    record {
      stated = term.Stock (record { supplier = position_or_len (bytes_eq (supplier row)) suppliers; good = unwrap_or (good_of wanted (part row)) 0; units = number_or 0 QTY_MAX (high row) });
      term_is = of-kind wanted suppliers row of_kind.Stock is ∙ rw (number, place) refl;
      states = (is, number, place, value-or (qty_of 0 QTY_MAX (high row)) 0 forms.high_form);
    }
term-to wanted suppliers row of_kind.Total is forms sells good =
    let number = supplier-in suppliers (supplier row) forms.supplier_form sells in
    record {
      stated = term.Total (record { supplier = position_or_len (bytes_eq (supplier row)) suppliers; units = number_or 0 QTY_MAX (high row) });
      term_is = of-kind wanted suppliers row of_kind.Total is ∙ rw number refl;
      states = (is, number, value-or (qty_of 0 QTY_MAX (high row)) 0 forms.high_form);
    }
term-to wanted suppliers row of_kind.Share is forms sells good =
    let number = supplier-in suppliers (supplier row) forms.supplier_form sells in
    record {
      stated = term.Share (record { supplier = position_or_len (bytes_eq (supplier row)) suppliers; low = number_or 0 WHOLE (low row); high = qty_of 0 WHOLE (high row) });
      term_is = of-kind wanted suppliers row of_kind.Share is ∙ rw number refl;
      states = (is, number, number-to 0 WHOLE (low row) forms.low_form, share-to (high row) forms.high_form);
    }
term-to wanted suppliers row of_kind.Fee is forms sells good =
    let number = supplier-in suppliers (supplier row) forms.supplier_form sells in
    record {
      stated = term.Fee (record { supplier = position_or_len (bytes_eq (supplier row)) suppliers; fee = unwrap_or (price_of (high row)) 0 });
      term_is = of-kind wanted suppliers row of_kind.Fee is ∙ rw number refl;
      states = (is, number, value-or (price_of (high row)) 0 forms.high_form);
    }
term-to wanted suppliers row of_kind.Winners is forms sells good = record {
  stated = term.Winners (number_or 0 SUPPLIERS_MAX (low row)) (number_or SUPPLIERS_MAX SUPPLIERS_MAX (high row));
  term_is = of-kind wanted suppliers row of_kind.Winners is;
  states = (is, number-to 0 SUPPLIERS_MAX (low row) forms.low_form, number-to SUPPLIERS_MAX SUPPLIERS_MAX (high row) forms.high_form);
}
term-to wanted suppliers row of_kind.Over is forms sells good =
    let place = over-good-to wanted (part row) good in
    record {
      stated = term.Over (record { good = place.0; over = over_in (high row) });
      term_is = of-kind wanted suppliers row of_kind.Over is ∙ rw place.1 refl;
      states = (is, place.2, over-to (high row) forms.high_form);
    }

-- a row that takes no part states none
no-supplier : (wanted : Wanted) (suppliers : List (List ℕ)) (row : Row) (k : TermKind) → HasForms (forms_of k) row → supplier_in suppliers row ≡ false → term_by wanted suppliers k row ≡ None
no-supplier wanted suppliers row of_kind.Stock forms out = rw (supplier-out suppliers (supplier row) out) refl
no-supplier wanted suppliers row of_kind.Total forms out = rw (supplier-out suppliers (supplier row) out) refl
no-supplier wanted suppliers row of_kind.Share forms out = rw (supplier-out suppliers (supplier row) out) refl
no-supplier wanted suppliers row of_kind.Fee forms out = rw (supplier-out suppliers (supplier row) out) refl
no-supplier wanted suppliers row of_kind.Winners forms out = absurd (false≢true (sym (or_parts (is_empty (supplier row)) (has_name suppliers (supplier row)) out).0 ∙ empty-from (supplier row) forms.supplier_form))
no-supplier wanted suppliers row of_kind.Over forms out = absurd (false≢true (sym (or_parts (is_empty (supplier row)) (has_name suppliers (supplier row)) out).0 ∙ empty-from (supplier row) forms.supplier_form))

none-of : {A B : Type 0} (f : A → Option B) (o : Option A) → ((a : A) → f a ≡ None) → option_and_then f o ≡ None
none-of f None none = refl
none-of f (Some a) none = none a

empty-part : (wanted : Wanted) (row : Row) → part row ≡ [] → part_in wanted row ≢ false
empty-part wanted row none out = false≢true (sym (or_parts (is_empty (part row)) (is_some (good_of wanted (part row))) out).0 ∙ empty-from (part row) none)

no-good : (wanted : Wanted) (suppliers : List (List ℕ)) (row : Row) (k : TermKind) → HasForms (forms_of k) row → part_in wanted row ≡ false → term_by wanted suppliers k row ≡ None
no-good wanted suppliers row of_kind.Stock forms out = none-of _ (number_of suppliers (supplier row)) (λ i. rw (good-out wanted (part row) out) refl)
no-good wanted suppliers row of_kind.Total forms out = absurd (empty-part wanted row forms.part_form out)
no-good wanted suppliers row of_kind.Share forms out = absurd (empty-part wanted row forms.part_form out)
no-good wanted suppliers row of_kind.Fee forms out = absurd (empty-part wanted row forms.part_form out)
no-good wanted suppliers row of_kind.Winners forms out = absurd (empty-part wanted row forms.part_form out)
no-good wanted suppliers row of_kind.Over forms out = rw ((or_parts (is_empty (part row)) (is_some (good_of wanted (part row))) out).0, good-out wanted (part row) out) refl

no-term : (wanted : Wanted) (suppliers : List (List ℕ)) (row : Row) → IsTermRow row → takes_part wanted suppliers row ≡ false → term_of wanted suppliers row ≡ None
no-term wanted suppliers row is out = elim (and_cases (supplier_in suppliers row) (part_in wanted row) out) [
  | inl sells ↦ of-kind wanted suppliers row is.0 is.1 ∙ no-supplier wanted suppliers row is.0 is.2 sells
  | inr good ↦ of-kind wanted suppliers row is.0 is.1 ∙ no-good wanted suppliers row is.0 is.2 good
]

-- the term that a row states is its term
term-from : (wanted : Wanted) (suppliers : List (List ℕ)) (row : Row) (stated : Term) → StatesTerm wanted suppliers row stated → term_of wanted suppliers row ≡ Some stated
term-from wanted suppliers row (term.Stock r) h = of-kind wanted suppliers row of_kind.Stock h.0 ∙ rw (h.1, h.2, h.3) refl
term-from wanted suppliers row (term.Total r) h = of-kind wanted suppliers row of_kind.Total h.0 ∙ rw (h.1, h.2) refl
term-from wanted suppliers row (term.Share r) h = of-kind wanted suppliers row of_kind.Share h.0 ∙ rw (h.1, number-from 0 WHOLE (low row) r.low h.2, share-from (high row) r.high h.3) refl
term-from wanted suppliers row (term.Fee r) h = of-kind wanted suppliers row of_kind.Fee h.0 ∙ rw (h.1, h.2) refl
term-from wanted suppliers row (term.Winners least most) h =
    of-kind wanted suppliers row of_kind.Winners h.0 ∙ rw (number-from 0 SUPPLIERS_MAX (low row) least h.1, number-from SUPPLIERS_MAX SUPPLIERS_MAX (high row) most h.2) refl
term-from wanted suppliers row (term.Over r) h = of-kind wanted suppliers row of_kind.Over h.0 ∙ rw (over-good-from wanted (part row) r.good h.1, over-from (high row) r.over h.2) refl

-- the terms of rows
terms-to : (wanted : Wanted) (suppliers : List (List ℕ)) (rows : List Row) → All IsTermRow rows → AllZip (StatesTerm wanted suppliers) (filter (takes_part wanted suppliers) rows) (filter_map (term_of wanted suppliers) rows)
terms-to wanted suppliers [] all = tt
terms-to wanted suppliers (row ∷ rows) all = go (takes_part wanted suppliers row) refl (All-head IsTermRow row rows all) (terms-to wanted suppliers rows (All-tail IsTermRow row rows all)) where
  go : (b : Bool) → takes_part wanted suppliers row ≡ b → IsTermRow row → AllZip (StatesTerm wanted suppliers) (filter (takes_part wanted suppliers) rows) (filter_map (term_of wanted suppliers) rows)
      → AllZip (StatesTerm wanted suppliers) (filter (takes_part wanted suppliers) (row ∷ rows)) (filter_map (term_of wanted suppliers) (row ∷ rows))
  go true is of_row rest =
      let p = and_parts (supplier_in suppliers row) (part_in wanted row) is in
      let has = term-to wanted suppliers row of_row.0 of_row.1 of_row.2 p.0 p.1 in
      rw (is, has.term_is) (has.states, rest)
  go false is of_row rest = rw (is, no-term wanted suppliers row of_row is) rest

terms-from : (wanted : Wanted) (suppliers : List (List ℕ)) (rows : List Row) (terms : List Term) → All IsTermRow rows → AllZip (StatesTerm wanted suppliers) (filter (takes_part wanted suppliers) rows) terms → filter_map (term_of wanted suppliers) rows ≡ terms
terms-from wanted suppliers [] [] all zip = refl
terms-from wanted suppliers [] (stated ∷ terms) all zip = absurd zip
terms-from wanted suppliers (row ∷ rows) terms all zip = go (takes_part wanted suppliers row) refl terms zip (All-head IsTermRow row rows all) (λ later. terms-from wanted suppliers rows later (All-tail IsTermRow row rows all)) where
  go : (b : Bool) → takes_part wanted suppliers row ≡ b → (terms : List Term) → AllZip (StatesTerm wanted suppliers) (filter (takes_part wanted suppliers) (row ∷ rows)) terms → IsTermRow row
      → ((later : List Term) → AllZip (StatesTerm wanted suppliers) (filter (takes_part wanted suppliers) rows) later → filter_map (term_of wanted suppliers) rows ≡ later)
      → filter_map (term_of wanted suppliers) (row ∷ rows) ≡ terms
  go true is [] zip of_row rest = absurd (rw is at zip)
  go true is (stated ∷ later) zip of_row rest =
      let parts : StatesTerm wanted suppliers row stated × AllZip (StatesTerm wanted suppliers) (filter (takes_part wanted suppliers) rows) later = rw is at zip in
      rw (term-from wanted suppliers row stated parts.0, rest later parts.1) refl
  go false is later zip of_row rest = rw (no-term wanted suppliers row of_row is) (rest later (rw is at zip))

-- a row without a fault
record IsSound (wanted : Wanted) (book : BookData) (earlier : List Row) (row : Row) : Type 0 where
  pub known : IsKnownRow wanted book row
  pub new : list_any (same_term row) earlier ≡ false

pub form-to : (at : ℕ) (row : Row) → form_fault at row (kind_of (kind row)) ≡ None → IsTermRow row
form-to at row none = go (kind_of (kind row)) refl none where
  go : (o : Option TermKind) → kind_of (kind row) ≡ o → form_fault at row o ≡ None → IsTermRow row
  go None is e = absurd (none-some _ (sym e))
  go (Some k) is e = (k, kind-to (kind row) k is, forms-to (forms_of k) row (sound (bad_field (forms_of k) row) e)) where
    sound : (o : Option ℕ) → option_map (λ number. Field at number) o ≡ None → o ≡ None
    sound None f = refl
    sound (Some number) f = absurd (none-some (Field at number) (sym f))

pub form-from : (at : ℕ) (row : Row) → IsTermRow row → form_fault at row (kind_of (kind row)) ≡ None
form-from at row is = rw (kind-from (kind row) is.0 is.1, forms-from (forms_of is.0) row is.2) refl

sound-at : (wanted : Wanted) (book : BookData) (earlier : List Row) (row : Row) → term_fault_after wanted book earlier row ≡ None → IsSound wanted book earlier row
sound-at wanted book earlier row none =
    let at = row_number earlier in
    let a = or-none (form_fault at row (kind_of (kind row))) _ none in
    let b = or-none (names_fault wanted.names book at row) _ a.1 in
    let c = fault_if-none (not (knows_supplier book (supplier row))) (UnknownSupplier at) _ b.0 in
    let d = fault_if-none (not (knows_part wanted.names book (part row))) (UnknownPart at) None c.1 in
    record {
      known = record {
        formed = form-to at row a.0;
        known_supplier = supplier-to book row (not-false (knows_supplier book (supplier row)) c.0);
        known_part = part-to wanted book row (not-false (knows_part wanted.names book (part row)) d.0);
      };
      new = (fault_if-none (list_any (same_term row) earlier) (Twice at) None b.1).0;
    }

-- rows of one kind, supplier and part
pub same-from : (a b : Row) → SameTerm a b → same_term a b ≡ true
same-from a b same = and_from (bytes_eq (kind a) (kind b) && bytes_eq (supplier a) (supplier b)) (bytes_eq (part a) (part b))
    (and_from (bytes_eq (kind a) (kind b)) (bytes_eq (supplier a) (supplier b)) ((bytes_decides (kind a) (kind b)).1 same.kind_is) ((bytes_decides (supplier a) (supplier b)).1 same.supplier_is))
    ((bytes_decides (part a) (part b)).1 same.part_is)

pub same-to : (a b : Row) → same_term a b ≡ true → SameTerm a b
same-to a b e =
    let p = and_parts (bytes_eq (kind a) (kind b) && bytes_eq (supplier a) (supplier b)) (bytes_eq (part a) (part b)) e in
    let q = and_parts (bytes_eq (kind a) (kind b)) (bytes_eq (supplier a) (supplier b)) p.0 in
    record { kind_is = (bytes_decides (kind a) (kind b)).0 q.0; supplier_is = (bytes_decides (supplier a) (supplier b)).0 q.1; part_is = (bytes_decides (part a) (part b)).0 p.1 }

flipped : (a b : Row) → SameTerm a b → SameTerm b a
flipped a b same = record { kind_is = sym same.kind_is; supplier_is = sym same.supplier_is; part_is = sym same.part_is }

-- terms come
pub terms-made : (wanted : Wanted) (book : BookData) (rows : List Row) → first_fault (term_fault_after wanted book) [] rows ≡ None → StatesTerms wanted book rows (filter_map (term_of wanted book.suppliers) rows)
terms-made wanted book rows none = record {
  each_row = λ i d inside. (sound-at wanted book (take i rows) (get_or rows i d) (each-sound (term_fault_after wanted book) [] rows none i d inside)).known;
  distinct = λ i j d ordered inside same.
      let last = get_or rows j d in
      let among : i < length (take j rows) = rw (length-take-le j rows (omega arith)) ordered in
      let twice : list_any (same_term last) (take j rows) ≡ true = list_any_at (same_term last) (take j rows) i d among (rw (get_or-take j rows i d ordered) (same-from last (get_or rows i d) (flipped (get_or rows i d) last same))) in
      false≢true (sym (sound-at wanted book (take j rows) last (each-sound (term_fault_after wanted book) [] rows none j d inside)).new ∙ twice);
  terms_are = terms-to wanted book.suppliers rows (λ i d inside. (sound-at wanted book (take i rows) (get_or rows i d) (each-sound (term_fault_after wanted book) [] rows none i d inside)).known.formed);
}

whole-to : (wanted : Wanted) (book : BookData) (rows : List Row) (terms : List Term) → checked_terms wanted book rows ≡ Ok terms → StatesTerms wanted book rows terms
whole-to wanted book rows terms e =
    let value = filter_map (term_of wanted book.suppliers) rows in
    let none = unless-ok (first_fault (term_fault_after wanted book) [] rows) value terms e in
    let is = unless-value (first_fault (term_fault_after wanted book) [] rows) value terms e in
    rw (← is) (terms-made wanted book rows none)

-- a row among rows that state terms
pub known-from : (wanted : Wanted) (book : BookData) (at : ℕ) (row : Row) → IsKnownRow wanted book row → (form_fault at row (kind_of (kind row)) ≡ None) × (names_fault wanted.names book at row ≡ None)
known-from wanted book at row is = (form-from at row is.formed, rw (supplier-from book row is.known_supplier, part-from wanted book row is.known_part) refl)

sound-row : (wanted : Wanted) (book : BookData) (rows : List Row) (terms : List Term) → StatesTerms wanted book rows terms → (i : ℕ) (d : Row) → i < length rows → term_fault_after wanted book (take i rows) (get_or rows i d) ≡ None
sound-row wanted book rows terms h i d inside =
    let row = get_or rows i d in
    let known = known-from wanted book (row_number (take i rows)) row (h.each_row i d inside) in
    let other : All (λ (r : Row). same_term row r ≡ false) (take i rows) = λ k e among.
    let before : k < i = omega (arith, length-take-le i rows (omega arith)) in
    let same : get_or (take i rows) k e ≡ get_or rows k d = get_or-take i rows k e before ∙ get_or_default rows k e d (omega arith) in
    not-same row (get_or (take i rows) k e) (rw same (h.distinct k i d before inside)) in
    let once = list_any_none (same_term row) (take i rows) other in
    rw (known.0, known.1, once) refl where
      not-same : (a b : Row) → ¬ (SameTerm b a) → same_term a b ≡ false
      not-same a b differ = false-from (same_term a b) (λ same. flipped a b (same-to a b same)) differ

pub terms-sound : (wanted : Wanted) (book : BookData) (rows : List Row) (terms : List Term) → StatesTerms wanted book rows terms → first_fault (term_fault_after wanted book) [] rows ≡ None
terms-sound wanted book rows terms h = sound-each (term_fault_after wanted book) [] rows (sound-row wanted book rows terms h)

whole-from : (wanted : Wanted) (book : BookData) (rows : List Row) (terms : List Term) → StatesTerms wanted book rows terms → checked_terms wanted book rows ≡ Ok terms
whole-from wanted book rows terms h =
    rw (terms-sound wanted book rows terms h, terms-from wanted book.suppliers rows terms (λ i d inside. (h.each_row i d inside).formed) h.terms_are) refl

pub terms_are_whole : TermsAreWhole
terms_are_whole wanted book rows terms = (whole-to wanted book rows terms, whole-from wanted book rows terms)
