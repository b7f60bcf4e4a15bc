-- When each fault of terms comes.
use Rattle.std.proofs.Common.{◌≡◌, ◌≢◌, ℕ, Bool, true, false, not, List, [], Option, None, Some, Ok, Err, refl, sym, ap, ◌∙◌, ◌⊎◌, inl, inr, Result}
use Rattle.std.proofs.lemmas.Bool.{not-false, not-true}
use Rattle.std.proofs.lemmas.List.Folds.{Any-from_list_any, list_any_at}
use Rattle.std.proofs.lemmas.Option.{none-some, same_Some}
use Rattle.std.specs.Cmp.Lexicographic.{bytes_decides}
use Rattle.std.specs.List.{list_any}
use Rattle.std.specs.Option.{option_or}
use Rattle.std.specs.Prelude.{Any, ◌↔◌, codes, filter_map, option_map, if◌then◌else◌}
use Rattle.std.specs.Result.{result_map_both}
use Rattle.std.specs.Str.{bytes_eq}
use Rattle.csv_rows.specs.Rows.{records_of, table_of}
use Rattle.csv_rows.specs.declared.fault.RowFault.{RowFault}
use Rattle.bom_reader.specs.Faults.{and_then, first_fault}
use Rattle.bom_reader.specs.Laws.{StandsAfter}
use Rattle.bom_reader.specs.Rows.{Row, row_number}
use Rattle.bom_reader.proofs.FirstFault.{fault_if-none, fault_if-some, first-from, first-to, unless-err}
use Rattle.offer_reader.specs.Book.{BookData}
use Rattle.offer_reader.specs.Offers.{Wanted}
use Rattle.offer_reader.specs.TermForms.{bad_field, forms_of, kind, kind_name, kind_of, part, supplier}
use Rattle.offer_reader.specs.TermLaws.{IsKnownPart, IsKnownSupplier, IsTermFault, IsTermRow, SameTerm, StatesTerms, TermFaultsAreFirst, TermFormComesFirst}
use Rattle.offer_reader.specs.Terms.{book_with, checked_terms, form_fault, knows_part, knows_supplier, names_fault, same_term, term_columns, term_fault_after, term_of}
use Rattle.offer_reader.specs.declared.kind.TermKind.{TermKind}
use Rattle.offer_reader.specs.declared.term.Term.{Term}
use Rattle.offer_reader.specs.declared.term_fault.TermFault.{TermFault}
use Rattle.offer_reader.specs.declared.term_fault.TermFault.TheVariants.{Rows, UnknownKind, OrderMultiple, Field, UnknownSupplier, UnknownPart, Twice}
use Rattle.offer_reader.proofs.TermFormFacts.{bad-from, bad-to, false-from, false-to, kind-from, kind-to, part-from, part-to, supplier-from, supplier-to}
use Rattle.offer_reader.proofs.TermLaws.{form-from, form-to, known-from, same-from, same-to, terms-made, terms-sound}

-- the first of two faults
or-some : {F : Type 0} (a b : Option F) (fault : F) → option_or a b ≡ Some fault → (a ≡ Some fault) ⊎ ((a ≡ None) × (b ≡ Some fault))
or-some None b fault e = inr (refl, e)
or-some (Some x) b fault e = inl e

-- a text that is `multiple` names no kind
multiple-to : (text : List ℕ) → bytes_eq text (codes "multiple") ≡ true → text ≡ codes "multiple"
multiple-to text e = (bytes_decides text (codes "multiple")).0 e

multiple-from : (text : List ℕ) → text ≡ codes "multiple" → bytes_eq text (codes "multiple") ≡ true
multiple-from text e = (bytes_decides text (codes "multiple")).1 e

multiple-is-none : (text : List ℕ) → text ≡ codes "multiple" → kind_of text ≡ None
multiple-is-none text e = rw e refl

-- a text that names no kind
unknown-to : (text : List ℕ) → kind_of text ≡ None → (k : TermKind) → text ≢ kind_name k
unknown-to text none k is = none-some k (sym none ∙ kind-from text k is)

unknown-from : (text : List ℕ) → ((k : TermKind) → text ≢ kind_name k) → kind_of text ≡ None
unknown-from text other = go (kind_of text) refl where
  go : (o : Option TermKind) → kind_of text ≡ o → kind_of text ≡ None
  go None is = is
  go (Some k) is = absurd (other k (kind-to text k is))

-- a repeat
twice-to : (row : Row) (before : List Row) → list_any (same_term row) before ≡ true → Any (SameTerm row) before
twice-to row before e = let any = Any-from_list_any (same_term row) before e in (any.0, any.1, any.2, any.3, same-to row any.1 any.4)

twice-from : (row : Row) (before : List Row) → Any (SameTerm row) before → list_any (same_term row) before ≡ true
twice-from row before any = list_any_at (same_term row) before any.0 any.1 any.2 (rw any.3 (same-from row any.1 any.4))

-- the fault of a row's form
form-fault-to : (wanted : Wanted) (book : BookData) (rows before : List Row) (row : Row) (fault : TermFault) → StandsAfter rows before row (row_number before)
    → form_fault (row_number before) row (kind_of (kind row)) ≡ Some fault → IsTermFault wanted book rows before row fault
form-fault-to wanted book rows before row fault stands e = go (kind_of (kind row)) refl e where
  field : (k : TermKind) → kind_of (kind row) ≡ Some k → (o : Option ℕ) → bad_field (forms_of k) row ≡ o → option_map (λ number. Field (row_number before) number) o ≡ Some fault → IsTermFault wanted book rows before row fault
  field k is None bad f = absurd (none-some fault f)
  field k is (Some number) bad f = let same : fault ≡ Field (row_number before) number = sym (same_Some (Field (row_number before) number) fault f) in rw same (stands, (k, kind-to (kind row) k is, bad-to (forms_of k) row number bad))

  other : (b : Bool) → bytes_eq (kind row) (codes "multiple") ≡ b → kind_of (kind row) ≡ None → Some (if b then OrderMultiple (row_number before) else UnknownKind (row_number before)) ≡ Some fault → IsTermFault wanted book rows before row fault
  other true is none f = let same : fault ≡ OrderMultiple (row_number before) = sym (same_Some (OrderMultiple (row_number before)) fault f) in rw same (stands, multiple-to (kind row) is)
  other false is none f = let same : fault ≡ UnknownKind (row_number before) = sym (same_Some (UnknownKind (row_number before)) fault f) in
      rw same (stands, unknown-to (kind row) none, false-to (bytes_eq (kind row) (codes "multiple")) (multiple-from (kind row)) is)

  go : (o : Option TermKind) → kind_of (kind row) ≡ o → form_fault (row_number before) row o ≡ Some fault → IsTermFault wanted book rows before row fault
  go None is f = other (bytes_eq (kind row) (codes "multiple")) refl is f
  go (Some k) is f = field k is (bad_field (forms_of k) row) refl f

-- and of its names
names-fault-to : (wanted : Wanted) (book : BookData) (rows before : List Row) (row : Row) (fault : TermFault) → StandsAfter rows before row (row_number before) → IsTermRow row
    → names_fault wanted.names book (row_number before) row ≡ Some fault → IsTermFault wanted book rows before row fault
names-fault-to wanted book rows before row fault stands formed e =
    let at = row_number before in
    elim (fault_if-some (not (knows_supplier book (supplier row))) (UnknownSupplier at) fault _ e) [
      | inl one ↦ rw one.1 (stands, formed, false-to (knows_supplier book (supplier row)) (supplier-from book row) (not-true (knows_supplier book (supplier row)) one.0))
      | inr known ↦ let first = supplier-to book row (not-false (knows_supplier book (supplier row)) known.0) in elim (fault_if-some (not (knows_part wanted.names book (part row))) (UnknownPart at) fault None known.1) [
        | inl one ↦ rw one.1 (stands, formed, first, false-to (knows_part wanted.names book (part row)) (part-from wanted book row) (not-true (knows_part wanted.names book (part row)) one.0))
        | inr nothing ↦ absurd (none-some fault nothing.1)
      ]
    ]

names-known : (wanted : Wanted) (book : BookData) (at : ℕ) (row : Row) → names_fault wanted.names book at row ≡ None → IsKnownSupplier book row × IsKnownPart wanted book row
names-known wanted book at row none =
    let c = fault_if-none (not (knows_supplier book (supplier row))) (UnknownSupplier at) _ none in
    let d = fault_if-none (not (knows_part wanted.names book (part row))) (UnknownPart at) None c.1 in
    (supplier-to book row (not-false (knows_supplier book (supplier row)) c.0), part-to wanted book row (not-false (knows_part wanted.names book (part row)) d.0))

fault-to : (wanted : Wanted) (book : BookData) (rows before : List Row) (row : Row) (fault : TermFault) → StandsAfter rows before row (row_number before) → term_fault_after wanted book before row ≡ Some fault → IsTermFault wanted book rows before row fault
fault-to wanted book rows before row fault stands e =
    let at = row_number before in
    elim (or-some (form_fault at row (kind_of (kind row))) _ fault e) [
      | inl form ↦ form-fault-to wanted book rows before row fault stands form
      | inr formed ↦ let of_row = form-to at row formed.0 in elim (or-some (names_fault wanted.names book at row) _ fault formed.1) [
        | inl name ↦ names-fault-to wanted book rows before row fault stands of_row name
        | inr named ↦ let known = names-known wanted book at row named.0 in elim (fault_if-some (list_any (same_term row) before) (Twice at) fault None named.1) [
          | inl twice ↦ rw twice.1 (stands, record { formed = of_row; known_supplier = known.0; known_part = known.1 }, twice-to row before twice.0)
          | inr nothing ↦ absurd (none-some fault nothing.1)
        ]
      ]
    ]

fault-from : (wanted : Wanted) (book : BookData) (rows before : List Row) (row : Row) (fault : TermFault) → IsTermFault wanted book rows before row fault
    → StandsAfter rows before row (row_number before) × (term_fault_after wanted book before row ≡ Some fault)
fault-from wanted book rows before row (Rows fault) is = absurd is
fault-from wanted book rows before row (UnknownKind at) is =
    (rw is.0.number at is.0, rw (unknown-from (kind row) is.1, false-from (bytes_eq (kind row) (codes "multiple")) (multiple-to (kind row)) is.2, is.0.number) refl)
fault-from wanted book rows before row (OrderMultiple at) is =
    (rw is.0.number at is.0, rw (multiple-is-none (kind row) is.1, multiple-from (kind row) is.1, is.0.number) refl)
fault-from wanted book rows before row (Field at number) is =
    (rw is.0.number at is.0, rw (kind-from (kind row) is.1.0 is.1.1, bad-from (forms_of is.1.0) row number is.1.2, is.0.number) refl)
fault-from wanted book rows before row (UnknownSupplier at) is =
    let none = false-from (knows_supplier book (supplier row)) (supplier-to book row) is.2 in
    (rw is.0.number at is.0, rw (form-from (row_number before) row is.1, none, is.0.number) refl)
fault-from wanted book rows before row (UnknownPart at) is =
    let none = false-from (knows_part wanted.names book (part row)) (part-to wanted book row) is.3 in
    (rw is.0.number at is.0, rw (form-from (row_number before) row is.1, supplier-from book row is.2, none, is.0.number) refl)
fault-from wanted book rows before row (Twice at) is =
    let known = known-from wanted book (row_number before) row is.1 in
    (rw is.0.number at is.0, rw (known.0, known.1, twice-from row before is.2, is.0.number) refl)

faults-to : (wanted : Wanted) (book : BookData) (rows : List Row) (fault : TermFault) → checked_terms wanted book rows ≡ Err fault
    → (before : List Row) × (row : Row) × (terms : List Term) × StatesTerms wanted book before terms × IsTermFault wanted book rows before row fault
faults-to wanted book rows fault e =
    let first = first-to (term_fault_after wanted book) [] rows fault (unless-err (first_fault (term_fault_after wanted book) [] rows) (filter_map (term_of wanted book.suppliers) rows) fault e) in
    let stands : StandsAfter rows first.before first.row (row_number first.before) = record { after = first.after; rows_are = first.rows_are; number = refl } in
    (first.before, first.row, filter_map (term_of wanted book.suppliers) first.before, terms-made wanted book first.before first.sound, fault-to wanted book rows first.before first.row fault stands first.faulty)

faults-from : (wanted : Wanted) (book : BookData) (rows : List Row) (fault : TermFault)
    → ((before : List Row) × (row : Row) × (terms : List Term) × StatesTerms wanted book before terms × IsTermFault wanted book rows before row fault) → checked_terms wanted book rows ≡ Err fault
faults-from wanted book rows fault h =
    let at = fault-from wanted book rows h.0 h.1 fault h.4 in
    rw (first-from (term_fault_after wanted book) rows h.0 h.1 at.0.after fault at.0.rows_are (terms-sound wanted book h.0 h.2 h.3) at.1) refl

pub term_faults_are_first : TermFaultsAreFirst
term_faults_are_first wanted book rows fault = (faults-to wanted book rows fault, faults-from wanted book rows fault)

-- a fault of the file's form comes before all other faults
form : (wanted : Wanted) (book : BookData) (r : Result (List Row) RowFault) (fault : RowFault)
    → (and_then (λ rows. result_map_both (book_with book) (λ f. f) (checked_terms wanted book rows)) (result_map_both (λ (rows : List Row). rows) Rows r) ≡ Err (Rows fault)) ↔ (r ≡ Err fault)
form wanted book (Ok rows) fault = (λ e. never (checked_terms wanted book rows) refl e, λ e. cc e) where
  never : (o : Result (List Term) TermFault) → checked_terms wanted book rows ≡ o → result_map_both (book_with book) (λ (f : TermFault). f) o ≡ Err (Rows fault) → Ok rows ≡ Err fault
  never (Ok terms) is e = cc e
  never (Err found) is e = let same : found ≡ Rows fault = cc e in absurd (faults-to wanted book rows (Rows fault) (is ∙ ap (λ f. Err f) same)).4
form wanted book (Err found) fault = (λ e. cc e, λ e. let same : found ≡ fault = cc e in rw same refl)

pub term_form_comes_first : TermFormComesFirst
term_form_comes_first wanted book bytes fault = form wanted book (table_of term_columns (records_of bytes)) fault
