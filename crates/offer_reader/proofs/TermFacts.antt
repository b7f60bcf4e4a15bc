-- The rows of a table of terms, read one after the other.
use Rattle.std.proofs.Common.{ℕ, ◌≡◌, ◌+◌, ◌<◌, ◌≤◌, Bool, ◌||◌, List, [], ◌∷◌, ◌++◌, length, get_or, take, Option, None, Some, Ok, Err, refl, sym, ap, ◌∙◌, subst, arith}
use Rattle.std.proofs.lemmas.List.{length-take-le, take_more, take_all}
use Rattle.std.proofs.lemmas.List.Elements.{filter_map-append}
use Rattle.std.proofs.lemmas.List.Folds.{list_any-append}
use Rattle.std.specs.Prelude.{All, filter_map}
use Rattle.std.specs.List.{cons_option, list_any}
use Rattle.std.specs.Option.{option_or}
use Rattle.tqd_base.specs.declared.memory.Stop.{Stop}
use Rattle.tqd_base.specs.declared.memory.Stop.TheVariants.{Refused, Memory}
use Rattle.bom_reader.specs.Faults.{Answers, fault_if, first_fault, unless}
use Rattle.bom_reader.specs.Rows.{Row, row_number}
use Rattle.bom_reader.proofs.FirstFault.{unless-ok, unless-err, first_fault-append, first_fault-at}
use Rattle.offer_reader.proofs.KeyFacts.{term_added}
use Rattle.offer_reader.specs.Offers.{Wanted}
use Rattle.offer_reader.specs.Book.{BookData}
use Rattle.offer_reader.specs.TermForms.{kind, kind_of}
use Rattle.offer_reader.specs.TermRows.{key_of}
use Rattle.offer_reader.specs.TermSteps.{ReadingData, stepped}
use Rattle.offer_reader.specs.Terms.{checked_terms, form_fault, names_fault, same_term, term_fault, term_fault_after, term_of}
use Rattle.offer_reader.specs.declared.term.Term.{Term}
use Rattle.offer_reader.specs.declared.term_fault.TermFault.{TermFault}
use Rattle.offer_reader.specs.declared.term_fault.TermFault.TheVariants.{Twice}

-- the rows were read without a fault
pub record HasTerms (wanted : Wanted) (book : BookData) (rows : List Row) (reading : ReadingData) : Type 0 where
  pub keys_are : (row : Row) → list_any (same_term row) reading.keys ≡ list_any (same_term row) rows
  pub terms_are : reading.terms ≡ filter_map (term_of wanted book.suppliers) rows
  pub sound : first_fault (term_fault_after wanted book) [] rows ≡ None

-- the keys say of a repeat what the rows do
fault_same : (wanted : Wanted) (book : BookData) (rows : List Row) (reading : ReadingData) (at : ℕ) (row : Row) → HasTerms wanted book rows reading → term_fault wanted book reading.keys at row ≡ term_fault wanted book rows at row
fault_same wanted book rows reading at row has =
    ap (λ (b : Bool). option_or (form_fault at row (kind_of (kind row))) (option_or (names_fault wanted.names book at row) (fault_if b (Twice at) None))) (has.keys_are row)

five_fields : (row : Row) → length row ≡ 5 → get_or row 0 [] ∷ get_or row 1 [] ∷ get_or row 2 [] ∷ get_or row 3 [] ∷ get_or row 4 [] ∷ [] ≡ row
five_fields (a ∷ b ∷ c ∷ d ∷ e ∷ []) five = refl
five_fields [] five = absurd (omega (arith, five))
five_fields (a ∷ []) five = absurd (omega (arith, five))
five_fields (a ∷ b ∷ []) five = absurd (omega (arith, five))
five_fields (a ∷ b ∷ c ∷ []) five = absurd (omega (arith, five))
five_fields (a ∷ b ∷ c ∷ d ∷ []) five = absurd (omega (arith, five))
five_fields (a ∷ b ∷ c ∷ d ∷ e ∷ f ∷ more) five = absurd (omega (arith, five))

-- the texts of the fields of a row
pub record AreTexts (table : List Row) (i : ℕ) (texts : Row) : Type 0 where
  pub inside : i < length table
  pub width : All (λ row. length row ≡ 5) table
  pub texts_are : texts ≡ get_or (get_or table i []) 0 [] ∷ get_or (get_or table i []) 1 [] ∷ get_or (get_or table i []) 2 [] ∷ get_or (get_or table i []) 3 [] ∷ get_or (get_or table i []) 4 [] ∷ []

the_row : (table : List Row) (i : ℕ) (texts : Row) → AreTexts table i texts → texts ≡ get_or table i []
the_row table i texts t = t.texts_are ∙ five_fields (get_or table i []) (t.width i [] t.inside)

number_is : (table : List Row) (i : ℕ) → i < length table → row_number (take i table) ≡ i + 2
number_is table i inside = ap (λ n. n + 2) (length-take-le i table (omega arith))

-- the fault after the keys is that of the row
fault_here : (wanted : Wanted) (book : BookData) (table : List Row) (i : ℕ) (texts : Row) (reading : ReadingData) → HasTerms wanted book (take i table) reading → AreTexts table i texts
    → term_fault_after wanted book (take i table) (get_or table i []) ≡ term_fault wanted book reading.keys (i + 2) texts
fault_here wanted book table i texts reading has t =
    ap (λ n. term_fault wanted book (take i table) n (get_or table i [])) (number_is table i t.inside)
    ∙ ap (λ (r : Row). term_fault wanted book (take i table) (i + 2) r) (sym (the_row table i texts t))
    ∙ sym (fault_same wanted book (take i table) reading (i + 2) texts has)

-- one row more
rows_more : (wanted : Wanted) (book : BookData) (rows : List Row) (row : Row) (reading : ReadingData) → HasTerms wanted book rows reading
    → term_fault_after wanted book rows row ≡ None → HasTerms wanted book (rows ++ row ∷ []) (stepped wanted book.suppliers reading row)
rows_more wanted book rows row reading has none = record {
  keys_are = λ q. term_added reading.keys row q
      ∙ (list_any-append (same_term q) reading.keys (key_of row ∷ []) ∙ (ap (λ (b : Bool). b || list_any (same_term q) (row ∷ [])) (has.keys_are q) ∙ sym (list_any-append (same_term q) rows (row ∷ []))));
  terms_are = ap (λ (list : List Term). list ++ cons_option (term_of wanted book.suppliers row) []) has.terms_are ∙ sym (filter_map-append (term_of wanted book.suppliers) rows (row ∷ []));
  sound = first_fault-append (term_fault_after wanted book) [] rows (row ∷ []) has.sound ∙ ap (λ (o : Option TermFault). option_or o None) none;
}

pub row_read : (wanted : Wanted) (book : BookData) (table : List Row) (i : ℕ) (texts : Row) (reading after : ReadingData) → HasTerms wanted book (take i table) reading → AreTexts table i texts
    → Answers {V = Unit {0}} (Ok tt) (unless (term_fault wanted book reading.keys (i + 2) texts) tt) → after ≡ stepped wanted book.suppliers reading texts
    → HasTerms wanted book (take (i + 1) table) after
row_read wanted book table i texts reading after has t answer is =
    let here = get_or table i [] in
    let none : term_fault_after wanted book (take i table) here ≡ None = fault_here wanted book table i texts reading has t ∙ unless-ok (term_fault wanted book reading.keys (i + 2) texts) tt tt answer in
    let more = rows_more wanted book (take i table) here reading has none in
    let same : after ≡ stepped wanted book.suppliers reading here = is ∙ ap (λ (r : Row). stepped wanted book.suppliers reading r) (the_row table i texts t) in
    subst (λ (r : ReadingData). HasTerms wanted book (take (i + 1) table) r) (sym same)
    (subst (λ (rows : List Row). HasTerms wanted book rows (stepped wanted book.suppliers reading here)) (sym (take_more table i [] t.inside)) more)

pub row_stops : (wanted : Wanted) (book : BookData) (table : List Row) (i : ℕ) (texts : Row) (reading : ReadingData) (stop : Stop TermFault) → HasTerms wanted book (take i table) reading → AreTexts table i texts
    → Answers {V = Unit {0}} (Err stop) (unless (term_fault wanted book reading.keys (i + 2) texts) tt) → Answers {V = List Term} (Err stop) (checked_terms wanted book table)
row_stops wanted book table i texts reading (Refused fault) has t answer =
    let faulty : term_fault_after wanted book (take i table) (get_or table i []) ≡ Some fault =
    fault_here wanted book table i texts reading has t ∙ unless-err (term_fault wanted book reading.keys (i + 2) texts) tt fault answer in
    rw (first_fault-at (term_fault_after wanted book) table i [] fault t.inside has.sound faulty) refl
row_stops wanted book table i texts reading Memory has t answer = tt

pub all_read : (wanted : Wanted) (book : BookData) (table : List Row) (i : ℕ) (reading : ReadingData) → HasTerms wanted book (take i table) reading → length table ≤ i
    → checked_terms wanted book table ≡ Ok reading.terms
all_read wanted book table i reading has past =
    let all = subst (λ (rows : List Row). HasTerms wanted book rows reading) (take_all i table past) has in
    rw (all.sound, all.terms_are) refl

pub no_rows : (wanted : Wanted) (book : BookData) → HasTerms wanted book [] (record { keys = []; terms = [] })
no_rows wanted book = record { keys_are = λ row. refl; terms_are = refl; sound = refl }
