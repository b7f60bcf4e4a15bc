-- When terms come, and when each fault, in the words of the format. The contracts of `laws` state it.
use Rattle.std.specs.Prelude.{◌≡◌, ◌≢◌, ◌↔◌, ◌⊎◌, ℕ, Bool, ◌&&◌, ◌||◌, List, [], filter, All, Any, Contains, Option, None, Some, is_some, IsSome, Ok, Err, codes}
use Rattle.std.specs.List.{AllPairs, AllZip}
use Rattle.tqd_base.specs.declared.limits.TheConstants.{QTY_MAX, SUPPLIERS_MAX}
use Rattle.money.specs.Number.{qty_of}
use Rattle.money.specs.Price.{price_of}
use Rattle.csv_rows.specs.Rows.{records_of, table_of}
use Rattle.csv_rows.specs.declared.fault.RowFault.{RowFault}
use Rattle.tqd_instance.specs.declared.parts.Over.{Over}
use Rattle.tqd_instance.specs.declared.parts.Over.TheVariants.{Percent, Any as NoBound}
use Rattle.tqd_instance.specs.Parts.{WHOLE}
use Rattle.bom_reader.specs.Laws.{IsName, StandsAfter}
use Rattle.bom_reader.specs.Names.{has_name, number_of}
use Rattle.bom_reader.specs.Rows.{Row}
use Rattle.offer_reader.specs.Book.{BookData}
use Rattle.offer_reader.specs.Offers.{Wanted, good_of}
use Rattle.offer_reader.specs.TermForms.{PERCENT_MAX, kind, supplier, part, low, high, kind_name, forms_of, is_empty}
use Rattle.offer_reader.specs.Terms.{checked_terms, term_columns, terms_in}
use Rattle.offer_reader.specs.declared.form.FieldForm.{FieldForm}
use Rattle.offer_reader.specs.declared.form.FieldForm.TheVariants as form
use Rattle.offer_reader.specs.declared.form.RowForms.{RowForms}
use Rattle.offer_reader.specs.declared.kind.TermKind.{TermKind}
use Rattle.offer_reader.specs.declared.term.Term.{Term}
use Rattle.offer_reader.specs.declared.term.Term.TheVariants as term
use Rattle.offer_reader.specs.declared.term_fault.TermFault.{TermFault}
use Rattle.offer_reader.specs.declared.term_fault.TermFault.TheVariants.{Rows, UnknownKind, OrderMultiple, Field, UnknownSupplier, UnknownPart, Twice}

-- what a text of each form is
abbrev pub HasForm : FieldForm → List ℕ → Type 0
HasForm form.Empty text = text ≡ []
HasForm form.Name text = IsName text
HasForm form.NameOrEmpty text = (text ≡ []) ⊎ IsName text
HasForm form.Units text = IsSome (qty_of 0 QTY_MAX text)
HasForm (form.UpTo most) text = (text ≡ []) ⊎ IsSome (qty_of 0 most text)
HasForm form.Price text = IsSome (price_of text)
HasForm form.Over text = (text ≡ codes "any") ⊎ IsSome (qty_of 0 PERCENT_MAX text)

-- each field of the row is of its form
pub record HasForms (forms : RowForms) (row : Row) : Type 0 where
  pub supplier_form : HasForm forms.supplier (supplier row)
  pub part_form : HasForm forms.part (part row)
  pub low_form : HasForm forms.low (low row)
  pub high_form : HasForm forms.high (high row)

-- the first field that is not of its form has this number
abbrev pub IsBadField : RowForms → Row → ℕ → Type 0
IsBadField forms row number = ((number ≡ 2) × ¬ (HasForm forms.supplier (supplier row)))
    ⊎ ((number ≡ 3) × HasForm forms.supplier (supplier row) × ¬ (HasForm forms.part (part row)))
    ⊎ ((number ≡ 4) × HasForm forms.supplier (supplier row) × HasForm forms.part (part row) × ¬ (HasForm forms.low (low row)))
    ⊎ ((number ≡ 5) × HasForm forms.supplier (supplier row) × HasForm forms.part (part row) × HasForm forms.low (low row) × ¬ (HasForm forms.high (high row)))

-- a row of a kind, each field of the form that the table of kinds gives
abbrev pub IsTermRow : Row → Type 0
IsTermRow row = (k : TermKind) × (kind row ≡ kind_name k) × HasForms (forms_of k) row

-- a supplier is known where it stands in a row of the offers; a field may hold none
abbrev pub IsKnownSupplier : BookData → Row → Type 0
IsKnownSupplier book row = (supplier row ≡ []) ⊎ Contains book.sellers (supplier row)

-- a part is known where it is a name of orders or bill, or stands in a row of the offers; a field may hold none
abbrev pub IsKnownPart : Wanted → BookData → Row → Type 0
IsKnownPart wanted book row = (part row ≡ []) ⊎ Contains wanted.names (part row) ⊎ Contains book.offered (part row)

pub record IsKnownRow (wanted : Wanted) (book : BookData) (row : Row) : Type 0 where
  pub formed : IsTermRow row
  pub known_supplier : IsKnownSupplier book row
  pub known_part : IsKnownPart wanted book row

-- two rows of the same kind, supplier and part
pub record SameTerm (a b : Row) : Type 0 where
  pub kind_is : kind a ≡ kind b
  pub supplier_is : supplier a ≡ supplier b
  pub part_is : part a ≡ part b

-- a row takes part in the job where its supplier, if it names one, offers a good, and its part, if it names one, is a good
abbrev pub takes_part : Wanted → List (List ℕ) → Row → Bool
takes_part wanted suppliers row = (is_empty (supplier row) || has_name suppliers (supplier row)) && (is_empty (part row) || is_some (good_of wanted (part row)))

-- the number that a text is, or this one where it is empty
abbrev pub IsNumberOr : ℕ → ℕ → List ℕ → ℕ → Type 0
IsNumberOr default most text n = ((text ≡ []) × (n ≡ default)) ⊎ (qty_of 0 most text ≡ Some n)

-- the greatest share, and none where the text is empty
abbrev pub IsGreatestShare : List ℕ → Option ℕ → Type 0
IsGreatestShare text greatest = ((text ≡ []) × (greatest ≡ None)) ⊎ ((n : ℕ) × (qty_of 0 WHOLE text ≡ Some n) × (greatest ≡ Some n))

-- the good that a text names, and none in particular where it is empty
abbrev pub IsGoodOrAll : Wanted → List ℕ → Option ℕ → Type 0
IsGoodOrAll wanted text good = ((text ≡ []) × (good ≡ None)) ⊎ ((k : ℕ) × (text ≢ []) × (good_of wanted text ≡ Some k) × (good ≡ Some k))

-- a percentage above the need, or no bound
abbrev pub IsOver : List ℕ → Over → Type 0
IsOver text over = ((text ≡ codes "any") × (over ≡ NoBound)) ⊎ ((n : ℕ) × (qty_of 0 PERCENT_MAX text ≡ Some n) × (over ≡ Percent n))

-- the term that a row states, where these suppliers offer goods
abbrev pub StatesTerm : Wanted → List (List ℕ) → Row → Term → Type 0
StatesTerm wanted suppliers row (term.Stock r) = (kind row ≡ codes "stock") × (number_of suppliers (supplier row) ≡ Some r.supplier) × (good_of wanted (part row) ≡ Some r.good) × (qty_of 0 QTY_MAX (high row) ≡ Some r.units)
StatesTerm wanted suppliers row (term.Total r) = (kind row ≡ codes "total") × (number_of suppliers (supplier row) ≡ Some r.supplier) × (qty_of 0 QTY_MAX (high row) ≡ Some r.units)
StatesTerm wanted suppliers row (term.Share r) = (kind row ≡ codes "share") × (number_of suppliers (supplier row) ≡ Some r.supplier) × IsNumberOr 0 WHOLE (low row) r.low × IsGreatestShare (high row) r.high
StatesTerm wanted suppliers row (term.Fee r) = (kind row ≡ codes "fee") × (number_of suppliers (supplier row) ≡ Some r.supplier) × (price_of (high row) ≡ Some r.fee)
StatesTerm wanted suppliers row (term.Winners least most) = (kind row ≡ codes "winners") × IsNumberOr 0 SUPPLIERS_MAX (low row) least × IsNumberOr SUPPLIERS_MAX SUPPLIERS_MAX (high row) most
StatesTerm wanted suppliers row (term.Over r) = (kind row ≡ codes "over") × IsGoodOrAll wanted (part row) r.good × IsOver (high row) r.over

-- the terms that rows state: each row sound, none twice, and the terms are those of the rows that take part in the job
pub record StatesTerms (wanted : Wanted) (book : BookData) (rows : List Row) (terms : List Term) : Type 0 where
  pub each_row : All (IsKnownRow wanted book) rows
  pub distinct : AllPairs (λ a b. ¬ (SameTerm a b)) rows
  pub terms_are : AllZip (StatesTerm wanted book.suppliers) (filter (takes_part wanted book.suppliers) rows) terms

-- Terms come exactly where the rows state them.
abbrev pub TermsAreWhole : Type 0
TermsAreWhole = (wanted : Wanted) (book : BookData) (rows : List Row) (terms : List Term) → (checked_terms wanted book rows ≡ Ok terms) ↔ StatesTerms wanted book rows terms

-- what each fault says of the first row that has one
abbrev pub IsTermFault : Wanted → BookData → List Row → List Row → Row → TermFault → Type 0
IsTermFault wanted book rows before row (Rows fault) = ⊥
IsTermFault wanted book rows before row (UnknownKind at) = StandsAfter rows before row at × ((k : TermKind) → kind row ≢ kind_name k) × (kind row ≢ codes "multiple")
IsTermFault wanted book rows before row (OrderMultiple at) = StandsAfter rows before row at × (kind row ≡ codes "multiple")
IsTermFault wanted book rows before row (Field at number) = StandsAfter rows before row at × ((k : TermKind) × (kind row ≡ kind_name k) × IsBadField (forms_of k) row number)
IsTermFault wanted book rows before row (UnknownSupplier at) = StandsAfter rows before row at × IsTermRow row × ¬ (IsKnownSupplier book row)
IsTermFault wanted book rows before row (UnknownPart at) = StandsAfter rows before row at × IsTermRow row × IsKnownSupplier book row × ¬ (IsKnownPart wanted book row)
IsTermFault wanted book rows before row (Twice at) = StandsAfter rows before row at × IsKnownRow wanted book row × Any (SameTerm row) before

-- Each fault comes exactly where a row has it after rows that state terms.
abbrev pub TermFaultsAreFirst : Type 0
TermFaultsAreFirst = (wanted : Wanted) (book : BookData) (rows : List Row) (fault : TermFault)
    → (checked_terms wanted book rows ≡ Err fault) ↔ ((before : List Row) × (row : Row) × (terms : List Term) × StatesTerms wanted book before terms × IsTermFault wanted book rows before row fault)

-- A fault of the file's form comes exactly where its records have it, before all other faults.
abbrev pub TermFormComesFirst : Type 0
TermFormComesFirst = (wanted : Wanted) (book : BookData) (bytes : List ℕ) (fault : RowFault) → (terms_in wanted book bytes ≡ Err (Rows fault)) ↔ (table_of term_columns (records_of bytes) ≡ Err fault)
