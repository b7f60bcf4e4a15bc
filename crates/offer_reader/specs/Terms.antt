-- What the rows of a file of terms say of a job; or the first fault.
use Rattle.std.specs.Prelude.{ℕ, Bool, not, ◌&&◌, ◌||◌, ◌++◌, List, [], ◌∷◌, fold, filter_map, Option, None, Some, option_map, option_and_then, unwrap_or, Result, if◌then◌else◌, codes}
use Rattle.std.specs.List.{list_any}
use Rattle.std.specs.Option.{option_or}
use Rattle.std.specs.Result.{result_map_both}
use Rattle.std.specs.Str.{bytes_eq}
use Rattle.tqd_base.specs.declared.limits.TheConstants.{QTY_MAX, SUPPLIERS_MAX}
use Rattle.money.specs.Number.{qty_of}
use Rattle.money.specs.Price.{price_of}
use Rattle.csv_rows.specs.Rows.{records_of, table_of}
use Rattle.tqd_instance.specs.declared.parts.Over.{Over}
use Rattle.tqd_instance.specs.declared.parts.Over.TheVariants.{Percent, Any}
use Rattle.tqd_instance.specs.Parts.{WHOLE}
use Rattle.tqd_instance.specs.PartsData.{PartsData}
use Rattle.bom_reader.specs.Names.{has_name, number_of}
use Rattle.bom_reader.specs.Faults.{and_then, fault_if, first_fault, unless}
use Rattle.bom_reader.specs.Rows.{Row, row_number}
use Rattle.offer_reader.specs.Offers.{Wanted, good_of}
use Rattle.offer_reader.specs.Book.{BookData}
use Rattle.offer_reader.specs.TermForms.{PERCENT_MAX, kind, supplier, part, low, high, kind_of, forms_of, bad_field, is_any, is_empty}
use Rattle.offer_reader.specs.declared.kind.TermKind.{TermKind}
use Rattle.offer_reader.specs.declared.kind.TermKind.TheVariants as of_kind
use Rattle.offer_reader.specs.declared.term.Term.{Term}
use Rattle.offer_reader.specs.declared.term.Term.TheVariants as term
use Rattle.offer_reader.specs.declared.term_fault.TermFault.{TermFault}
use Rattle.offer_reader.specs.declared.term_fault.TermFault.TheVariants.{Rows, UnknownKind, OrderMultiple, Field, UnknownSupplier, UnknownPart, Twice}

-- the whole number up to `most` that a text is, or else this one
abbrev pub number_or : ℕ → ℕ → List ℕ → ℕ
number_or default most text = unwrap_or (qty_of 0 most text) default

-- a percentage above the need, or no bound
abbrev pub over_in : List ℕ → Over
over_in text = if is_any text then Any else Percent (number_or 0 PERCENT_MAX text)

-- the good that an over row is of: none in particular where it names no part, and then the row is of every good that has
-- none of its own; else the good with the name, where it is one
abbrev pub over_good : Wanted → List ℕ → Option (Option ℕ)
over_good wanted name = if is_empty name then Some None else option_map (λ good. Some good) (good_of wanted name)

-- the units in a row of a stock or a total
abbrev pub units : Row → ℕ
units row = number_or 0 QTY_MAX (high row)

-- the term of a row of a kind, where these suppliers offer goods. A row on a supplier or a part that has no part in the
-- job has none
abbrev pub term_by : Wanted → List (List ℕ) → TermKind → Row → Option Term
term_by wanted suppliers of_kind.Stock row = option_and_then
    (λ i. option_map
    (λ good. term.Stock (record { supplier = i; good = good; units = units row }))
    (good_of wanted (part row)))
    (number_of suppliers (supplier row))
term_by wanted suppliers of_kind.Total row = option_map
    (λ i. term.Total (record { supplier = i; units = units row }))
    (number_of suppliers (supplier row))
term_by wanted suppliers of_kind.Share row = option_map
    (λ i. term.Share (record { supplier = i; low = number_or 0 WHOLE (low row); high = qty_of 0 WHOLE (high row) }))
    (number_of suppliers (supplier row))
term_by wanted suppliers of_kind.Fee row = option_map
    (λ i. term.Fee (record { supplier = i; fee = unwrap_or (price_of (high row)) 0 }))
    (number_of suppliers (supplier row))
term_by wanted suppliers of_kind.Winners row =
    Some (term.Winners (number_or 0 SUPPLIERS_MAX (low row)) (number_or SUPPLIERS_MAX SUPPLIERS_MAX (high row)))
term_by wanted suppliers of_kind.Over row = option_map
    (λ good. term.Over (record { good = good; over = over_in (high row) }))
    (over_good wanted (part row))

abbrev pub term_of : Wanted → List (List ℕ) → Row → Option Term
term_of wanted suppliers row = option_and_then (λ k. term_by wanted suppliers k row) (kind_of (kind row))

-- the parts of a job with one term more
abbrev pub with_term : PartsData → Term → PartsData
with_term parts (term.Stock r) = record parts { stocks = parts.stocks ++ r ∷ [] }
with_term parts (term.Total r) = record parts { totals = parts.totals ++ r ∷ [] }
with_term parts (term.Share r) = record parts { shares = parts.shares ++ r ∷ [] }
with_term parts (term.Fee r) = record parts { fees = parts.fees ++ r ∷ [] }
with_term parts (term.Winners least most) = record parts { least_winners = least; most_winners = most }
with_term parts (term.Over r) = record parts { overs = parts.overs ++ r ∷ [] }

-- the book with these terms
abbrev pub book_with : BookData → List Term → BookData
book_with book terms = record book { parts = fold with_term book.parts terms }

-- the fault of a kind, or of the first field that is not of its form. Orders in multiples are not supported
abbrev pub form_fault : ℕ → Row → Option TermKind → Option TermFault
form_fault at row None = Some (if bytes_eq (kind row) (codes "multiple") then OrderMultiple at else UnknownKind at)
form_fault at row (Some k) = option_map (λ number. Field at number) (bad_field (forms_of k) row)

-- a supplier is known where it stands in a row of the offers, and a part where it is a name of orders or bill or stands in
-- a row of the offers. A field may hold no name
abbrev pub knows_supplier : BookData → List ℕ → Bool
knows_supplier book name = is_empty name || has_name book.sellers name

abbrev pub knows_part : List (List ℕ) → BookData → List ℕ → Bool
knows_part names book name = is_empty name || has_name names name || has_name book.offered name

-- the fault of the names in the row with this number, where these are the names of orders and bill
abbrev pub names_fault : List (List ℕ) → BookData → ℕ → Row → Option TermFault
names_fault names book at row =
    fault_if (not (knows_supplier book (supplier row))) (UnknownSupplier at)
    (fault_if (not (knows_part names book (part row))) (UnknownPart at) None)

-- two rows of one kind, supplier and part
abbrev pub same_term : Row → Row → Bool
same_term a b = bytes_eq (kind a) (kind b) && bytes_eq (supplier a) (supplier b) && bytes_eq (part a) (part b)

-- the fault of the row with this number, where these rows are before it: of its form, of its names, and then the repeat
abbrev pub term_fault : Wanted → BookData → List Row → ℕ → Row → Option TermFault
term_fault wanted book earlier at row = option_or (form_fault at row (kind_of (kind row)))
    (option_or (names_fault wanted.names book at row) (fault_if (list_any (same_term row) earlier) (Twice at) None))

abbrev pub term_fault_after : Wanted → BookData → List Row → Row → Option TermFault
term_fault_after wanted book earlier row = term_fault wanted book earlier (row_number earlier) row

-- the terms that the rows after the header state, or the fault of the first row with one
abbrev pub checked_terms : Wanted → BookData → List Row → Result (List Term) TermFault
checked_terms wanted book rows = unless
    (first_fault (term_fault_after wanted book) [] rows)
    (filter_map (term_of wanted book.suppliers) rows)

abbrev pub term_columns : List (List ℕ)
term_columns = codes "kind" ∷ codes "supplier" ∷ codes "part" ∷ codes "low" ∷ codes "high" ∷ []

-- the rows of a file of terms: `kind,supplier,part,low,high`
abbrev pub term_rows : List ℕ → Result (List Row) TermFault
term_rows bytes = result_map_both (λ rows. rows) Rows (table_of term_columns (records_of bytes))

-- the book that a file of terms makes of one without terms, or the fault
abbrev pub terms_in : Wanted → BookData → List ℕ → Result BookData TermFault
terms_in wanted book bytes = and_then
    (λ rows. result_map_both (book_with book) (λ fault. fault) (checked_terms wanted book rows))
    (term_rows bytes)
