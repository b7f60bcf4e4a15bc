-- What reading a row of terms gives.
use Rattle.std.specs.Prelude.{ℕ, ◌≡◌, ◌++◌, [], List, None, Some, Result, Ok, Err}
use Rattle.std.specs.List.{cons_option}
use Rattle.tqd_base.specs.declared.memory.Stop.{Stop}
use Rattle.tqd_base.specs.declared.memory.Stop.TheVariants.{Refused, Memory}
use Rattle.bom_reader.specs.Rows.{Row}
use Rattle.offer_reader.specs.TermForms.{kind, kind_of, forms_of, bad_field}
use Rattle.offer_reader.specs.Terms.{form_fault, term_of}
use Rattle.offer_reader.specs.Offers.{Wanted}
use Rattle.offer_reader.specs.TermRows.{with_key}
use Rattle.offer_reader.specs.declared.kind.TermKind.{TermKind}
use Rattle.offer_reader.specs.declared.term.Term.{Term}
use Rattle.offer_reader.specs.declared.term_fault.TermFault.{TermFault}

-- the row is of a kind, and its fields are of the forms of the kind
pub record IsFormed (row : Row) (k : TermKind) : Type 0 where
  pub kind_is : kind_of (kind row) ≡ Some k
  pub forms : bad_field (forms_of k) row ≡ None

-- the kind of the row with this number, or the fault of its form
abbrev pub HasKind : ℕ → Row → Result TermKind (Stop TermFault) → Type 0
HasKind at row (Ok k) = IsFormed row k
HasKind at row (Err (Refused fault)) = form_fault at row (kind_of (kind row)) ≡ Some fault
HasKind at row (Err Memory) = Unit {0}

-- the keys of the rows that were read, in the order of keys, and the terms of the rows
pub record ReadingData : Type 0 where
  pub keys : List Row
  pub terms : List Term

-- the reading after one more row, where these suppliers offer goods
abbrev pub stepped : Wanted → List (List ℕ) → ReadingData → Row → ReadingData
stepped wanted suppliers reading row = record {
  keys = with_key reading.keys row;
  terms = reading.terms ++ cons_option (term_of wanted suppliers row) [];
}
