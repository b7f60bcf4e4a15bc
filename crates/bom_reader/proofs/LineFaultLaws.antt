-- When each fault of a bill comes, and the bill of no rows.
use Rattle.std.proofs.Common.{◌≡◌, ℕ, ◌-◌, ◌<◌, ◌≤◌, Bool, true, false, cond, not, ◌&&◌, ltb, List, [], ◌∷◌, ◌++◌, length, None, Some, Err, refl, sym, ap, ◌∙◌, inl, inr, arith}
use Rattle.std.proofs.lemmas.Bool.{and_from, and_parts, false≢true, le-ltb, lt-ltb, ltb-false, ltb-true, not-false, not-true}
use Rattle.std.proofs.lemmas.List.{append-nil, length-append}
use Rattle.std.proofs.lemmas.List.Folds.{Any-from_list_any, list_any_at}
use Rattle.std.proofs.lemmas.Option.{none-some}
use Rattle.std.specs.List.{list_any}
use Rattle.std.specs.Prelude.{Any, is_none}
use Rattle.tqd_base.specs.declared.limits.TheConstants.{LINES_MAX, NAMES_MAX}
use Rattle.bom_reader.specs.Bill.{AreOrders, BillData, OrdersData}
use Rattle.bom_reader.specs.Faults.{first_fault, unless}
use Rattle.bom_reader.specs.Laws.{BillFaultsAreFirst, IsBillFault, IsLineFault, IsLineRow, IsName, NoRowsAreNoBill, SameEnds, StandsAfter, StatesBill}
use Rattle.bom_reader.specs.Lines.{assembly, bill_of, bill_with, ends_of, line_fault_after, line_units, names_in, part, same_ends}
use Rattle.bom_reader.specs.Names.{has_name, is_name, with_names}
use Rattle.bom_reader.specs.Rows.{Row, row_number}
use Rattle.bom_reader.specs.declared.fault.BillFault.{BillFault}
use Rattle.bom_reader.specs.declared.fault.BillFault.TheVariants.{Rows, TooManyLines, Name, Quantity, TooManyNames, Twice}
use Rattle.bom_reader.proofs.FirstFault.{fault_if-some, first-from, first-to, unless-err, unless-ok}
use Rattle.bom_reader.proofs.LineLaws.{bill-from, bill-made, ends-from, ends-to}
use Rattle.bom_reader.proofs.NameLaws.{name-from, name-to, with_name-same}
use Rattle.bom_reader.proofs.OrderLaws.{is-there, no-value, some-value}
use Rattle.bom_reader.proofs.PairFacts.{IsKnown, known-all, names-append}

-- the names with those of one more row
with-row : (ordered : List (List ℕ)) (before : List Row) (row : Row) → with_names (with_names ordered (names_in before)) (ends_of row) ≡ with_names ordered (names_in (before ++ row ∷ []))
with-row ordered before row = sym (names-append ordered before (row ∷ []))

not-both : (row : Row) → (is_name (assembly row) && is_name (part row)) ≡ false → ¬ (IsName (assembly row) × IsName (part row))
not-both row e n = false≢true (sym e ∙ and_from (is_name (assembly row)) (is_name (part row)) (name-from (assembly row) n.0) (name-from (part row) n.1))

not-sound : (row : Row) → ¬ (IsName (assembly row) × IsName (part row)) → (is_name (assembly row) && is_name (part row)) ≡ false
not-sound row other = go (is_name (assembly row) && is_name (part row)) refl where
  go : (b : Bool) → (is_name (assembly row) && is_name (part row)) ≡ b → (is_name (assembly row) && is_name (part row)) ≡ false
  go true is = let p = and_parts (is_name (assembly row)) (is_name (part row)) is in absurd (other (name-to (assembly row) p.0, name-to (part row) p.1))
  go false is = is

twice-to : (row : Row) (before : List Row) → list_any (same_ends row) before ≡ true → Any (SameEnds row) before
twice-to row before e = let any = Any-from_list_any (same_ends row) before e in (any.0, any.1, any.2, any.3, ends-to row any.1 any.4)

twice-from : (row : Row) (before : List Row) → Any (SameEnds row) before → list_any (same_ends row) before ≡ true
twice-from row before any = list_any_at (same_ends row) before any.0 any.1 any.2 (rw any.3 (ends-from row any.1 any.4))

-- a row whose ends stood together before brings no names
known-again : (ordered : List (List ℕ)) (row : Row) (before : List Row) → Any (SameEnds row) before → with_names (with_names ordered (names_in before)) (ends_of row) ≡ with_names ordered (names_in before)
known-again ordered row before any =
    let names = with_names ordered (names_in before) in
    let known : IsKnown names any.1 = rw any.3 at (known-all ordered before any.0 any.1 any.2) in
    let first : has_name names (assembly row) ≡ true = rw any.4.0 known.0 in
    let second : has_name names (part row) ≡ true = rw any.4.1 known.1 in
    rw (with_name-same names (assembly row) first) (with_name-same names (part row) second)

fault-to : (orders : OrdersData) (rows before : List Row) (row : Row) (fault : BillFault) → StandsAfter rows before row (row_number before) → line_fault_after orders.names before row ≡ Some fault → IsLineFault orders rows before row fault
fault-to orders rows before row fault stands e =
    let at = row_number before in
    let names = with_names orders.names (names_in before) in
    elim (fault_if-some (not (is_name (assembly row) && is_name (part row))) (Name at) fault _ e) [
      | inl name ↦ rw name.1 (stands, not-both row (not-true (is_name (assembly row) && is_name (part row)) name.0))
      | inr named ↦ let p = and_parts (is_name (assembly row)) (is_name (part row)) (not-false (is_name (assembly row) && is_name (part row)) named.0) in
          let first = name-to (assembly row) p.0 in
          let second = name-to (part row) p.1 in
          elim (fault_if-some (is_none (line_units row)) (Quantity at) fault _ named.1) [
            | inl units ↦ rw units.1 (stands, first, second, no-value (line_units row) units.0)
            | inr counted ↦ let full : IsLineRow row = record { assembly_name = first; part_name = second; units = is-there (line_units row) counted.0 } in elim (fault_if-some (ltb NAMES_MAX (length (with_names names (ends_of row)))) (TooManyNames at) fault _ counted.1) [
              | inl many ↦ rw many.1 (stands, full, rw (with-row orders.names before row) at (ltb-true NAMES_MAX (length (with_names names (ends_of row))) many.0))
              | inr few ↦ elim (fault_if-some (list_any (same_ends row) before) (Twice at) fault None few.1) [
                | inl twice ↦ rw twice.1 (stands, full, twice-to row before twice.0)
                | inr nothing ↦ absurd (none-some fault nothing.1)
              ]
            ]
          ]
    ]

fault-from : (orders : OrdersData) (rows before : List Row) (row : Row) (bill : BillData) (fault : BillFault) → StatesBill orders before bill → IsLineFault orders rows before row fault → StandsAfter rows before row (row_number before) × (line_fault_after orders.names before row ≡ Some fault)
fault-from orders rows before row bill (Rows fault) h is = absurd is
fault-from orders rows before row bill TooManyLines h is = absurd is
fault-from orders rows before row bill (Name at) h is = (rw is.0.number at is.0, rw (not-sound row is.1, is.0.number) refl)
fault-from orders rows before row bill (Quantity at) h is =
    let sound = and_from (is_name (assembly row)) (is_name (part row)) (name-from (assembly row) is.1) (name-from (part row) is.2) in
    (rw is.0.number at is.0, rw (sound, is.3, is.0.number) refl)
fault-from orders rows before row bill (TooManyNames at) h is =
    let sound = and_from (is_name (assembly row)) (is_name (part row)) (name-from (assembly row) is.1.assembly_name) (name-from (part row) is.1.part_name) in
    let names = with_names orders.names (names_in before) in
    let more : NAMES_MAX < length (with_names names (ends_of row)) = rw (with-row orders.names before row) is.2 in
    (rw is.0.number at is.0, rw (sound, some-value (line_units row) is.1.units, lt-ltb NAMES_MAX (length (with_names names (ends_of row))) more, is.0.number) refl)
fault-from orders rows before row bill (Twice at) h is =
    let sound = and_from (is_name (assembly row)) (is_name (part row)) (name-from (assembly row) is.1.assembly_name) (name-from (part row) is.1.part_name) in
    let names = with_names orders.names (names_in before) in
    let few : length (with_names names (ends_of row)) ≤ NAMES_MAX = rw (known-again orders.names row before is.2, ← h.names_are) h.few_names in
    (rw is.0.number at is.0, rw (sound, some-value (line_units row) is.1.units, le-ltb NAMES_MAX (length (with_names names (ends_of row))) few, twice-from row before is.2, is.0.number) refl)

faults-to : (orders : OrdersData) (rows : List Row) (fault : BillFault) → AreOrders orders.names orders.ordered → bill_of orders rows ≡ Err fault → IsBillFault orders rows fault
faults-to orders rows fault are e = go (ltb LINES_MAX (length rows)) refl e where
  go : (b : Bool) → ltb LINES_MAX (length rows) ≡ b → cond b (Err TooManyLines) (unless (first_fault (line_fault_after orders.names) [] rows) (bill_with orders rows)) ≡ Err fault → IsBillFault orders rows fault
  go true many f = let is : fault ≡ TooManyLines = cc f in inl (is, ltb-true LINES_MAX (length rows) many)
  go false fits f =
      let few = ltb-false LINES_MAX (length rows) fits in
      let first = first-to (line_fault_after orders.names) [] rows fault (unless-err (first_fault (line_fault_after orders.names) [] rows) (bill_with orders rows) fault f) in
      let count = ap length first.rows_are ∙ length-append first.before (first.row ∷ first.after) in
      let short : length first.before ≤ LINES_MAX = omega (arith, count) in
      let stands : StandsAfter rows first.before first.row (row_number first.before) = record { after = first.after; rows_are = first.rows_are; number = refl } in
      inr (few, (first.before, first.row, bill_with orders first.before, bill-made orders first.before are short first.sound, fault-to orders rows first.before first.row fault stands first.faulty))

faults-from : (orders : OrdersData) (rows : List Row) (fault : BillFault) → IsBillFault orders rows fault → bill_of orders rows ≡ Err fault
faults-from orders rows fault is = elim is [
  | inl many ↦ rw (lt-ltb LINES_MAX (length rows) many.1, many.0) refl
  | inr h ↦ let p = h.1 in
      let at = fault-from orders rows p.0 p.1 p.2 fault p.3 p.4 in
      let sound = sound-before orders p.0 p.2 p.3 in
      rw (le-ltb LINES_MAX (length rows) h.0, first-from (line_fault_after orders.names) rows p.0 p.1 at.0.after fault at.0.rows_are sound at.1) refl
] where
  sound-before : (orders : OrdersData) (before : List Row) (bill : BillData) → StatesBill orders before bill → first_fault (line_fault_after orders.names) [] before ≡ None
  sound-before orders before bill h = unless-ok (first_fault (line_fault_after orders.names) [] before) (bill_with orders before) bill (rw (le-ltb LINES_MAX (length before) h.few_lines) at (bill-from orders before bill h))

pub bill_faults_are_first : BillFaultsAreFirst
bill_faults_are_first orders rows fault are = (faults-to orders rows fault are, faults-from orders rows fault)

pub no_rows_are_no_bill : NoRowsAreNoBill
no_rows_are_no_bill orders are =
    let none : length orders.names - length orders.ordered ≡ 0 = rw are.one_each (omega arith) in
    rw (none, append-nil orders.ordered) refl
