-- When a bill comes, and when each fault.
use Rattle.std.proofs.Common.{◌≡◌, ℕ, ◌+◌, ◌<◌, ◌≤◌, Bool, true, false, cond, ltb, List, [], ◌∷◌, map, length, get_or, take, drop, None, Some, Ok, Err, refl, sym, ap, ◌∙◌, arith}
use Rattle.std.proofs.lemmas.Bool.{and_from, and_parts, false≢true, le-ltb, ltb-false}
use Rattle.std.proofs.lemmas.List.{get_or-take, get_or_default, length-take-le, take-append-drop, take_more}
use Rattle.std.proofs.lemmas.List.Elements.{All-cons, All-head, All-nil, All-tail}
use Rattle.std.proofs.lemmas.List.Folds.{list_any_at, list_any_none}
use Rattle.std.proofs.lemmas.Option.{cond_some}
use Rattle.std.specs.Cmp.Lexicographic.{bytes_decides}
use Rattle.std.specs.List.{AllZip, list_any, position_or_len}
use Rattle.std.specs.Prelude.{All, is_none}
use Rattle.std.specs.Str.{bytes_eq}
use Rattle.tqd_base.specs.declared.limits.TheConstants.{LINES_MAX, NAMES_MAX}
use Rattle.bom_reader.specs.Bill.{AreOrders, BillData, OrdersData}
use Rattle.bom_reader.specs.Faults.{first_fault, unless}
use Rattle.bom_reader.specs.Laws.{BillsAreWhole, IsName, SameEnds, StatesBill, StatesLine}
use Rattle.bom_reader.specs.Lines.{assembly, bill_of, bill_with, ends_of, line_fault_after, line_of, line_units, names_in, part, same_ends}
use Rattle.bom_reader.specs.Names.{is_name, number_of, with_names}
use Rattle.bom_reader.specs.Rows.{Row}
use Rattle.bom_reader.specs.declared.line.Line.{Line}
use Rattle.bom_reader.specs.declared.fault.BillFault.TheVariants.{TooManyLines}
use Rattle.bom_reader.proofs.BillFacts.{length-with_names}
use Rattle.bom_reader.proofs.FirstFault.{sound-each, unless-ok, unless-value}
use Rattle.bom_reader.proofs.LineFacts.{few-names, line-at}
use Rattle.bom_reader.proofs.NameLaws.{name-from, name-to}
use Rattle.bom_reader.proofs.OrderLaws.{value-there}
use Rattle.bom_reader.proofs.PairFacts.{IsKnown, known-all, names-append}
use Rattle.bom_reader.proofs.Places.{place_inside, position-inside}

-- the names of rows
abbrev HasNames : Row → Type 0
HasNames row = IsName (assembly row) × IsName (part row)

names-to : (rows : List Row) → All HasNames rows → All IsName (names_in rows)
names-to [] all = All-nil IsName
names-to (row ∷ rows) all =
    let first = All-head HasNames row rows all in
    All-cons IsName (assembly row) (part row ∷ names_in rows) first.0 (All-cons IsName (part row) (names_in rows) first.1 (names-to rows (All-tail HasNames row rows all)))

names-from : (rows : List Row) → All IsName (names_in rows) → All HasNames rows
names-from [] all = All-nil HasNames
names-from (row ∷ rows) all =
    let others = All-tail IsName (assembly row) (part row ∷ names_in rows) all in
    All-cons HasNames row rows (All-head IsName (assembly row) (part row ∷ names_in rows) all, All-head IsName (part row) (names_in rows) others) (names-from rows (All-tail IsName (part row) (names_in rows) others))

-- the lines of rows
abbrev IsLined : List (List ℕ) → Row → Type 0
IsLined names row = IsKnown names row × (is_none (line_units row) ≡ false)

states-to : (names : List (List ℕ)) (row : Row) → IsLined names row → StatesLine names row (line_of names row)
states-to names row h = record {
  assembly_is = position-inside (bytes_eq (assembly row)) names (place_inside (bytes_eq (assembly row)) names h.0.0);
  part_is = position-inside (bytes_eq (part row)) names (place_inside (bytes_eq (part row)) names h.0.1);
  units_are = sym (value-there (line_units row) h.1);
}

lines-to : (names : List (List ℕ)) (rows : List Row) → All (IsLined names) rows → AllZip (StatesLine names) rows (map (line_of names) rows)
lines-to names [] all = tt
lines-to names (row ∷ rows) all = (states-to names row (All-head (IsLined names) row rows all), lines-to names rows (All-tail (IsLined names) row rows all))

place-is : (names : List (List ℕ)) (name : List ℕ) (n : ℕ) → number_of names name ≡ Some n → position_or_len (bytes_eq name) names ≡ n
place-is names name n e = (cond_some (ltb (position_or_len (bytes_eq name) names) (length names)) (position_or_len (bytes_eq name) names) n e).1

lines-from : (names : List (List ℕ)) (rows : List Row) (lines : List Line) → AllZip (StatesLine names) rows lines → map (line_of names) rows ≡ lines
lines-from names [] [] all = refl
lines-from names [] (line ∷ lines) all = absurd all
lines-from names (row ∷ rows) [] all = absurd all
lines-from names (row ∷ rows) (line ∷ lines) all =
    let is = all.0 in
    rw (place-is names (assembly row) line.assembly is.assembly_is, place-is names (part row) line.part is.part_is, is.units_are, lines-from names rows lines all.1) refl

units-from : (names : List (List ℕ)) (rows : List Row) (lines : List Line) → AllZip (StatesLine names) rows lines → All (λ row. is_none (line_units row) ≡ false) rows
units-from names [] lines all = All-nil (λ (row : Row). is_none (line_units row) ≡ false)
units-from names (row ∷ rows) [] all = absurd all
units-from names (row ∷ rows) (line ∷ lines) all = All-cons (λ (r : Row). is_none (line_units r) ≡ false) row rows (rw all.0.units_are refl) (units-from names rows lines all.1)

-- rows with the same ends
pub ends-from : (a b : Row) → SameEnds a b → same_ends a b ≡ true
ends-from a b same = and_from (bytes_eq (assembly a) (assembly b)) (bytes_eq (part a) (part b)) ((bytes_decides (assembly a) (assembly b)).1 same.0) ((bytes_decides (part a) (part b)).1 same.1)

pub ends-to : (a b : Row) → same_ends a b ≡ true → SameEnds a b
ends-to a b e =
    let p = and_parts (bytes_eq (assembly a) (assembly b)) (bytes_eq (part a) (part b)) e in
    ((bytes_decides (assembly a) (assembly b)).0 p.0, (bytes_decides (part a) (part b)).0 p.1)

pub flipped : (a b : Row) → SameEnds a b → SameEnds b a
flipped a b same = (sym same.0, sym same.1)

-- a bill comes
pub bill-made : (orders : OrdersData) (rows : List Row) → AreOrders orders.names orders.ordered → length rows ≤ LINES_MAX → first_fault (line_fault_after orders.names) [] rows ≡ None → StatesBill orders rows (bill_with orders rows)
bill-made orders rows are few none =
    let names = with_names orders.names (names_in rows) in
    record {
      few_lines = few;
      names_are = refl;
      each_name = names-to rows (λ i d inside.
          let row = get_or rows i d in
          let p = and_parts (is_name (assembly row)) (is_name (part row)) (line-at orders.names rows none i d inside).names_are in
          (name-to (assembly row) p.0, name-to (part row) p.1));
      few_names = few-names orders.names rows are.few_names none;
      ordered_are = refl;
      lines_are = lines-to names rows (λ i d inside. (known-all orders.names rows i d inside, (line-at orders.names rows none i d inside).units));
      distinct = λ i j d ordered inside same.
          let last = get_or rows j d in
          let among : i < length (take j rows) = rw (length-take-le j rows (omega arith)) ordered in
          let twice : list_any (same_ends last) (take j rows) ≡ true = list_any_at (same_ends last) (take j rows) i d among (rw (get_or-take j rows i d ordered) (ends-from last (get_or rows i d) (flipped (get_or rows i d) last same))) in
          false≢true (sym (line-at orders.names rows none j d inside).once ∙ twice);
    }

bill-to : (orders : OrdersData) (rows : List Row) (bill : BillData) → AreOrders orders.names orders.ordered → bill_of orders rows ≡ Ok bill → StatesBill orders rows bill
bill-to orders rows bill are e = go (ltb LINES_MAX (length rows)) refl e where
  go : (b : Bool) → ltb LINES_MAX (length rows) ≡ b → cond b (Err TooManyLines) (unless (first_fault (line_fault_after orders.names) [] rows) (bill_with orders rows)) ≡ Ok bill → StatesBill orders rows bill
  go true many f = cc f
  go false few f =
      let none = unless-ok (first_fault (line_fault_after orders.names) [] rows) (bill_with orders rows) bill f in
      let is = unless-value (first_fault (line_fault_after orders.names) [] rows) (bill_with orders rows) bill f in
      rw (← is) (bill-made orders rows are (ltb-false LINES_MAX (length rows) few) none)

-- the names so far are no more than all names
few-so-far : (ordered : List (List ℕ)) (rows : List Row) (i : ℕ) (d : Row) → i < length rows → length (with_names ordered (names_in rows)) ≤ NAMES_MAX → length (with_names (with_names ordered (names_in (take i rows))) (ends_of (get_or rows i d))) ≤ NAMES_MAX
few-so-far ordered rows i d inside few =
    let row = get_or rows i d in
    let front : with_names (with_names ordered (names_in (take i rows))) (ends_of row) ≡ with_names ordered (names_in (take (i + 1) rows)) = sym (names-append ordered (take i rows) (row ∷ [])) ∙ ap (λ (all : List Row). with_names ordered (names_in all)) (sym (take_more rows i d inside)) in
    let whole : with_names ordered (names_in rows) ≡ with_names (with_names ordered (names_in (take (i + 1) rows))) (names_in (drop (i + 1) rows)) = ap (λ (all : List Row). with_names ordered (names_in all)) (sym (take-append-drop (i + 1) rows)) ∙ names-append ordered (take (i + 1) rows) (drop (i + 1) rows) in
    let longer = length-with_names (with_names ordered (names_in (take (i + 1) rows))) (names_in (drop (i + 1) rows)) in
    let all : length (with_names (with_names ordered (names_in (take (i + 1) rows))) (names_in (drop (i + 1) rows))) ≤ NAMES_MAX = rw whole at few in
    rw front (omega arith)

sound-row : (orders : OrdersData) (rows : List Row) (bill : BillData) → StatesBill orders rows bill → (i : ℕ) (d : Row) → i < length rows → line_fault_after orders.names (take i rows) (get_or rows i d) ≡ None
sound-row orders rows bill h i d inside =
    let row = get_or rows i d in
    let named = names-from rows h.each_name i d inside in
    let sound = and_from (is_name (assembly row)) (is_name (part row)) (name-from (assembly row) named.0) (name-from (part row) named.1) in
    let units = units-from bill.names rows bill.lines h.lines_are i d inside in
    let few = few-so-far orders.names rows i d inside (rw h.names_are at h.few_names) in
    let other : All (λ (r : Row). same_ends row r ≡ false) (take i rows) = λ k e among.
    let before : k < i = omega (arith, length-take-le i rows (omega arith)) in
    let is : get_or (take i rows) k e ≡ get_or rows k e = get_or-take i rows k e before in
    let differ : ¬ (SameEnds (get_or rows k d) row) = h.distinct k i d before inside in
    let default : get_or rows k e ≡ get_or rows k d = get_or_default rows k e d (omega arith) in
    not-same row (get_or (take i rows) k e) (rw (is, default) differ) in
    let once = list_any_none (same_ends row) (take i rows) other in
    rw (sound, units, le-ltb NAMES_MAX (length (with_names (with_names orders.names (names_in (take i rows))) (ends_of row))) few, once) refl where
      not-same : (a b : Row) → ¬ (SameEnds b a) → same_ends a b ≡ false
      not-same a b differ = go (same_ends a b) refl where
        go : (t : Bool) → same_ends a b ≡ t → same_ends a b ≡ false
        go true is = absurd (differ (flipped a b (ends-to a b is)))
        go false is = is

pub bill-from : (orders : OrdersData) (rows : List Row) (bill : BillData) → StatesBill orders rows bill → bill_of orders rows ≡ Ok bill
bill-from orders rows bill h =
    let none = sound-each (line_fault_after orders.names) [] rows (sound-row orders rows bill h) in
    let lines = lines-from bill.names rows bill.lines h.lines_are in
    rw (le-ltb LINES_MAX (length rows) h.few_lines, none, ← h.names_are, ← h.ordered_are, lines) refl

pub bills_are_whole : BillsAreWhole
bills_are_whole orders rows bill are = (bill-to orders rows bill are, bill-from orders rows bill)
