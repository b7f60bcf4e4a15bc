-- Rows of a bill without a fault, and the loop that reads them.
use Rattle.std.proofs.Common.{◌≡◌, ℕ, ◌+◌, ◌<◌, ◌≤◌, Bool, true, false, cond, not, ◌&&◌, ltb, List, [], ◌∷◌, ◌++◌, map, length, get_or, take, Option, None, Some, Result, Ok, Err, refl, sym, ap, ◌∙◌, subst, arith}
use Rattle.std.proofs.lemmas.Bool.{not-false, ltb-false}
use Rattle.std.proofs.lemmas.List.{length-take-le, map-append, take_all, take_more}
use Rattle.std.proofs.lemmas.List.Elements.{All-map, All-weaker}
use Rattle.std.specs.Prelude.{All, is_none}
use Rattle.std.specs.BTreeMap.{is_at}
use Rattle.std.specs.BTreeSet.{BTreeSet, IsEmpty, contains}
use Rattle.std.specs.List.{list_any}
use Rattle.std.specs.Option.{option_or}
use Rattle.std.specs.Str.{bytes_eq}
use Rattle.tqd_base.specs.declared.limits.TheConstants.{QTY_MAX, NAMES_MAX}
use Rattle.tqd_base.specs.declared.memory.Stop.{Stop}
use Rattle.tqd_base.specs.declared.memory.Stop.TheVariants.{Refused, Memory}
use Rattle.bom_reader.specs.Names.{is_name, with_names}
use Rattle.bom_reader.specs.Bill.{IsLine}
use Rattle.bom_reader.specs.Faults.{Answers, AnswersBy, fault_if, first_fault, unless}
use Rattle.bom_reader.specs.Rows.{Row, field}
use Rattle.bom_reader.specs.Lines.{assembly, part, line_units, ends_of, names_in, same_ends, line_fault, line_fault_after, line_of}
use Rattle.bom_reader.specs.declared.line.Line.{Line}
use Rattle.bom_reader.specs.declared.fault.BillFault.{BillFault}
use Rattle.bom_reader.specs.declared.fault.BillFault.TheVariants.{Name, Quantity, TooManyNames, Twice}
use Rattle.bom_reader.proofs.FirstFault.{fault_if-none, first_fault-more, first_fault-at, each-sound, unless-ok, unless-value, unless-err}
use Rattle.bom_reader.proofs.Places.{place_inside}
use Rattle.bom_reader.proofs.Units.{units-within}
use Rattle.bom_reader.proofs.PairFacts.{IsKnown, known-own, known-stays, known-all, names-append, lines-stay, pair_of, pairs-same, pair_cmp, pairs-none, pairs-more, HoldsPairs}

-- a row without a fault, where these names and rows are before it
pub record IsLineRow (names : List (List ℕ)) (earlier : List Row) (row : Row) : Type 0 where
  pub names_are : (is_name (assembly row) && is_name (part row)) ≡ true
  pub units : is_none (line_units row) ≡ false
  pub few : length (with_names names (ends_of row)) ≤ NAMES_MAX
  pub once : list_any (same_ends row) earlier ≡ false

pub line-sound : (names : List (List ℕ)) (earlier : List Row) (at : ℕ) (row : Row) → line_fault names earlier at row ≡ None → IsLineRow names earlier row
line-sound names earlier at row e =
    let a = fault_if-none (not (is_name (assembly row) && is_name (part row))) (Name at) _ e in
    let b = fault_if-none (is_none (line_units row)) (Quantity at) _ a.1 in
    let c = fault_if-none _ (TooManyNames at) _ b.1 in
    let d = fault_if-none (list_any (same_ends row) earlier) (Twice at) None c.1 in
    record { names_are = not-false (is_name (assembly row) && is_name (part row)) a.0; units = b.0; few = ltb-false NAMES_MAX (length (with_names names (ends_of row))) c.0; once = d.0 }

pub line-at : (ordered : List (List ℕ)) (rows : List Row) → first_fault (line_fault_after ordered) [] rows ≡ None → (i : ℕ) (d : Row) → i < length rows → IsLineRow (with_names ordered (names_in (take i rows))) (take i rows) (get_or rows i d)
line-at ordered rows none i d inside = line-sound (with_names ordered (names_in (take i rows))) (take i rows) _ (get_or rows i d) (each-sound (line_fault_after ordered) [] rows none i d inside)

-- the test for a repeat comes last
first-three : (a b c : Bool) (x y z : BillFault) (last : Option BillFault) → fault_if a x (fault_if b y (fault_if c z last)) ≡ option_or (fault_if a x (fault_if b y (fault_if c z None))) last
first-three true b c x y z last = refl
first-three false true c x y z last = refl
first-three false false true x y z last = refl
first-three false false false x y z last = refl

pub repeat-last : (names : List (List ℕ)) (earlier : List Row) (at : ℕ) (row : Row) → line_fault names earlier at row ≡ option_or (line_fault names [] at row) (fault_if (list_any (same_ends row) earlier) (Twice at) None)
repeat-last names earlier at row = first-three (not (is_name (assembly row) && is_name (part row))) (is_none (line_units row)) (ltb NAMES_MAX (length (with_names names (ends_of row)))) (Name at) (Quantity at) (TooManyNames at) (fault_if (list_any (same_ends row) earlier) (Twice at) None)

pub few-names : (ordered : List (List ℕ)) (rows : List Row) → length ordered ≤ NAMES_MAX → first_fault (line_fault_after ordered) [] rows ≡ None → length (with_names ordered (names_in rows)) ≤ NAMES_MAX
few-names ordered [] few none = few
few-names ordered (row ∷ rows) few none =
    let last = line-at ordered (row ∷ rows) none (length rows) [] (omega arith) in
    let end = get_or (row ∷ rows) (length rows) [] in
    let whole : take (length rows) (row ∷ rows) ++ end ∷ [] ≡ row ∷ rows = sym (take_more (row ∷ rows) (length rows) [] (omega arith)) ∙ take_all (length rows + 1) (row ∷ rows) (omega arith) in
    let names : with_names ordered (names_in (row ∷ rows)) ≡ with_names (with_names ordered (names_in (take (length rows) (row ∷ rows)))) (ends_of end) = ap (λ (all : List Row). with_names ordered (names_in all)) (sym whole) ∙ names-append ordered (take (length rows) (row ∷ rows)) (end ∷ []) in
    rw names last.few

-- rows without a fault state lines between the names
pub lines-sound : (ordered : List (List ℕ)) (rows : List Row) → first_fault (line_fault_after ordered) [] rows ≡ None → All (IsLine (length (with_names ordered (names_in rows)))) (map (line_of (with_names ordered (names_in rows))) rows)
lines-sound ordered rows none =
    let names = with_names ordered (names_in rows) in
    All-map (IsLine (length names)) (line_of names) rows (λ i d inside.
    let known = known-all ordered rows i d inside in
    let units = units-within 1 QTY_MAX (field 2 (get_or rows i d)) (line-at ordered rows none i d inside).units in
    record {
      assembly = place_inside (bytes_eq (assembly (get_or rows i d))) names known.0;
      part = place_inside (bytes_eq (part (get_or rows i d))) names known.1;
      some = units.0;
      within = units.1;
    })

-- what the loop has read before row i of a table
pub record HasLines (ordered : List (List ℕ)) (table : List Row) (i : ℕ) (names : List (List ℕ)) (lines : List Line) (pairs : BTreeSet (ℕ × ℕ)) : Type 0 where
  pub names_are : names ≡ with_names ordered (names_in (take i table))
  pub lines_are : lines ≡ map (line_of names) (take i table)
  pub pairs_are : HoldsPairs pairs (map pair_of lines)
  pub sound : first_fault (line_fault_after ordered) [] (take i table) ≡ None

pub no-lines : (ordered : List (List ℕ)) (table : List Row) (pairs : BTreeSet (ℕ × ℕ)) → IsEmpty pairs → HasLines ordered table 0 ordered [] pairs
no-lines ordered table pairs none = record { names_are = refl; lines_are = refl; pairs_are = pairs-none pairs none; sound = refl }

-- the row that a call read: its number, its fields, and the names after it
pub record ReadsRow (table : List Row) (i at : ℕ) (names names' : List (List ℕ)) (first second third : List ℕ) : Type 0 where
  pub inside : i < length table
  pub number : at ≡ i + 2
  pub first_is : first ≡ field 0 (get_or table i [])
  pub second_is : second ≡ field 1 (get_or table i [])
  pub third_is : third ≡ field 2 (get_or table i [])

abbrev pub AddsNames : List (List ℕ) → List (List ℕ) → List ℕ → List ℕ → Type 0
AddsNames names names' first second = names' ≡ with_names names (first ∷ second ∷ [])

abbrev pub AnswersLine : List (List ℕ) → List (List ℕ) → ℕ → List ℕ → List ℕ → List ℕ → Result Line (Stop BillFault) → Type 0
AnswersLine names names' at first second third result = Answers result (unless (line_fault names [] at (first ∷ second ∷ third ∷ [])) (line_of names' (first ∷ second ∷ third ∷ [])))

same-row : (ordered : List (List ℕ)) (table : List Row) (i at : ℕ) (names names' : List (List ℕ)) (first second third : List ℕ) → ReadsRow table i at names names' first second third → names ≡ with_names ordered (names_in (take i table))
    → line_fault_after ordered (take i table) (get_or table i []) ≡ option_or (line_fault names [] at (first ∷ second ∷ third ∷ [])) (fault_if (list_any (same_ends (get_or table i [])) (take i table)) (Twice at) None)
same-row ordered table i at names names' first second third r earlier =
    let place : at ≡ length (take i table) + 2 = rw (length-take-le i table (omega (arith, r.inside))) r.number in
    repeat-last (with_names ordered (names_in (take i table))) (take i table) (length (take i table) + 2) (get_or table i []) ∙ rw (earlier, place, r.first_is, r.second_is, r.third_is) refl

-- whether the pair of the line stands among the pairs so far
contains-is : (ordered : List (List ℕ)) (table : List Row) (i at : ℕ) (names names' : List (List ℕ)) (lines : List Line) (pairs : BTreeSet (ℕ × ℕ)) (first second third : List ℕ) → HasLines ordered table i names lines pairs
    → ReadsRow table i at names names' first second third → AddsNames names names' first second
    → contains pair_cmp pairs (pair_of (line_of names' (first ∷ second ∷ third ∷ []))) ≡ list_any (same_ends (get_or table i [])) (take i table)
contains-is ordered table i at names names' lines pairs first second third h r added =
    let row = get_or table i [] in
    let names-after : names' ≡ with_names names (ends_of row) = rw (r.first_is, r.second_is) at added in
    let known : All (IsKnown names) (take i table) = rw h.names_are (known-all ordered (take i table)) in
    let kept : map (line_of names') (take i table) ≡ lines = rw names-after (lines-stay names (ends_of row) (take i table) known) ∙ sym h.lines_are in
    let all : All (IsKnown names') (take i table) = rw names-after (All-weaker (IsKnown names) (IsKnown (with_names names (ends_of row))) (λ (other : Row). known-stays names (ends_of row) other) (take i table) known) in
    let own : IsKnown names' row = rw names-after (known-own names row) in
    h.pairs_are (pair_of (line_of names' (first ∷ second ∷ third ∷ []))) ∙ rw (← kept, r.first_is, r.second_is) (pairs-same names' row (take i table) own all)

pub lines-stop : {X : Type 0} (view : X → List Line) (ordered : List (List ℕ)) (table : List Row) (i at : ℕ) (names names' : List (List ℕ)) (lines : List Line) (pairs : BTreeSet (ℕ × ℕ)) (first second third : List ℕ) (stop : Stop BillFault) (value : List Line) → HasLines ordered table i names lines pairs
    → ReadsRow table i at names names' first second third → AnswersLine names names' at first second third (Err stop) → AnswersBy view (Err stop) (unless (first_fault (line_fault_after ordered) [] table) value)
lines-stop view ordered table i at names names' lines pairs first second third Memory value h r answer = tt
lines-stop view ordered table i at names names' lines pairs first second third (Refused fault) value h r answer =
    let early = unless-err (line_fault names [] at (first ∷ second ∷ third ∷ [])) _ fault answer in
    let faulty : line_fault_after ordered (take i table) (get_or table i []) ≡ Some fault = same-row ordered table i at names names' first second third r h.names_are ∙ rw early refl in
    rw (first_fault-at (line_fault_after ordered) table i [] fault r.inside h.sound faulty) refl

pub line-repeats : (ordered : List (List ℕ)) (table : List Row) (i at : ℕ) (names names' : List (List ℕ)) (lines : List Line) (pairs : BTreeSet (ℕ × ℕ)) (first second third : List ℕ) (line : Line) (value : List Line) → HasLines ordered table i names lines pairs
    → ReadsRow table i at names names' first second third → AddsNames names names' first second → AnswersLine names names' at first second third (Ok line)
    → contains pair_cmp pairs (pair_of line) ≡ true → unless (first_fault (line_fault_after ordered) [] table) value ≡ Err (Twice at)
line-repeats ordered table i at names names' lines pairs first second third line value h r added answer repeats =
    let row = first ∷ second ∷ third ∷ [] in
    let early = unless-ok (line_fault names [] at row) (line_of names' row) line answer in
    let is = unless-value (line_fault names [] at row) (line_of names' row) line answer in
    let stood : list_any (same_ends (get_or table i [])) (take i table) ≡ true = sym (contains-is ordered table i at names names' lines pairs first second third h r added) ∙ subst (λ (l : Line). contains pair_cmp pairs (pair_of l) ≡ true) (sym is) repeats in
    let faulty : line_fault_after ordered (take i table) (get_or table i []) ≡ Some (Twice at) = same-row ordered table i at names names' first second third r h.names_are ∙ rw (early, stood) refl in
    rw (first_fault-at (line_fault_after ordered) table i [] (Twice at) r.inside h.sound faulty) refl

pub more-lines : (ordered : List (List ℕ)) (table : List Row) (i at : ℕ) (names names' : List (List ℕ)) (lines lines' : List Line) (pairs pairs' : BTreeSet (ℕ × ℕ)) (first second third : List ℕ) (line : Line) → HasLines ordered table i names lines pairs
    → ReadsRow table i at names names' first second third → AddsNames names names' first second → AnswersLine names names' at first second third (Ok line)
    → contains pair_cmp pairs (pair_of line) ≡ false → lines' ≡ lines ++ line ∷ [] → ((q : ℕ × ℕ) → contains pair_cmp pairs' q ≡ cond (is_at (pair_cmp (pair_of line)) q) true (contains pair_cmp pairs q))
    → HasLines ordered table (i + 1) names' lines' pairs'
more-lines ordered table i at names names' lines lines' pairs pairs' first second third line h r added answer fresh pushed paired =
    let row = first ∷ second ∷ third ∷ [] in
    let end = get_or table i [] in
    let early = unless-ok (line_fault names [] at row) (line_of names' row) line answer in
    let is : line_of names' end ≡ line = rw (← r.first_is, ← r.second_is, ← r.third_is) (unless-value (line_fault names [] at row) (line_of names' row) line answer) in
    let other : list_any (same_ends end) (take i table) ≡ false = sym (contains-is ordered table i at names names' lines pairs first second third h r added) ∙ subst (λ (l : Line). contains pair_cmp pairs (pair_of l) ≡ false) (sym (unless-value (line_fault names [] at row) (line_of names' row) line answer)) fresh in
    let fine : line_fault_after ordered (take i table) end ≡ None = same-row ordered table i at names names' first second third r h.names_are ∙ rw (early, other) refl in
    let names-after : names' ≡ with_names names (ends_of end) = rw (r.first_is, r.second_is) at added in
    let known : All (IsKnown names) (take i table) = rw h.names_are (known-all ordered (take i table)) in
    let kept : map (line_of names') (take i table) ≡ lines = rw names-after (lines-stay names (ends_of end) (take i table) known) ∙ sym h.lines_are in
    record {
      names_are = rw (take_more table i [] r.inside) (names-after ∙ (rw h.names_are refl ∙ sym (names-append ordered (take i table) (end ∷ []))));
      lines_are = rw (take_more table i [] r.inside, map-append, kept) (pushed ∙ rw is refl);
      pairs_are = rw (pushed, map-append) (pairs-more pairs pairs' (map pair_of lines) (pair_of line) h.pairs_are paired);
      sound = first_fault-more (line_fault_after ordered) table i [] r.inside h.sound fine;
    }

pub all-lines : (ordered : List (List ℕ)) (table : List Row) (i : ℕ) (names : List (List ℕ)) (lines : List Line) (pairs : BTreeSet (ℕ × ℕ)) → HasLines ordered table i names lines pairs → length table ≤ i
    → unless (first_fault (line_fault_after ordered) [] table) (map (line_of names) table) ≡ Ok lines
all-lines ordered table i names lines pairs h past =
    let whole = take_all i table past in
    let sound : first_fault (line_fault_after ordered) [] table ≡ None = rw whole at h.sound in
    let all : lines ≡ map (line_of names) table = rw whole at h.lines_are in
    rw (sound, all) refl

pub all-names : (ordered : List (List ℕ)) (table : List Row) (i : ℕ) (names : List (List ℕ)) (lines : List Line) (pairs : BTreeSet (ℕ × ℕ)) → HasLines ordered table i names lines pairs → length table ≤ i → names ≡ with_names ordered (names_in table)
all-names ordered table i names lines pairs h past = rw (take_all i table past) at h.names_are
