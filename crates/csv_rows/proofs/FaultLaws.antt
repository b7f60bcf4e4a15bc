-- When a table comes, and when each fault.
use Rattle.std.proofs.Common.{◌≡◌, ◌≢◌, ◌⊎◌, ℕ, suc, ◌+◌, Bool, true, false, cond, eqb, List, [], ◌∷◌, ◌++◌, length, Option, Some, None, Ok, Err, refl, ap, sym, ◌∙◌, inl, inr, arith}
use Rattle.std.proofs.lemmas.Bool.{eq-eqb, eqb-true, eqb-false, ne_eqb, false≢true}
use Rattle.std.proofs.lemmas.List.Elements.{All-nil, All-cons, All-head, All-tail}
use Rattle.std.proofs.lemmas.Option.{none-some, same_Some}
use Rattle.std.proofs.lemmas.Str.{IsUtf8-from_is_utf8, is_utf8-from_IsUtf8}
use Rattle.std.specs.Cmp.Lexicographic.{pointwise, pointwise_decides, bytes_decides}
use Rattle.std.specs.Option.{option_or}
use Rattle.std.specs.Prelude.{All, IsUtf8}
use Rattle.std.specs.Str.{bytes_eq, is_utf8}
use Rattle.csv_rows.specs.Laws.{ComesFirst, FaultsAreFirst, HasBadField, IsFault, IsRow, TablesAreWhole}
use Rattle.csv_rows.specs.Rows.{row_fault, rows_fault, table_of, text_fault, unless}
use Rattle.csv_rows.specs.declared.fault.RowFault.{RowFault}
use Rattle.csv_rows.specs.declared.fault.RowFault.TheVariants.{Empty, Header, Width, Text}
use Rattle.csv_rows.proofs.TableFacts.{or-none, rows_fault-append, unless-ok, unless-value, unless-err, other-first}

same-names : (first names : List (List ℕ)) → pointwise bytes_eq first names ≡ true → first ≡ names
same-names first names e = (pointwise_decides bytes_decides first names).0 e

is-same : (names : List (List ℕ)) → pointwise bytes_eq names names ≡ true
is-same names = (pointwise_decides bytes_decides names names).1 refl

-- fields
text-go : (at n : ℕ) (f : List ℕ) (fs : List (List ℕ)) (b : Bool) → is_utf8 f ≡ b → (text_fault at (n + 1) fs ≡ None → All IsUtf8 fs) → cond b (text_fault at (n + 1) fs) (Some (Text at n)) ≡ None → All IsUtf8 (f ∷ fs)
text-go at n f fs true is more e = All-cons IsUtf8 f fs (IsUtf8-from_is_utf8 f is) (more e)
text-go at n f fs false is more e = absurd (none-some (Text at n) (sym e))

text-none-to : (at n : ℕ) (fields : List (List ℕ)) → text_fault at n fields ≡ None → All IsUtf8 fields
text-none-to at n [] e = All-nil IsUtf8
text-none-to at n (f ∷ fs) e = text-go at n f fs (is_utf8 f) refl (text-none-to at (n + 1) fs) e

text-none-from : (at n : ℕ) (fields : List (List ℕ)) → All IsUtf8 fields → text_fault at n fields ≡ None
text-none-from at n [] all = refl
text-none-from at n (f ∷ fs) all = rw (is_utf8-from_IsUtf8 f (All-head IsUtf8 f fs all)) (text-none-from at (n + 1) fs (All-tail IsUtf8 f fs all))

-- a row
row-none-to : (width at : ℕ) (row : List (List ℕ)) → row_fault width at row ≡ None → IsRow width row
row-none-to width at row e = go (eqb (length row) width) refl e where
  go : (b : Bool) → eqb (length row) width ≡ b → cond b (text_fault at 1 row) (Some (Width at (length row))) ≡ None → IsRow width row
  go true is f = (eqb-true (length row) width is, text-none-to at 1 row f)
  go false is f = absurd (none-some (Width at (length row)) (sym f))

row-none-from : (width at : ℕ) (row : List (List ℕ)) → IsRow width row → row_fault width at row ≡ None
row-none-from width at row is = rw (eq-eqb (length row) width is.0) (text-none-from at 1 row is.1)

-- rows
rows-none-to : (width at : ℕ) (rows : List (List (List ℕ))) → rows_fault width at rows ≡ None → All (IsRow width) rows
rows-none-to width at [] e = All-nil (IsRow width)
rows-none-to width at (row ∷ rows) e =
    let parts = or-none (row_fault width at row) (rows_fault width (at + 1) rows) e in
    All-cons (IsRow width) row rows (row-none-to width at row parts.0) (rows-none-to width (at + 1) rows parts.1)

rows-none-from : (width at : ℕ) (rows : List (List (List ℕ))) → All (IsRow width) rows → rows_fault width at rows ≡ None
rows-none-from width at [] all = refl
rows-none-from width at (row ∷ rows) all = rw (row-none-from width at row (All-head (IsRow width) row rows all), rows-none-from width (at + 1) rows (All-tail (IsRow width) row rows all)) refl

-- a table
table-to : (names : List (List ℕ)) (all rows : List (List (List ℕ))) → table_of names all ≡ Ok rows → (all ≡ names ∷ rows) × All (IsRow (length names)) rows
table-to names [] rows e = cc e
table-to names (first ∷ others) rows e = go (pointwise bytes_eq first names) refl e where
  go : (b : Bool) → pointwise bytes_eq first names ≡ b → cond b (unless (rows_fault (length names) 2 others) others) (Err Header) ≡ Ok rows → (first ∷ others ≡ names ∷ rows) × All (IsRow (length names)) rows
  go true is f =
      let same = same-names first names is in
      let rest : others ≡ rows = unless-value (rows_fault (length names) 2 others) others rows f in
      let sound = rows-none-to (length names) 2 others (unless-ok (rows_fault (length names) 2 others) others rows f) in
      (rw (same, rest) refl, rw (← rest) sound)
  go false is f = cc f

table-from : (names : List (List ℕ)) (all rows : List (List (List ℕ))) → all ≡ names ∷ rows → All (IsRow (length names)) rows → table_of names all ≡ Ok rows
table-from names all rows e sound = rw (e, is-same names, rows-none-from (length names) 2 rows sound) refl

pub tables_are_whole : TablesAreWhole
tables_are_whole names all rows = (table-to names all rows, λ h. table-from names all rows h.0 h.1)

-- the first field that is not UTF-8, where fields are numbered on from n
record BadFrom (n : ℕ) (fields : List (List ℕ)) (number : ℕ) : Type 0 where
  before : List (List ℕ)
  bad : List ℕ
  after : List (List ℕ)
  fields_are : fields ≡ before ++ bad ∷ after
  sound : All IsUtf8 before
  not_text : ¬ (IsUtf8 bad)
  is_number : number ≡ length before + n

bad-more : (n : ℕ) (f : List ℕ) (fs : List (List ℕ)) (number : ℕ) → IsUtf8 f → BadFrom (n + 1) fs number → BadFrom n (f ∷ fs) number
bad-more n f fs number text b = record {
  before = f ∷ b.before;
  bad = b.bad;
  after = b.after;
  fields_are = ap (λ (t : List (List ℕ)). f ∷ t) b.fields_are;
  sound = All-cons IsUtf8 f b.before text b.sound;
  not_text = b.not_text;
  is_number = omega (arith, b.is_number);
}

not_utf8 : (f : List ℕ) → is_utf8 f ≡ false → ¬ (IsUtf8 f)
not_utf8 f is text = false≢true (sym is ∙ is_utf8-from_IsUtf8 f text)

text-some-go : (at n : ℕ) (f : List ℕ) (fs : List (List ℕ)) (fault : RowFault) (b : Bool) → is_utf8 f ≡ b → (text_fault at (n + 1) fs ≡ Some fault → (number : ℕ) × (fault ≡ Text at number) × BadFrom (n + 1) fs number)
    → cond b (text_fault at (n + 1) fs) (Some (Text at n)) ≡ Some fault → (number : ℕ) × (fault ≡ Text at number) × BadFrom n (f ∷ fs) number
text-some-go at n f fs fault true is more e = let later = more e in (later.0, later.1, bad-more n f fs later.0 (IsUtf8-from_is_utf8 f is) later.2)
text-some-go at n f fs fault false is more e =
    (n, sym (same_Some (Text at n) fault e), record { before = []; bad = f; after = fs; fields_are = refl; sound = All-nil IsUtf8; not_text = not_utf8 f is; is_number = omega arith })

utf8-false : (f : List ℕ) → ¬ (IsUtf8 f) → is_utf8 f ≡ false
utf8-false f other = go (is_utf8 f) refl where
  go : (b : Bool) → is_utf8 f ≡ b → is_utf8 f ≡ false
  go true is = absurd (other (IsUtf8-from_is_utf8 f is))
  go false is = is

text-some-to : (at n : ℕ) (fields : List (List ℕ)) (fault : RowFault) → text_fault at n fields ≡ Some fault → (number : ℕ) × (fault ≡ Text at number) × BadFrom n fields number
text-some-to at n [] fault e = absurd (none-some fault e)
text-some-to at n (f ∷ fs) fault e = text-some-go at n f fs fault (is_utf8 f) refl (text-some-to at (n + 1) fs fault) e

text-some-from : (at n : ℕ) (before : List (List ℕ)) (bad : List ℕ) (after : List (List ℕ)) → All IsUtf8 before → ¬ (IsUtf8 bad) → text_fault at n (before ++ bad ∷ after) ≡ Some (Text at (length before + n))
text-some-from at n [] bad after sound other = let first : 0 + n ≡ n = omega arith in rw (utf8-false bad other, first) refl
text-some-from at n (f ∷ fs) bad after sound other =
    let place : length fs + (n + 1) ≡ suc (length fs) + n = omega arith in
    rw (is_utf8-from_IsUtf8 f (All-head IsUtf8 f fs sound), text-some-from at (n + 1) fs bad after (All-tail IsUtf8 f fs sound) other, place) refl

-- the fault of a row
row-some-to : (width at : ℕ) (row : List (List ℕ)) (fault : RowFault) → row_fault width at row ≡ Some fault
    → ((fault ≡ Width at (length row)) × (length row ≢ width)) ⊎ ((length row ≡ width) × ((number : ℕ) × (fault ≡ Text at number) × BadFrom 1 row number))
row-some-to width at row fault e = go (eqb (length row) width) refl e where
  go : (b : Bool) → eqb (length row) width ≡ b → cond b (text_fault at 1 row) (Some (Width at (length row))) ≡ Some fault → ((fault ≡ Width at (length row)) × (length row ≢ width)) ⊎ ((length row ≡ width) × ((number : ℕ) × (fault ≡ Text at number) × BadFrom 1 row number))
  go true is f = inr (eqb-true (length row) width is, text-some-to at 1 row fault f)
  go false is f = inl (sym (same_Some (Width at (length row)) fault f), eqb-false (length row) width is)

-- the first row with a fault, where rows are numbered on from at
record FirstFrom (width at : ℕ) (rows : List (List (List ℕ))) (fault : RowFault) : Type 0 where
  before : List (List (List ℕ))
  row : List (List ℕ)
  after : List (List (List ℕ))
  rows_are : rows ≡ before ++ row ∷ after
  sound : All (IsRow width) before
  faulty : row_fault width (length before + at) row ≡ Some fault

first-more : (width at : ℕ) (row : List (List ℕ)) (rows : List (List (List ℕ))) (fault : RowFault) → IsRow width row → FirstFrom width (at + 1) rows fault → FirstFrom width at (row ∷ rows) fault
first-more width at row rows fault fine f =
    let place : suc (length f.before) + at ≡ length f.before + (at + 1) = omega arith in
    record {
      before = row ∷ f.before;
      row = f.row;
      after = f.after;
      rows_are = ap (λ (t : List (List (List ℕ))). row ∷ t) f.rows_are;
      sound = All-cons (IsRow width) row f.before fine f.sound;
      faulty = rw place f.faulty;
    }

first-here : (width at : ℕ) (row : List (List ℕ)) (rows : List (List (List ℕ))) (fault : RowFault) → row_fault width at row ≡ Some fault → FirstFrom width at (row ∷ rows) fault
first-here width at row rows fault e =
    let place : 0 + at ≡ at = omega arith in
    record { before = []; row = row; after = rows; rows_are = refl; sound = All-nil (IsRow width); faulty = rw place e }

rows-some-go : (width at : ℕ) (row : List (List ℕ)) (rows : List (List (List ℕ))) (fault : RowFault) (o : Option RowFault) → row_fault width at row ≡ o → (rows_fault width (at + 1) rows ≡ Some fault → FirstFrom width (at + 1) rows fault)
    → option_or o (rows_fault width (at + 1) rows) ≡ Some fault → FirstFrom width at (row ∷ rows) fault
rows-some-go width at row rows fault None is later e = first-more width at row rows fault (row-none-to width at row is) (later e)
rows-some-go width at row rows fault (Some x) is later e = first-here width at row rows fault (is ∙ e)

rows-some-to : (width at : ℕ) (rows : List (List (List ℕ))) (fault : RowFault) → rows_fault width at rows ≡ Some fault → FirstFrom width at rows fault
rows-some-to width at [] fault e = absurd (none-some fault e)
rows-some-to width at (row ∷ rows) fault e = rows-some-go width at row rows fault (row_fault width at row) refl (rows-some-to width (at + 1) rows fault) e

rows-some-from : (width at : ℕ) (before : List (List (List ℕ))) (row : List (List ℕ)) (after : List (List (List ℕ))) (fault : RowFault) → All (IsRow width) before → row_fault width (length before + at) row ≡ Some fault → rows_fault width at (before ++ row ∷ after) ≡ Some fault
rows-some-from width at before row after fault sound faulty = rw (rows_fault-append width at before (row ∷ after) (rows-none-from width at before sound), faulty) refl

-- a fault
comes-first : (names first : List (List ℕ)) (others : List (List (List ℕ))) (fault : RowFault) (f : FirstFrom (length names) 2 others fault) → first ≡ names → ComesFirst names (first ∷ others) (length f.before + 2) f.row
comes-first names first others fault f same = record { before = f.before; after = f.after; all_are = rw (same, f.rows_are) refl; sound = f.sound; number = refl }

bad-field : (row : List (List ℕ)) (number : ℕ) → BadFrom 1 row number → HasBadField row number
bad-field row number b = record { before = b.before; bad = b.bad; after = b.after; row_is = b.fields_are; sound = b.sound; not_text = b.not_text; number = b.is_number }

fault-of-row : (names first : List (List ℕ)) (others : List (List (List ℕ))) (fault : RowFault) → first ≡ names → FirstFrom (length names) 2 others fault → IsFault names (first ∷ others) fault
fault-of-row names first others fault same f = elim (row-some-to (length names) (length f.before + 2) f.row fault f.faulty) [
  | inl wide ↦ rw wide.0 (f.row, comes-first names first others fault f same, refl, wide.1)
  | inr text ↦ rw text.1.1 (f.row, comes-first names first others fault f same, text.0, bad-field f.row text.1.0 text.1.2)
]

fault-to : (names : List (List ℕ)) (all : List (List (List ℕ))) (fault : RowFault) → table_of names all ≡ Err fault → IsFault names all fault
fault-to names [] fault e = let is : fault ≡ Empty = cc e in rw is refl
fault-to names (first ∷ others) fault e = go (pointwise bytes_eq first names) refl e where
  go : (b : Bool) → pointwise bytes_eq first names ≡ b → cond b (unless (rows_fault (length names) 2 others) others) (Err Header) ≡ Err fault → IsFault names (first ∷ others) fault
  go true is f = fault-of-row names first others fault (same-names first names is) (rows-some-to (length names) 2 others fault (unless-err (rows_fault (length names) 2 others) others fault f))
  go false is f =
      let header : fault ≡ Header = cc f in
      let other : first ≢ names = λ same. false≢true (sym is ∙ (pointwise_decides bytes_decides first names).1 same) in
      rw header (first, others, refl, other)

row-fault-from : (names : List (List ℕ)) (all : List (List (List ℕ))) (at : ℕ) (row : List (List ℕ)) (fault : RowFault) → ComesFirst names all at row → row_fault (length names) at row ≡ Some fault → table_of names all ≡ Err fault
row-fault-from names all at row fault c faulty =
    let here : row_fault (length names) (length c.before + 2) row ≡ Some fault = rw (← c.number) faulty in
    rw (c.all_are, is-same names, rows-some-from (length names) 2 c.before row c.after fault c.sound here) refl

fault-from : (names : List (List ℕ)) (all : List (List (List ℕ))) (fault : RowFault) → IsFault names all fault → table_of names all ≡ Err fault
fault-from names all Empty h = rw h refl
fault-from names all Header h = other-first names h.0 all h.1 h.2 h.3
fault-from names all (Width at found) h =
    let wrong : length h.0 ≢ length names = λ e. h.3 (h.2 ∙ e) in
    let faulty : row_fault (length names) at h.0 ≡ Some (Width at (length h.0)) = rw (ne_eqb (length h.0) (length names) wrong) refl in
    rw h.2 (row-fault-from names all at h.0 (Width at (length h.0)) h.1 faulty)
fault-from names all (Text at field) h =
    let b = h.3 in
    let faulty : row_fault (length names) at h.0 ≡ Some (Text at field) =
    rw (eq-eqb (length h.0) (length names) h.2, b.row_is, b.number) (text-some-from at 1 b.before b.bad b.after b.sound b.not_text) in
    row-fault-from names all at h.0 (Text at field) h.1 faulty

pub faults_are_first : FaultsAreFirst
faults_are_first names all fault = (fault-to names all fault, fault-from names all fault)
