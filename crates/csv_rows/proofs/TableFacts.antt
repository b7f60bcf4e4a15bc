-- The first fault of rows.
use Rattle.std.proofs.Common.{◌≡◌, ℕ, zero, suc, ◌+◌, ◌*◌, ◌/◌, ◌<◌, Bool, true, false, cond, eqb, List, [], ◌∷◌, ◌++◌, length, Bor, get_or, take, Option, Some, None, Result, Ok, Err, refl, append_assoc, ap, sym, ◌∙◌, arith}
use Rattle.std.proofs.lemmas.Bool.{eq-eqb, eqb-true}
use Rattle.std.proofs.lemmas.List.{length-append}
use Rattle.std.proofs.lemmas.List.Elements.{All-nil, All-cons}
use Rattle.std.specs.Prelude.{All, IfOk, IsUtf8}
use Rattle.std.proofs.lemmas.Option.{none-some}
use Rattle.std.proofs.lemmas.Str.{IsUtf8-from_is_utf8, is_utf8-from_IsUtf8}
use Rattle.std.specs.Option.{option_or}
use Rattle.std.specs.Cmp.Lexicographic.{pointwise, pointwise_decides, bytes_decides}
use Rattle.std.specs.Str.{bytes_eq, is_utf8}
use Rattle.csv.specs.Records.{AllText}
use Rattle.csv.specs.declared.reader.Reader.{Reader}
use Rattle.csv.specs.Reading.{default_config, records}
use Rattle.tqd_base.specs.declared.memory.Stop.{Stop}
use Rattle.tqd_base.specs.declared.memory.Stop.TheVariants.{Refused, Memory}
use Rattle.csv_rows.specs.Reading.{HasRead, ReadsOn}
use Rattle.csv_rows.proofs.ReaderFacts.{reads-front}
use Rattle.csv_rows.specs.Rows.{Answers, AnswersBy, table_of, unless, row_fault, rows_fault, rows_of, text_fault}
use Rattle.csv_rows.proofs.RowsOf.{rows-more}
use Rattle.std.proofs.Math.Nat.{suc-mul, zero-mul, mul-div_cancel}
use Rattle.csv_rows.specs.declared.fault.RowFault.{RowFault}
use Rattle.csv_rows.specs.declared.fault.RowFault.TheVariants.{Empty, Header, Width, Text}

-- fields of text have no fault
pub text_fault-text : (at n : ℕ) (fields : List (List ℕ)) → AllText fields → text_fault at n fields ≡ None
unfolding AllText
text_fault-text at n [] all = refl
text_fault-text at n (f ∷ fs) all = rw (is_utf8-from_IsUtf8 f all.0) (text_fault-text at (n + 1) fs all.1)

-- the first field that is none, after fields of text
pub text_fault-first : (at n i : ℕ) (fields : List (List ℕ)) → i < length fields → AllText (take i fields) → is_utf8 (get_or fields i []) ≡ false → text_fault at n fields ≡ Some (Text at (i + n))
unfolding AllText
text_fault-first at n i [] inside all other = absurd (omega arith)
text_fault-first at n zero (f ∷ fs) inside all other = let same : 0 + n ≡ n = omega arith in rw (other, same) refl
text_fault-first at n (suc i) (f ∷ fs) inside all other =
    let place : i + (n + 1) ≡ suc i + n = omega arith in
    rw (is_utf8-from_IsUtf8 f all.0, text_fault-first at (n + 1) i fs (omega arith) all.1 other, place) refl

-- bytes that are no text
not-text : (bytes : List ℕ) → (IsUtf8 bytes → ⊥) → is_utf8 bytes ≡ false
not-text bytes other = go (is_utf8 bytes) refl where
  go : (b : Bool) → is_utf8 bytes ≡ b → is_utf8 bytes ≡ false
  go true is = absurd (other (IsUtf8-from_is_utf8 bytes is))
  go false is = is

pub row_fault-none : (width at : ℕ) (fields : List (List ℕ)) → length fields ≡ width → AllText fields → row_fault width at fields ≡ None
row_fault-none width at fields wide all = rw (eq-eqb (length fields) width wide) (text_fault-text at 1 fields all)

-- a row of the right width whose field i is the first that is no text
pub row_fault-first : (width at i : ℕ) (fields : List (List ℕ)) → length fields ≡ width → i < length fields → AllText (take i fields) → (IsUtf8 (get_or fields i []) → ⊥) → row_fault width at fields ≡ Some (Text at (i + 1))
row_fault-first width at i fields wide inside all other = rw (eq-eqb (length fields) width wide) (text_fault-first at 1 i fields inside all (not-text (get_or fields i []) other))

row-wide : (width at : ℕ) (fields : List (List ℕ)) (b : Bool) → eqb (length fields) width ≡ b → row_fault width at fields ≡ None → length fields ≡ width
row-wide width at fields true is none = eqb-true (length fields) width is
row-wide width at fields false is none = absurd (none-some (Width at (length fields)) (sym none ∙ rw is refl))

pub or-none : (a b : Option RowFault) → option_or a b ≡ None → (a ≡ None) × (b ≡ None)
or-none None b e = (refl, e)
or-none (Some x) b e = absurd (none-some x (sym e))

-- rows after rows with no fault
pub rows_fault-append : (width at : ℕ) (front back : List (List (List ℕ))) → rows_fault width at front ≡ None → rows_fault width at (front ++ back) ≡ rows_fault width (length front + at) back
rows_fault-append width at [] back none = let same : 0 + at ≡ at = omega arith in rw same refl
rows_fault-append width at (row ∷ rows) back none =
    let parts = or-none (row_fault width at row) (rows_fault width (at + 1) rows) none in
    let place : length rows + (at + 1) ≡ suc (length rows) + at = omega arith in
    rw (parts.0, rows_fault-append width (at + 1) rows back parts.1, place) refl

-- the rows that were read so far: from a reader that had read the header alone, with no fault
pub record HasRows (width at : ℕ) (old now : Reader (Bor (List ℕ))) (rows : List (List (List ℕ))) : Type 0 where
  pub reads : (text : List ℕ) (first : List (List ℕ)) → HasRead text (first ∷ []) old → HasRead text (first ∷ rows) now
  pub sound : rows_fault width 2 rows ≡ None
  pub count : at ≡ length rows + 2

-- what one read does, whatever was read before
abbrev pub Next : Reader (Bor (List ℕ)) → Reader (Bor (List ℕ)) → List (List ℕ) → Bool → Type 0
Next old new fields found = (text : List ℕ) (past : List (List (List ℕ))) → HasRead text past old → ReadsOn text past found fields new

-- what the rows of a text under its first record are answered with
abbrev pub Outcome : {V : Type 0} → (V → List (List (List ℕ))) → ℕ → Reader (Bor (List ℕ)) → Result V (Stop RowFault) → Type 0
Outcome view width old result = (text : List ℕ) (first : List (List ℕ)) → HasRead text (first ∷ []) old
    → (others : List (List (List ℕ))) × (records default_config text ≡ first ∷ others) × AnswersBy view result (unless (rows_fault width 2 others) others)

pub unless-ok : {V : Type 0} (o : Option RowFault) (v w : V) → unless o v ≡ Ok w → o ≡ None
unless-ok None v w e = refl
unless-ok (Some f) v w e = cc e

pub unless-value : {V : Type 0} (o : Option RowFault) (v w : V) → unless o v ≡ Ok w → v ≡ w
unless-value None v w e = cc e
unless-value (Some f) v w e = cc e

pub unless-err : {V : Type 0} (o : Option RowFault) (v : V) (f : RowFault) → unless o v ≡ Err f → o ≡ Some f
unless-err None v f e = cc e
unless-err (Some g) v f e = cc e

pub start : (width : ℕ) (reader : Reader (Bor (List ℕ))) → HasRows width 2 reader reader []
start width reader = record { reads = λ text first h. h; sound = refl; count = refl }

-- memory was wanting
pub wants : {V : Type 0} (view : V → List (List (List ℕ))) (width at : ℕ) (old now : Reader (Bor (List ℕ))) (rows : List (List (List ℕ))) → HasRows width at old now rows → Outcome view width old (Err Memory)
wants view width at old now rows h text first r =
    let front = reads-front text (first ∷ rows) now (h.reads text first r) in
    (rows ++ front.0, front.1, tt)

-- there is no further record
pub ends : (width at : ℕ) (old now new : Reader (Bor (List ℕ))) (rows : List (List (List ℕ))) (fields : List (List ℕ)) → HasRows width at old now rows → Next now new fields false → Outcome (λ value. value) width old (Ok rows)
ends width at old now new rows fields h next text first r = (rows, next text (first ∷ rows) (h.reads text first r), rw h.sound refl)

-- there is one with no fault
pub more : (width at : ℕ) (old now new : Reader (Bor (List ℕ))) (rows all : List (List (List ℕ))) (fields texts : List (List ℕ)) → HasRows width at old now rows → Next now new fields true
    → unless (row_fault width at fields) fields ≡ Ok texts → all ≡ rows ++ texts ∷ [] → HasRows width (at + 1) old new all
more width at old now new rows all fields texts h next row longer =
    let fine = unless-ok (row_fault width at fields) fields texts row in
    let place : length rows + 2 ≡ at = sym h.count in
    let whole : all ≡ rows ++ fields ∷ [] = longer ∙ ap (λ (t : List (List ℕ)). rows ++ t ∷ []) (sym (unless-value (row_fault width at fields) fields texts row)) in
    record {
      reads = λ text first r. rw whole (next text (first ∷ rows) (h.reads text first r));
      sound = rw (whole, rows_fault-append width 2 rows (fields ∷ []) h.sound, place, fine) refl;
      count = rw (whole, length-append rows (fields ∷ [])) (omega (arith, h.count));
    }

-- the same, where the rows stand one after the other as one list of fields
pub record HasFields (width at : ℕ) (old now : Reader (Bor (List ℕ))) (fields : List (List ℕ)) : Type 0 where
  pub count : ℕ
  pub number : at ≡ count + 2
  pub whole : length fields ≡ count * width
  pub rows : HasRows width at old now (rows_of width count fields)

pub no-fields : (width : ℕ) (reader : Reader (Bor (List ℕ))) → HasFields width 2 reader reader []
no-fields width reader = record { count = 0; number = refl; whole = sym (zero-mul width); rows = start width reader }

pub fields-end : (width at : ℕ) (old now new : Reader (Bor (List ℕ))) (all fields : List (List ℕ)) (table : List (List (List ℕ))) → 0 < width → HasFields width at old now all → Next now new fields false
    → table ≡ rows_of width (length all / width) all → Outcome (λ value. value) width old (Ok table)
fields-end width at old now new all fields table some h next is =
    let count : length all / width ≡ h.count = ap (λ (n : ℕ). n / width) h.whole ∙ mul-div_cancel h.count some in
    rw (is, count) (ends width at old now new (rows_of width h.count all) fields h.rows next)

pub fields-more : (width at : ℕ) (old now new : Reader (Bor (List ℕ))) (before after fields : List (List ℕ)) → HasFields width at old now before → Next now new fields true
    → unless (row_fault width at fields) (before ++ fields) ≡ Ok after → HasFields width (at + 1) old new after
fields-more width at old now new before after fields h next row =
    let fine = unless-ok (row_fault width at fields) (before ++ fields) after row in
    let all : after ≡ before ++ fields = sym (unless-value (row_fault width at fields) (before ++ fields) after row) in
    let wide = row-wide width at fields (eqb (length fields) width) refl fine in
    record {
      count = suc h.count;
      number = omega (arith, h.number);
      whole = rw (all, length-append before fields, h.whole, wide) (sym (suc-mul h.count width));
      rows = more width at old now new (rows_of width h.count before) (rows_of width (suc h.count) after) fields fields h.rows next (rw fine refl) (rw all (rows-more width h.count before fields h.whole wide));
    }

-- there is one that is refused, or memory was wanting
pub row_stops : {X V W : Type 0} (seen : X → W) (view : V → List (List (List ℕ))) (width at : ℕ) (old now new : Reader (Bor (List ℕ))) (rows : List (List (List ℕ))) (fields : List (List ℕ)) (w : W) (stop : Stop RowFault) → HasRows width at old now rows → Next now new fields true
    → AnswersBy seen (Err stop) (unless (row_fault width at fields) w) → Outcome view width old (Err stop)
row_stops seen view width at old now new rows fields w Memory h next answer = wants view width at old now rows h
row_stops seen view width at old now new rows fields w (Refused fault) h next answer = λ text first r.
    let front = reads-front text (first ∷ (rows ++ fields ∷ [])) new (next text (first ∷ rows) (h.reads text first r)) in
    let faulty = unless-err (row_fault width at fields) w fault answer in
    let place : length rows + 2 ≡ at = sym h.count in
    let regrouped : (rows ++ fields ∷ []) ++ front.0 ≡ rows ++ fields ∷ front.0 = append_assoc rows (fields ∷ []) front.0 in
    (rows ++ fields ∷ front.0, front.1 ∙ ap (λ (t : List (List (List ℕ))). first ∷ t) regrouped, rw (rows_fault-append width 2 rows (fields ∷ front.0) h.sound, place, faulty) refl)

-- what the first record decides
pub not-same : (first names : List (List ℕ)) → (first ≡ names → ⊥) → pointwise bytes_eq first names ≡ false
not-same first names other = go (pointwise bytes_eq first names) refl where
  go : (b : Bool) → pointwise bytes_eq first names ≡ b → pointwise bytes_eq first names ≡ false
  go true is = absurd (other ((pointwise_decides bytes_decides first names).0 is))
  go false is = is

pub none-first : (names : List (List ℕ)) (all : List (List (List ℕ))) → all ≡ [] → table_of names all ≡ Err Empty
none-first names all e = rw e refl

pub other-first : (names first : List (List ℕ)) (all others : List (List (List ℕ))) → all ≡ first ∷ others → (first ≡ names → ⊥) → table_of names all ≡ Err Header
other-first names first all others e other = rw (e, not-same first names other) refl

pub answers-same : (names first : List (List ℕ)) (width : ℕ) (all others : List (List (List ℕ))) (result : Result (List (List (List ℕ))) (Stop RowFault)) → all ≡ first ∷ others → first ≡ names → width ≡ length first
    → Answers result (unless (rows_fault width 2 others) others) → Answers result (table_of names all)
answers-same names first width all others result e same wide answer =
    let long : length names ≡ width = ap length (sym same) ∙ sym wide in
    rw (e, (pointwise_decides bytes_decides first names).1 same, long) answer

-- a table's rows are as wide as its header
rows-wide : (width at : ℕ) (rows : List (List (List ℕ))) → rows_fault width at rows ≡ None → All (λ row. length row ≡ width) rows
rows-wide width at [] none = All-nil (λ row. length row ≡ width)
rows-wide width at (row ∷ rows) none =
    let parts = or-none (row_fault width at row) (rows_fault width (at + 1) rows) none in
    All-cons (λ r. length r ≡ width) row rows (row-wide width at row (eqb (length row) width) refl parts.0) (rows-wide width (at + 1) rows parts.1)

table-wide : (names : List (List ℕ)) (all table : List (List (List ℕ))) → table_of names all ≡ Ok table → All (λ row. length row ≡ length names) table
table-wide names [] table e = cc e
table-wide names (first ∷ others) table e = go (pointwise bytes_eq first names) e where
  go : (b : Bool) → cond b (unless (rows_fault (length names) 2 others) others) (Err Header) ≡ Ok table → All (λ row. length row ≡ length names) table
  go true f = rw (← unless-value (rows_fault (length names) 2 others) others table f) (rows-wide (length names) 2 others (unless-ok (rows_fault (length names) 2 others) others table f))
  go false f = cc f

pub answers-wide : (names : List (List ℕ)) (all : List (List (List ℕ))) (result : Result (List (List (List ℕ))) (Stop RowFault)) → Answers result (table_of names all) → IfOk result (λ table. All (λ row. length row ≡ length names) table)
answers-wide names all (Ok table) e = table-wide names all table e
answers-wide names all (Err stop) e = tt
