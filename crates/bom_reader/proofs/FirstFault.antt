-- The first fault of rows: where there is none, and where it stands.
use Rattle.std.proofs.Common.{◌≡◌, ℕ, zero, suc, ◌+◌, ◌<◌, Bool, true, false, List, [], ◌∷◌, ◌++◌, length, get_or, take, drop, Option, None, Some, Ok, Err, refl, sym, ap, ◌∙◌, ◌⊎◌, inl, inr, append_assoc, arith, drop-cons}
use Rattle.std.proofs.lemmas.List.{append-nil, take_more, take-append-drop}
use Rattle.std.proofs.lemmas.Option.{none-some, same_Some}
use Rattle.std.specs.Option.{option_or}
use Rattle.bom_reader.specs.Faults.{fault_if, first_fault, unless}

pub or-none : {F : Type 0} (a b : Option F) → option_or a b ≡ None → (a ≡ None) × (b ≡ None)
or-none None b e = (refl, e)
or-none (Some x) b e = absurd (none-some x (sym e))

pub fault_if-none : {F : Type 0} (test : Bool) (fault : F) (later : Option F) → fault_if test fault later ≡ None → (test ≡ false) × (later ≡ None)
fault_if-none false fault later e = (refl, e)
fault_if-none true fault later e = absurd (none-some fault (sym e))

-- rows after rows without a fault
pub first_fault-append : {R F : Type 0} (f : List R → R → Option F) (earlier front back : List R) → first_fault f earlier front ≡ None → first_fault f earlier (front ++ back) ≡ first_fault f (earlier ++ front) back
first_fault-append f earlier [] back none = rw append-nil refl
first_fault-append f earlier (row ∷ rows) back none =
    let parts = or-none (f earlier row) (first_fault f (earlier ++ row ∷ []) rows) none in
    rw (parts.0, first_fault-append f (earlier ++ row ∷ []) rows back parts.1, append_assoc) refl

pub first_fault-more : {R F : Type 0} (f : List R → R → Option F) (rows : List R) (i : ℕ) (d : R) → i < length rows → first_fault f [] (take i rows) ≡ None → f (take i rows) (get_or rows i d) ≡ None → first_fault f [] (take (i + 1) rows) ≡ None
first_fault-more f rows i d inside none fine = rw (take_more rows i d inside, first_fault-append f [] (take i rows) (get_or rows i d ∷ []) none, fine) refl

pub first_fault-at : {R F : Type 0} (f : List R → R → Option F) (rows : List R) (i : ℕ) (d : R) (fault : F) → i < length rows → first_fault f [] (take i rows) ≡ None → f (take i rows) (get_or rows i d) ≡ Some fault → first_fault f [] rows ≡ Some fault
first_fault-at f rows i d fault inside none faulty =
    let split : take i rows ++ (get_or rows i d ∷ drop (suc i) rows) ≡ rows = ap (λ back. take i rows ++ back) (sym (drop-cons rows i d inside)) ∙ take-append-drop i rows in
    let at : first_fault f [] (take i rows ++ (get_or rows i d ∷ drop (suc i) rows)) ≡ Some fault = rw (first_fault-append f [] (take i rows) (get_or rows i d ∷ drop (suc i) rows) none, faulty) refl in
    rw split at at

-- where there is none, no row has one
pub each-sound : {R F : Type 0} (f : List R → R → Option F) (earlier rows : List R) → first_fault f earlier rows ≡ None → (i : ℕ) (d : R) → i < length rows → f (earlier ++ take i rows) (get_or rows i d) ≡ None
each-sound f earlier [] none i d inside = absurd (omega arith)
each-sound f earlier (row ∷ rows) none zero d inside = rw append-nil (or-none (f earlier row) (first_fault f (earlier ++ row ∷ []) rows) none).0
each-sound f earlier (row ∷ rows) none (suc i) d inside =
    let later = (or-none (f earlier row) (first_fault f (earlier ++ row ∷ []) rows) none).1 in
    rw append_assoc at (each-sound f (earlier ++ row ∷ []) rows later i d (omega arith))

pub sound-each : {R F : Type 0} (f : List R → R → Option F) (earlier rows : List R) → ((i : ℕ) (d : R) → i < length rows → f (earlier ++ take i rows) (get_or rows i d) ≡ None) → first_fault f earlier rows ≡ None
sound-each f earlier [] each = refl
sound-each f earlier (row ∷ rows) each =
    let here : f earlier row ≡ None = rw append-nil at (each 0 row (omega arith)) in
    rw here (sound-each f (earlier ++ row ∷ []) rows (λ i d inside. rw append_assoc (each (suc i) d (omega arith))))

pub unless-ok : {F V : Type 0} (o : Option F) (v w : V) → unless o v ≡ Ok w → o ≡ None
unless-ok None v w e = refl
unless-ok (Some f) v w e = cc e

pub unless-value : {F V : Type 0} (o : Option F) (v w : V) → unless o v ≡ Ok w → v ≡ w
unless-value None v w e = cc e
unless-value (Some f) v w e = cc e

pub unless-err : {F V : Type 0} (o : Option F) (v : V) (f : F) → unless o v ≡ Err f → o ≡ Some f
unless-err None v f e = cc e
unless-err (Some g) v f e = cc e

-- where the first fault of rows stands
pub record FirstAt {R F : Type 0} (f : List R → R → Option F) (earlier rows : List R) (fault : F) : Type 0 where
  pub before : List R
  pub row : R
  pub after : List R
  pub rows_are : rows ≡ before ++ row ∷ after
  pub sound : first_fault f earlier before ≡ None
  pub faulty : f (earlier ++ before) row ≡ Some fault

first-go : {R F : Type 0} (f : List R → R → Option F) (earlier : List R) (row : R) (rows : List R) (fault : F) (o : Option F) → f earlier row ≡ o → (first_fault f (earlier ++ row ∷ []) rows ≡ Some fault → FirstAt f (earlier ++ row ∷ []) rows fault)
    → option_or o (first_fault f (earlier ++ row ∷ []) rows) ≡ Some fault → FirstAt f earlier (row ∷ rows) fault
first-go f earlier row rows fault (Some found) is later e = record { before = []; row = row; after = rows; rows_are = refl; sound = refl; faulty = rw append-nil (is ∙ e) }
first-go f earlier row rows fault None is later e =
    let at = later e in
    record {
      before = row ∷ at.before;
      row = at.row;
      after = at.after;
      rows_are = ap (λ others. row ∷ others) at.rows_are;
      sound = rw is at.sound;
      faulty = rw append_assoc at at.faulty;
    }

pub first-to : {R F : Type 0} (f : List R → R → Option F) (earlier rows : List R) (fault : F) → first_fault f earlier rows ≡ Some fault → FirstAt f earlier rows fault
first-to f earlier [] fault e = absurd (none-some fault e)
first-to f earlier (row ∷ rows) fault e = first-go f earlier row rows fault (f earlier row) refl (first-to f (earlier ++ row ∷ []) rows fault) e

pub first-from : {R F : Type 0} (f : List R → R → Option F) (rows before : List R) (row : R) (after : List R) (fault : F) → rows ≡ before ++ row ∷ after → first_fault f [] before ≡ None → f before row ≡ Some fault → first_fault f [] rows ≡ Some fault
first-from f rows before row after fault rows_are sound faulty = rw (rows_are, first_fault-append f [] before (row ∷ after) sound, faulty) refl

-- a fault of two tests, one after the other
pub fault_if-some : {F : Type 0} (test : Bool) (fault found : F) (later : Option F) → fault_if test fault later ≡ Some found → ((test ≡ true) × (found ≡ fault)) ⊎ ((test ≡ false) × (later ≡ Some found))
fault_if-some true fault found later e = inl (refl, sym (same_Some fault found e))
fault_if-some false fault found later e = inr (refl, e)
