-- Words that are of a form: their numbers are in their ranges, and they are a command.
use Rattle.std.proofs.Common.{ℕ, ◌≡◌, ◌≤◌, Bool, true, false, List, [], ◌∷◌, Option, None, Some, length, arith, refl, ap, cond}
use Rattle.std.specs.Prelude.{map, ◌++◌, if◌then◌else◌, ◌&&◌, nat_le, is_some, unwrap_or, option_and_then}
use Rattle.std.specs.List.{find}
use Rattle.std.specs.Option.{option_map}
use Rattle.std.proofs.lemmas.Bool.{eqb-true, false≢true, le-leb, leb-true}
use Rattle.money.specs.Number.{numeral_of, within}
use Rattle.tqd_base.specs.World.{Name, Bytes}
use Rattle.command_words.specs.declared.word.TheConstants.{SEED_MAX}
use Rattle.command_words.specs.declared.form.Field.{Field}
use Rattle.command_words.specs.declared.form.Field.TheVariants.{Number}
use Rattle.command_words.specs.declared.form.Behind.{Behind}
use Rattle.command_words.specs.declared.form.Behind.TheVariants.{Nothing}
use Rattle.command_words.specs.declared.form.Verb.{Verb}
use Rattle.command_words.specs.Text.{same}
use Rattle.command_words.specs.Forms.{Form, is_behind, number_of, stand_for, stands_for}

-- both parts of a test that passes
pub both : (a b : Bool) → (a && b) ≡ true → (a ≡ true) × (b ≡ true)
both true b e = (refl, e)
both false b e = absurd (false≢true e)

-- the word of a field, and the words behind it
pub stands_first : (behind : Behind) (field : Field) (fields : List Field) (word : Name) (words : List Name)
    → stand_for behind (field ∷ fields) (word ∷ words) ≡ true → stands_for field word ≡ true
unfolding stand_for
stands_first behind field fields word words e = (both (stands_for field word) (stand_for behind fields words) e).0

pub stand_behind : (behind : Behind) (field : Field) (fields : List Field) (word : Name) (words : List Name)
    → stand_for behind (field ∷ fields) (word ∷ words) ≡ true → stand_for behind fields words ≡ true
unfolding stand_for
stand_behind behind field fields word words e = (both (stands_for field word) (stand_for behind fields words) e).1

pub stand_at_end : (behind : Behind) (words : List Name) → stand_for behind [] words ≡ true → is_behind behind words ≡ true
unfolding stand_for
stand_at_end behind words e = e

stand_nowhere : (behind : Behind) (field : Field) (fields : List Field) → stand_for behind (field ∷ fields) [] ≡ true → ⊥
unfolding stand_for
stand_nowhere behind field fields e = false≢true e

-- there are as many words as fields, and without an option no more
pub enough : (behind : Behind) (fields : List Field) (words : List Name) → stand_for behind fields words ≡ true → length fields ≤ length words
enough behind [] words e = omega arith
enough behind (field ∷ fields) [] e = absurd (stand_nowhere behind field fields e)
enough behind (field ∷ fields) (word ∷ words) e =
    let rest = enough behind fields words (stand_behind behind field fields word words e) in omega (arith, rest)

no_more : (words : List Name) → is_behind Nothing words ≡ true → length words ≡ 0
unfolding is_behind
no_more words e = eqb-true (length words) 0 e

pub as_many : (fields : List Field) (words : List Name) → stand_for Nothing fields words ≡ true → length words ≡ length fields
as_many [] words e = no_more words (stand_at_end Nothing words e)
as_many (field ∷ fields) [] e = absurd (stand_nowhere Nothing field fields e)
as_many (field ∷ fields) (word ∷ words) e =
    let rest = as_many fields words (stand_behind Nothing field fields word words e) in omega (arith, rest)

-- a number within bounds
pub record IsBetween (least greatest n : ℕ) : Type 0 where
  pub above : least ≤ n
  pub below : n ≤ greatest

if_is_some : (b : Bool) (n : ℕ) → is_some (if b then Some n else None) ≡ true → b ≡ true
if_is_some true n e = refl
if_is_some false n e = e

if_value : (b : Bool) (n : ℕ) → b ≡ true → unwrap_or (if b then Some n else None) 0 ≡ n
if_value true n e = refl
if_value false n e = absurd (false≢true e)

value_between : (o : Option ℕ) (least greatest : ℕ) → greatest ≤ SEED_MAX → is_some (option_and_then (within least greatest) o) ≡ true
    → IsBetween least greatest (unwrap_or (option_and_then (within 0 SEED_MAX) o) 0)
value_between None least greatest few e = absurd (false≢true e)
value_between (Some n) least greatest few e =
    let tests = both (nat_le least n) (nat_le n greatest) (if_is_some (nat_le least n && nat_le n greatest) n e) in
    let above = leb-true least n tests.0 in
    let below = leb-true n greatest tests.1 in
    let wide : (nat_le 0 n && nat_le n SEED_MAX) ≡ true = rw (le-leb 0 n (omega arith), le-leb n SEED_MAX (omega (arith, below, few))) refl in
    let same = if_value (nat_le 0 n && nat_le n SEED_MAX) n wide in
    record { above = omega (arith, above, same); below = omega (arith, below, same) }

pub number_between : (least greatest : ℕ) (word : Name) → greatest ≤ SEED_MAX → stands_for (Number least greatest) word ≡ true → IsBetween least greatest (number_of word)
unfolding stands_for number_of
number_between least greatest word few e = value_between (numeral_of 18 word) least greatest few e

-- what is found in rows is found in the forms that they are
first_row : {R : Type 0} (form : R → Form) (verb : R → Verb) → ((r : R) → verb r ≡ (form r).verb) → (p : Form → Bool) (row : R) (rows : List R) (b : Bool)
    → option_map verb (find (λ r. p (form r)) rows) ≡ option_map (λ (f : Form). f.verb) (find p (map form rows))
    → option_map verb (cond b (Some row) (find (λ r. p (form r)) rows)) ≡ option_map (λ (f : Form). f.verb) (cond b (Some (form row)) (find p (map form rows)))
first_row form verb same p row rows true others = ap (λ (v : Verb). Some v) (same row)
first_row form verb same p row rows false others = others

pub verb_by_rows : {R : Type 0} (form : R → Form) (verb : R → Verb) → ((r : R) → verb r ≡ (form r).verb) → (p : Form → Bool) (rows : List R)
    → option_map verb (find (λ r. p (form r)) rows) ≡ option_map (λ (f : Form). f.verb) (find p (map form rows))
verb_by_rows form verb same p [] = refl
verb_by_rows form verb same p (row ∷ rows) = first_row form verb same p row rows (p (form row)) (verb_by_rows form verb same p rows)

-- two texts, one added behind the other
pub joined : (empty first all one others : Bytes) → empty ≡ [] → first ≡ empty ++ one → all ≡ first ++ others → all ≡ one ++ others
joined empty first all one others none begun ended = rw (ended, begun, none) refl
