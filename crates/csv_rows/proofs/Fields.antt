-- The fields of a record.
use Rattle.std.proofs.Common.{◌≡◌, ℕ, zero, suc, ◌<◌, Bool, true, false, List, [], ◌∷◌, length, Bor, get_or, map, Some, None, Result, Ok, Err, refl, ap, sym, ◌∙◌, arith}
use Rattle.std.proofs.lemmas.List.{get_or-map, length-map}
use Rattle.std.proofs.lemmas.Str.{IsUtf8-from_is_utf8, is_utf8-from_IsUtf8}
use Rattle.std.specs.Prelude.{IsUtf8, MatchResult}
use Rattle.std.specs.Result.{is_ok}
use Rattle.std.specs.Str.{is_utf8}
use Rattle.csv.specs.Records.{Row, field_at, fields_of}

-- what a test of UTF-8 answers
pub utf8_test : {T E : Type 0} (r : Result T E) (bytes : List ℕ) (P : T → Type 0) (Q : E → Type 0) → MatchResult r (λ s. P s × IsUtf8 bytes) (λ e. (IsUtf8 bytes → ⊥) × Q e) → is_ok r ≡ is_utf8 bytes
utf8_test (Ok s) bytes P Q h = sym (is_utf8-from_IsUtf8 bytes h.1)
utf8_test (Err e) bytes P Q h = go (is_utf8 bytes) refl where
  go : (b : Bool) → is_utf8 bytes ≡ b → false ≡ is_utf8 bytes
  go true is = absurd (h.0 (IsUtf8-from_is_utf8 bytes is))
  go false is = sym is

-- a field that is there
pub field_at-some : (fields : List (List ℕ)) (i : ℕ) → i < length fields → field_at fields i ≡ Some (get_or fields i [])
unfolding field_at
field_at-some [] i inside = absurd (omega arith)
field_at-some (f ∷ fs) zero inside = refl
field_at-some (f ∷ fs) (suc i) inside = field_at-some fs i (omega arith)

pub field_there : (fields : List (List ℕ)) (i : ℕ) → i < length fields → field_at fields i ≡ None → ⊥
field_there fields i inside none = cc (field_at-some fields i inside)

pub field_value : (fields : List (List ℕ)) (i : ℕ) (x : List ℕ) → i < length fields → field_at fields i ≡ Some x → x ≡ get_or fields i []
field_value fields i x inside is = cc (field_at-some fields i inside)

-- a row of a table
pub table_row : (rows : List Row) (table : List (List (List ℕ))) (i : ℕ) (row : Row) → map fields_of rows ≡ table → i < length table → row ≡ get_or rows i row → get_or table i [] ≡ fields_of row
table_row rows table i row view inside is =
    let within : i < length rows = omega (arith, ap length view, length-map rows fields_of) in
    sym (ap (λ (t : List (List (List ℕ))). get_or t i []) view) ∙ (get_or-map fields_of rows i row [] within ∙ ap fields_of (sym is))

-- a name of a list, and the field that is compared with it
abbrev pub texts : List (Bor (List ℕ)) → List (List ℕ)
texts names = map (λ (name : Bor (List ℕ)). name.now) names

pub names_at : (names : List (Bor (List ℕ))) (i : ℕ) → i < length names → get_or (texts names) i [] ≡ (get_or names i (record { ref_ptr = (0, 0); now = [] })).now
names_at names i inside = get_or-map (λ (n : Bor (List ℕ)). n.now) names i (record { ref_ptr = (0, 0); now = [] }) [] inside
