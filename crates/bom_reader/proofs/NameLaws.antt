-- What names are, in the words of the format, and in which order they are numbered.
use Rattle.std.proofs.Common.{◌≡◌, ◌≢◌, ℕ, ◌≤◌, Bool, true, false, not, ◌&&◌, ◌||◌, eqb, leb, List, [], ◌∷◌, ◌++◌, length, get_or, append_assoc, Contains, refl, sym, ap, ◌∙◌}
use Rattle.std.proofs.lemmas.Bool.{and_from, and_parts, eqb-false, false≢true, le-leb, leb-true, ne_eqb, not-true, not_from_false}
use Rattle.std.proofs.lemmas.List.{append-nil}
use Rattle.std.proofs.lemmas.List.Elements.{All-weaker}
use Rattle.std.proofs.lemmas.List.Folds.{list_any-append, list_any_at}
use Rattle.std.proofs.lemmas.List.Quantifiers.{all_pairs_push}
use Rattle.std.proofs.lemmas.List.Sums.{AllPass-from_list_all, fold-append, list_all-from_AllPass, passes_at_first}
use Rattle.std.specs.Cmp.Lexicographic.{bytes_decides}
use Rattle.std.specs.List.{AllPairs, list_all, position_or_len}
use Rattle.std.specs.Str.{bytes_eq}
use Rattle.tqd_base.specs.declared.limits.TheConstants.{NAME_MAX}
use Rattle.bom_reader.specs.Laws.{IsName, NamesAreByFirstAppearance, NamesArePlain}
use Rattle.bom_reader.specs.Names.{has_name, is_name, is_name_byte, with_name, with_names}
use Rattle.bom_reader.proofs.NameFacts.{is_same, with_name-other}
use Rattle.bom_reader.proofs.Places.{place_inside}

-- a name
byte-to : (byte : ℕ) → is_name_byte byte ≡ true → (32 ≤ byte) × (byte ≢ 127)
byte-to byte e = let p = and_parts (leb 32 byte) (not (eqb byte 127)) e in (leb-true 32 byte p.0, eqb-false byte 127 (not-true (eqb byte 127) p.1))

byte-from : (byte : ℕ) → (32 ≤ byte) × (byte ≢ 127) → is_name_byte byte ≡ true
byte-from byte h = and_from (leb 32 byte) (not (eqb byte 127)) (le-leb 32 byte h.0) (not_from_false (eqb byte 127) (ne_eqb byte 127 h.1))

pub name-to : (text : List ℕ) → is_name text ≡ true → IsName text
name-to text e =
    let p = and_parts (leb 1 (length text) && leb (length text) NAME_MAX) (list_all is_name_byte text) e in
    let q = and_parts (leb 1 (length text)) (leb (length text) NAME_MAX) p.0 in
    record {
      some = leb-true 1 (length text) q.0;
      short = leb-true (length text) NAME_MAX q.1;
      bytes = All-weaker (λ byte. is_name_byte byte ≡ true) (λ byte. (32 ≤ byte) × (byte ≢ 127)) byte-to text (AllPass-from_list_all is_name_byte text p.1);
    }

pub name-from : (text : List ℕ) → IsName text → is_name text ≡ true
name-from text n =
    let ends = and_from (leb 1 (length text)) (leb (length text) NAME_MAX) (le-leb 1 (length text) n.some) (le-leb (length text) NAME_MAX n.short) in
    let bytes = list_all-from_AllPass is_name_byte text (All-weaker (λ byte. (32 ≤ byte) × (byte ≢ 127)) (λ byte. is_name_byte byte ≡ true) byte-from text n.bytes) in
    and_from (leb 1 (length text) && leb (length text) NAME_MAX) (list_all is_name_byte text) ends bytes

pub names_are_plain : NamesArePlain
names_are_plain text = (name-to text, name-from text)

pub no-name-to : (text : List ℕ) → is_name text ≡ false → ¬ (IsName text)
no-name-to text e n = false≢true (sym e ∙ name-from text n)

pub no-name-from : (text : List ℕ) → ¬ (IsName text) → is_name text ≡ false
no-name-from text other = go (is_name text) refl where
  go : (b : Bool) → is_name text ≡ b → is_name text ≡ false
  go true is = absurd (other (name-to text is))
  go false is = is

-- a name among others
pub has-to : (names : List (List ℕ)) (name : List ℕ) → has_name names name ≡ true → Contains names name
has-to names name there =
    let at = position_or_len (bytes_eq name) names in
    let inside = place_inside (bytes_eq name) names there in
    (at, inside, sym ((bytes_decides name (get_or names at name)).0 (passes_at_first (bytes_eq name) names name inside)))

pub has-from : (names : List (List ℕ)) (name : List ℕ) → Contains names name → has_name names name ≡ true
has-from names name c = list_any_at (bytes_eq name) names c.0 name c.1 (rw c.2 (is_same name))

pub has-not-to : (names : List (List ℕ)) (name : List ℕ) → has_name names name ≡ false → ¬ (Contains names name)
has-not-to names name e c = false≢true (sym e ∙ has-from names name c)

pub has-not-from : (names : List (List ℕ)) (name : List ℕ) → ¬ (Contains names name) → has_name names name ≡ false
has-not-from names name other = go (has_name names name) refl where
  go : (b : Bool) → has_name names name ≡ b → has_name names name ≡ false
  go true is = absurd (other (has-to names name is))
  go false is = is

-- names that are added
pub with_name-same : (names : List (List ℕ)) (name : List ℕ) → has_name names name ≡ true → with_name names name ≡ names
with_name-same names name e = rw e refl

distinct-more : (names : List (List ℕ)) (name : List ℕ) → AllPairs (λ a b. a ≢ b) names → AllPairs (λ a b. a ≢ b) (with_name names name)
distinct-more names name distinct = go (has_name names name) refl where
  go : (b : Bool) → has_name names name ≡ b → AllPairs (λ a b. a ≢ b) (with_name names name)
  go true is = rw (with_name-same names name is) distinct
  go false is = rw (with_name-other names name is) (all_pairs_push (λ a b. a ≢ b) names name distinct (λ k d inside same. false≢true (sym is ∙ list_any_at (bytes_eq name) names k d inside (rw same (is_same name)))))

pub distinct-all : (names more : List (List ℕ)) → AllPairs (λ a b. a ≢ b) names → AllPairs (λ a b. a ≢ b) (with_names names more)
distinct-all names [] distinct = distinct
distinct-all names (name ∷ more) distinct = distinct-all (with_name names name) more (distinct-more names name distinct)

one-member : (names : List (List ℕ)) (added name : List ℕ) → has_name (with_name names added) name ≡ (has_name names name || bytes_eq name added)
one-member names added name = go (has_name names added) refl where
  same : (b : Bool) → has_name names added ≡ true → bytes_eq name added ≡ b → has_name names name ≡ (has_name names name || b)
  same true there is = let equal = (bytes_decides name added).0 is in rw (equal, there) refl
  same false there is = or-false (has_name names name) where
    or-false : (b : Bool) → b ≡ (b || false)
    or-false true = refl
    or-false false = refl

  go : (b : Bool) → has_name names added ≡ b → has_name (with_name names added) name ≡ (has_name names name || bytes_eq name added)
  go true is = rw (with_name-same names added is) (same (bytes_eq name added) is refl)
  go false is = rw (with_name-other names added is) (list_any-append (bytes_eq name) names (added ∷ []) ∙ ap (λ b. has_name names name || b) (or-nothing (bytes_eq name added))) where
    or-nothing : (b : Bool) → (b || false) ≡ b
    or-nothing true = refl
    or-nothing false = refl

or-assoc : (a b c : Bool) → ((a || b) || c) ≡ (a || (b || c))
or-assoc true b c = refl
or-assoc false b c = refl

all-members : (names more : List (List ℕ)) (name : List ℕ) → has_name (with_names names more) name ≡ (has_name names name || has_name more name)
all-members names [] name = or-false (has_name names name) where
  or-false : (b : Bool) → b ≡ (b || false)
  or-false true = refl
  or-false false = refl
all-members names (added ∷ more) name = all-members (with_name names added) more name ∙ (rw (one-member names added name) (or-assoc (has_name names name) (bytes_eq name added) (has_name more name)))

members-are : (names more : List (List ℕ)) (name : List ℕ) → has_name (with_names names more) name ≡ has_name (names ++ more) name
members-are names more name = all-members names more name ∙ sym (list_any-append (bytes_eq name) names more)

grows-one : (names : List (List ℕ)) (name : List ℕ) → (rest : List (List ℕ)) × (with_name names name ≡ names ++ rest)
grows-one names name = go (has_name names name) refl where
  go : (b : Bool) → has_name names name ≡ b → (rest : List (List ℕ)) × (with_name names name ≡ names ++ rest)
  go true is = ([], with_name-same names name is ∙ sym (append-nil names))
  go false is = (name ∷ [], with_name-other names name is)

grows : (names more : List (List ℕ)) → (rest : List (List ℕ)) × (with_names names more ≡ names ++ rest)
grows names [] = ([], sym (append-nil names))
grows names (name ∷ more) =
    let one = grows-one names name in
    let all = grows (with_name names name) more in
    (one.0 ++ all.0, all.1 ∙ (ap (λ (front : List (List ℕ)). front ++ all.0) one.1 ∙ append_assoc names one.0 all.0))

pub names_are_by_first_appearance : NamesAreByFirstAppearance
names_are_by_first_appearance names more distinct = record {
  distinct = distinct-all names more distinct;
  members = λ name. (λ c. has-to (names ++ more) name (sym (members-are names more name) ∙ has-from (with_names names more) name c), λ c. has-to (with_names names more) name (members-are names more name ∙ has-from (names ++ more) name c));
  behind = λ later. let all = grows (with_names names more) later in (all.0, fold-append with_name names more later ∙ all.1);
}
