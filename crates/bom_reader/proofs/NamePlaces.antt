-- Where names stand once more names are added.
use Rattle.std.proofs.Common.{◌≡◌, ℕ, Bool, true, false, eqb, ◌||◌, List, [], ◌∷◌, get_or, refl, sym, ap, ◌∙◌}
use Rattle.std.proofs.lemmas.Bool.{eq-eqb, ne_eqb, false≢true}
use Rattle.std.proofs.lemmas.List.Folds.{list_any-append}
use Rattle.std.proofs.lemmas.List.Sums.{passes_at_first}
use Rattle.std.specs.Cmp.Lexicographic.{bytes_decides}
use Rattle.std.specs.List.{list_any, position_or_len}
use Rattle.std.specs.Str.{bytes_eq}
use Rattle.bom_reader.specs.Names.{has_name, with_name, with_names}
use Rattle.bom_reader.proofs.Places.{place_inside, place_stays}
use Rattle.bom_reader.proofs.NameFacts.{is_same, with_name-other}

with_name-same : (names : List (List ℕ)) (name : List ℕ) → has_name names name ≡ true → with_name names name ≡ names
with_name-same names name e = rw e refl

or-true : (b : Bool) → (b || true) ≡ true
or-true true = refl
or-true false = refl

-- a name that is added is there, and the others stay, at their places
pub has_name-added : (names : List (List ℕ)) (name : List ℕ) → has_name (with_name names name) name ≡ true
has_name-added names name = go (has_name names name) refl where
  go : (b : Bool) → has_name names name ≡ b → has_name (with_name names name) name ≡ true
  go true is = rw (with_name-same names name is) is
  go false is = rw (with_name-other names name is, list_any-append (bytes_eq name) names (name ∷ []), is_same name) (or-true (list_any (bytes_eq name) names))

pub has_name-stays : (names : List (List ℕ)) (name other : List ℕ) → has_name names name ≡ true → has_name (with_name names other) name ≡ true
has_name-stays names name other there = go (has_name names other) refl where
  go : (b : Bool) → has_name names other ≡ b → has_name (with_name names other) name ≡ true
  go true is = rw (with_name-same names other is) there
  go false is = rw (with_name-other names other is, list_any-append (bytes_eq name) names (other ∷ []), there) refl

pub place-stays : (names : List (List ℕ)) (name other : List ℕ) → has_name names name ≡ true → position_or_len (bytes_eq name) (with_name names other) ≡ position_or_len (bytes_eq name) names
place-stays names name other there = go (has_name names other) refl where
  go : (b : Bool) → has_name names other ≡ b → position_or_len (bytes_eq name) (with_name names other) ≡ position_or_len (bytes_eq name) names
  go true is = rw (with_name-same names other is) refl
  go false is = rw (with_name-other names other is) (place_stays (bytes_eq name) names other there)

-- the same for several names
pub has_name-stays_all : (names : List (List ℕ)) (name : List ℕ) (more : List (List ℕ)) → has_name names name ≡ true → has_name (with_names names more) name ≡ true
has_name-stays_all names name [] there = there
has_name-stays_all names name (other ∷ more) there = has_name-stays_all (with_name names other) name more (has_name-stays names name other there)

pub place-stays_all : (names : List (List ℕ)) (name : List ℕ) (more : List (List ℕ)) → has_name names name ≡ true → position_or_len (bytes_eq name) (with_names names more) ≡ position_or_len (bytes_eq name) names
place-stays_all names name [] there = refl
place-stays_all names name (other ∷ more) there = place-stays_all (with_name names other) name more (has_name-stays names name other there) ∙ place-stays names name other there

-- the name at the place of a name is that name
pub name-at_place : (names : List (List ℕ)) (name : List ℕ) → has_name names name ≡ true → name ≡ get_or names (position_or_len (bytes_eq name) names) []
name-at_place names name there =
    let at = position_or_len (bytes_eq name) names in
    (bytes_decides name (get_or names at [])).0 (passes_at_first (bytes_eq name) names [] (place_inside (bytes_eq name) names there))

-- names are the same where their places are
pub same-places : (names : List (List ℕ)) (a b : List ℕ) → has_name names a ≡ true → has_name names b ≡ true → eqb (position_or_len (bytes_eq a) names) (position_or_len (bytes_eq b) names) ≡ bytes_eq a b
same-places names a b has-a has-b = go (bytes_eq a b) refl where
  go : (t : Bool) → bytes_eq a b ≡ t → eqb (position_or_len (bytes_eq a) names) (position_or_len (bytes_eq b) names) ≡ t
  go true is = let same : a ≡ b = (bytes_decides a b).0 is in eq-eqb _ _ (rw same refl)
  go false is = ne_eqb _ _ (λ (e : position_or_len (bytes_eq a) names ≡ position_or_len (bytes_eq b) names).
      let same : a ≡ b = name-at_place names a has-a ∙ (ap (λ at. get_or names at []) e ∙ sym (name-at_place names b has-b)) in
      false≢true (sym is ∙ (bytes_decides a b).1 same))
