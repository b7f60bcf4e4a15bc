-- Names in a list, and their numbers in a map.
use Rattle.std.proofs.Common.{◌≡◌, ◌≢◌, ℕ, ◌<◌, ◌≤◌, ◌-◌, ◌^◌, ◌||◌, Option, Bool, true, false, cond, List, [], ◌∷◌, ◌++◌, map, length, get_or, None, Some, Global, String, refl, sym, ap, ◌∙◌, arith}
use Rattle.std.proofs.Common.{⊎_elim}
use Rattle.std.proofs.lemmas.Bool.{cases_lt, false≢true}
use Rattle.std.proofs.lemmas.List.{get_or_append_left, get_or_push, length-append, map-append}
use Rattle.std.proofs.lemmas.List.Folds.{list_any_at, list_any-append}
use Rattle.std.specs.Cmp.Lexicographic.{bytes_decides}
use Rattle.std.specs.List.{list_any, position_or_len, AllPairs}
use Rattle.std.specs.Str.{bytes_eq}
use Rattle.std.specs.String.{string_bytes, string_cmp}
use Rattle.std.proofs.lemmas.Map.Text.{btree_map_updates_text}
use Rattle.std.specs.BTreeMap.{BTreeMap, IsEmpty, IsUnchanged, UpdatesBy}
use Rattle.bom_reader.specs.Names.{AreNumbered, has_name, number_of, with_name}
use Rattle.bom_reader.proofs.Places.{passes-some, passes-none, place_inside, place_stays, position-inside, place_last}

-- a name that has a number is in the list, and one that has none is not
pub with_name-known : (names : List (List ℕ)) (name : List ℕ) (n : ℕ) → number_of names name ≡ Some n → with_name names name ≡ names
with_name-known names name n e = rw (passes-some (bytes_eq name) names n e) refl

pub with_name-new : (names : List (List ℕ)) (name : List ℕ) → number_of names name ≡ None → with_name names name ≡ names ++ name ∷ []
with_name-new names name e = rw (passes-none (bytes_eq name) names e) refl

pub with_name-other : (names : List (List ℕ)) (name : List ℕ) → has_name names name ≡ false → with_name names name ≡ names ++ name ∷ []
with_name-other names name e = rw e refl

pub is_same : (name : List ℕ) → bytes_eq name name ≡ true
is_same name = (bytes_decides name name).1 refl

pub number_of-new : (names : List (List ℕ)) (name : List ℕ) → number_of names name ≡ None → number_of (with_name names name) name ≡ Some (length names)
number_of-new names name e =
    let last = place_last (bytes_eq name) names name (passes-none (bytes_eq name) names e) (is_same name) in
    let inside : position_or_len (bytes_eq name) (names ++ name ∷ []) < length (names ++ name ∷ []) = simp length-append (omega arith) in
    rw (with_name-new names name e) (position-inside (bytes_eq name) (names ++ name ∷ []) inside ∙ ap (λ (n : ℕ). Some n) last)

-- names that are different stay so where a new one is added
distinct-more : (names : List (List ℕ)) (name : List ℕ) → AllPairs (λ a b. a ≢ b) names → number_of names name ≡ None → AllPairs (λ a b. a ≢ b) (names ++ name ∷ [])
distinct-more names name distinct new i j d ordered inside same = ⊎_elim before last (cases_lt j (length names)) where
  known : i < length names → get_or (names ++ name ∷ []) i d ≡ get_or names i d
  known low = get_or_append_left names (name ∷ []) d i low

  before : j < length names → ⊥
  before low = distinct i j d ordered low (sym (known (omega (arith, low, ordered))) ∙ (same ∙ get_or_append_left names (name ∷ []) d j low))

  last : length names ≤ j → ⊥
  last high =
      let place : j ≡ length names = omega (arith, high, inside, length-append names (name ∷ [])) in
      let low : i < length names = omega (arith, ordered, place) in
      let end : get_or (names ++ name ∷ []) j d ≡ name = get_or_push names name d j (sym place) in
      let is : get_or names i d ≡ name = sym (known low) ∙ (same ∙ end) in
      let stands : list_any (bytes_eq name) names ≡ true = list_any_at (bytes_eq name) names i d low (rw is (is_same name)) in
      false≢true (sym (passes-none (bytes_eq name) names new) ∙ stands)

-- the number of a text once a new name is added
differ : (a b : List ℕ) → bytes_eq a b ≡ false → bytes_eq b a ≡ false
differ a b other = go (bytes_eq b a) refl where
  go : (t : Bool) → bytes_eq b a ≡ t → bytes_eq b a ≡ false
  go true is = let same : b ≡ a = (bytes_decides b a).0 is in absurd (false≢true (sym other ∙ rw same (is_same a)))
  go false is = is

unnumbered : (names : List (List ℕ)) (name : List ℕ) → has_name names name ≡ false → number_of names name ≡ None
unnumbered names name none = go (number_of names name) refl where
  go : (o : Option ℕ) → number_of names name ≡ o → number_of names name ≡ None
  go None is = is
  go (Some n) is = absurd (false≢true (sym none ∙ passes-some (bytes_eq name) names n is))

number-stays : (names : List (List ℕ)) (name other : List ℕ) → bytes_eq other name ≡ false → number_of (names ++ name ∷ []) other ≡ number_of names other
number-stays names name other apart = go (has_name names other) refl where
  longer : has_name (names ++ name ∷ []) other ≡ (has_name names other || (bytes_eq other name || false))
  longer = list_any-append (bytes_eq other) names (name ∷ [])

  go : (b : Bool) → has_name names other ≡ b → number_of (names ++ name ∷ []) other ≡ number_of names other
  go true is =
      let low = place_inside (bytes_eq other) names is in
      let place = place_stays (bytes_eq other) names name is in
      let inside : position_or_len (bytes_eq other) (names ++ name ∷ []) < length (names ++ name ∷ []) = omega (arith, low, place, length-append names (name ∷ [])) in
      position-inside (bytes_eq other) (names ++ name ∷ []) inside ∙ (ap (λ (n : ℕ). Some n) place ∙ sym (position-inside (bytes_eq other) names low))
  go false is = unnumbered (names ++ name ∷ []) other (longer ∙ rw (is, apart) refl) ∙ sym (unnumbered names other is)

number-after : (names : List (List ℕ)) (name other : List ℕ) → number_of names name ≡ None → number_of (names ++ name ∷ []) other ≡ cond (bytes_eq name other) (Some (length names)) (number_of names other)
number-after names name other new = go (bytes_eq name other) refl where
  go : (b : Bool) → bytes_eq name other ≡ b → number_of (names ++ name ∷ []) other ≡ cond (bytes_eq name other) (Some (length names)) (number_of names other)
  go true is = let same : name ≡ other = (bytes_decides name other).0 is in rw (is, ← same, ← with_name-new names name new) (number_of-new names name new)
  go false is = rw is (number-stays names name other (differ name other is))

-- no names are numbered by an empty map
pub none-numbered : (numbers : BTreeMap (String Global) ℕ) → IsEmpty numbers → AreNumbered [] numbers
none-numbered numbers none = record { few = omega arith; distinct = λ i j d ordered inside. absurd (omega arith); each = λ name. rw none refl }

-- a map that has the entries of one that numbers names numbers them too
pub numbered-unchanged : (names : List (List ℕ)) (numbers numbers' : BTreeMap (String Global) ℕ) → IsUnchanged numbers numbers' → AreNumbered names numbers → AreNumbered names numbers'
numbered-unchanged names numbers numbers' kept are = record { few = are.few; distinct = are.distinct; each = λ name. rw kept (are.each name) }

-- a new name with the number behind the others
pub numbered-more : (names : List (List ℕ)) (key : String Global) (numbers numbers' : BTreeMap (String Global) ℕ) → AreNumbered names numbers → number_of names (string_bytes key) ≡ None → length names < 2 ^ 32 - 1
    → UpdatesBy string_cmp (string_cmp key) numbers numbers' (Some (length names)) → AreNumbered (names ++ string_bytes key ∷ []) numbers'
numbered-more names key numbers numbers' are new small updates =
    let name = string_bytes key in
    record {
      few = omega (arith, small, length-append names (name ∷ []));
      distinct = distinct-more names name are.distinct new;
      each = λ other. btree_map_updates_text name numbers numbers' (Some (length names)) updates other
          ∙ (ap (λ (o : Option ℕ). cond (bytes_eq name other) (Some (length names)) o) (are.each other) ∙ sym (number-after names name other new));
    }

-- the texts, once one more was put behind them
pub texts-pushed : (items items' : List (String Global)) (text : String Global) (name : List ℕ) → items' ≡ items ++ text ∷ [] → string_bytes text ≡ name → map string_bytes items' ≡ map string_bytes items ++ name ∷ []
texts-pushed items items' text name pushed is = rw (pushed, ← is) (map-append string_bytes items (text ∷ []))
