-- The first place that passes a test, in a list, in a mapped list and in a longer one.
use Rattle.std.proofs.Common.{◌≡◌, ℕ, ◌<◌, ◌≤◌, Bool, true, false, not, cond, ltb, List, [], ◌∷◌, ◌++◌, map, length, position, Option, None, Some, refl, sym, ◌∙◌, arith}
use Rattle.std.proofs.lemmas.Bool.{lt-ltb, ltb-true, ltb-false, eq-eqb, ne_eqb, false≢true}
use Rattle.std.proofs.lemmas.List.{length-map}
use Rattle.std.proofs.lemmas.List.Folds.{list_any_at, list_any_none, position_or_len_push}
use Rattle.std.proofs.lemmas.List.Quantifiers.{position-Some}
use Rattle.std.proofs.lemmas.List.Sums.{fails_before_first, prefix_len-le-length}
use Rattle.std.proofs.lemmas.Option.{none-some}
use Rattle.std.specs.List.{list_any, prefix_len, position_or_len}

pub prefix_len-map : {X Y : Type 0} (p : Y → Bool) (f : X → Y) (xs : List X) → prefix_len p (map f xs) ≡ prefix_len (λ x. p (f x)) xs
prefix_len-map p f [] = refl
prefix_len-map p f (x ∷ xs) = rw (prefix_len-map p f xs) refl

pub position-map : {X Y : Type 0} (p : Y → Bool) (f : X → Y) (xs : List X) → position p (map f xs) ≡ position (λ x. p (f x)) xs
position-map p f xs = rw (prefix_len-map (λ y. not (p y)) f xs, length-map xs f) refl

pub list_any-map : {X Y : Type 0} (p : Y → Bool) (f : X → Y) (xs : List X) → list_any p (map f xs) ≡ list_any (λ x. p (f x)) xs
list_any-map p f [] = refl
list_any-map p f (x ∷ xs) = rw (list_any-map p f xs) refl

-- an element passes where there is a place, and none does where there is none
pub passes-some : {X : Type 0} (p : X → Bool) (xs : List X) (n : ℕ) → position p xs ≡ Some n → list_any p xs ≡ true
passes-some p [] n e = cc e
passes-some p (x ∷ xs) n e = let at = position-Some p (x ∷ xs) n x e in list_any_at p (x ∷ xs) n x at.0 at.1

place-none : {X : Type 0} (p : X → Bool) (xs : List X) → position p xs ≡ None → length xs ≤ position_or_len p xs
place-none p xs e = go (ltb (position_or_len p xs) (length xs)) refl e where
  go : (b : Bool) → ltb (position_or_len p xs) (length xs) ≡ b → cond b (Some (position_or_len p xs)) None ≡ None → length xs ≤ position_or_len p xs
  go true is f = absurd (none-some (position_or_len p xs) (sym f))
  go false is f = ltb-false (position_or_len p xs) (length xs) is

pub passes-none : {X : Type 0} (p : X → Bool) (xs : List X) → position p xs ≡ None → list_any p xs ≡ false
passes-none p xs e = let past = place-none p xs e in list_any_none p xs (λ k d inside. fails_before_first p xs k d (omega arith))

-- the first place is inside where an element passes, and is the length where none does
pub place_inside : {X : Type 0} (p : X → Bool) (xs : List X) → list_any p xs ≡ true → position_or_len p xs < length xs
place_inside p xs any = go (position p xs) refl where
  go : (o : Option ℕ) → position p xs ≡ o → position_or_len p xs < length xs
  go None is = absurd (false≢true (sym (passes-none p xs is) ∙ any))
  go (Some n) is = here (ltb (position_or_len p xs) (length xs)) refl is where
    here : (b : Bool) → ltb (position_or_len p xs) (length xs) ≡ b → cond b (Some (position_or_len p xs)) None ≡ Some n → position_or_len p xs < length xs
    here true inside f = ltb-true (position_or_len p xs) (length xs) inside
    here false outside f = absurd (none-some n f)

pub place_past : {X : Type 0} (p : X → Bool) (xs : List X) → list_any p xs ≡ false → position_or_len p xs ≡ length xs
place_past p xs none = go (position p xs) refl where
  go : (o : Option ℕ) → position p xs ≡ o → position_or_len p xs ≡ length xs
  go None is = let past = place-none p xs is in omega (arith, prefix_len-le-length (λ x. not (p x)) xs)
  go (Some n) is = absurd (false≢true (sym none ∙ passes-some p xs n is))

pub position-inside : {X : Type 0} (p : X → Bool) (xs : List X) → position_or_len p xs < length xs → position p xs ≡ Some (position_or_len p xs)
position-inside p xs inside = rw (lt-ltb (position_or_len p xs) (length xs) inside) refl

-- a place inside stays in a longer list, and the element behind a list without a place has that list's length as its place
pub place_stays : {X : Type 0} (p : X → Bool) (xs : List X) (y : X) → list_any p xs ≡ true → position_or_len p (xs ++ y ∷ []) ≡ position_or_len p xs
place_stays p xs y any =
    let inside = place_inside p xs any in
    position_or_len_push p xs y ∙ rw (ne_eqb (position_or_len p xs) (length xs) (λ (e : position_or_len p xs ≡ length xs). omega arith)) refl

pub place_last : {X : Type 0} (p : X → Bool) (xs : List X) (y : X) → list_any p xs ≡ false → p y ≡ true → position_or_len p (xs ++ y ∷ []) ≡ length xs
place_last p xs y none passes =
    let past = place_past p xs none in
    position_or_len_push p xs y ∙ rw (eq-eqb (position_or_len p xs) (length xs) past, passes) (omega arith)
