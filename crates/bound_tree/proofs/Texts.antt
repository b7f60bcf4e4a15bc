-- How a text grows by fields.
use Rattle.std.proofs.Common.{◌≡◌, ℕ, suc, ◌+◌, ◌<◌, List, [], ◌∷◌, ◌++◌, map, take, get_or, refl, sym, ◌∙◌, ap, add-one, append_assoc, append-nil, ℤ}
use Rattle.tqd_base.specs.World.{Bytes}
use Rattle.bound_tree.specs.LineText.{fields_text}

pub ruleset appends = (append_assoc, append-nil)

pub map_append : {A B : Type 0} (f : A → B) → (xs ys : List A) → map f (xs ++ ys) ≡ map f xs ++ map f ys
map_append f [] ys = refl
map_append f (x ∷ xs) ys = ap (λ (zs : List _). f x ∷ zs) (map_append f xs ys)

pub fields_append : (xs ys : List Bytes) → fields_text (xs ++ ys) ≡ fields_text xs ++ fields_text ys
fields_append [] ys = refl
fields_append (x ∷ xs) ys = ap (λ (zs : Bytes). (32 ∷ x) ++ zs) (fields_append xs ys) ∙ sym (append_assoc (32 ∷ x) (fields_text xs) (fields_text ys))

pub ruleset fields = (append_assoc, append-nil, map_append, fields_append)
