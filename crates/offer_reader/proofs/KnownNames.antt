-- A name has a number exactly where it is in a list.
use Rattle.std.proofs.Common.{ℕ, ◌≡◌, List, Option, None, Some, refl, sym}
use Rattle.std.specs.Prelude.{is_some}
use Rattle.std.specs.Str.{bytes_eq}
use Rattle.bom_reader.specs.Names.{has_name, number_of}
use Rattle.bom_reader.proofs.Places.{passes-some, passes-none}

pub known : (names : List (List ℕ)) (name : List ℕ) → is_some (number_of names name) ≡ has_name names name
known names name = go (number_of names name) refl where
  go : (o : Option ℕ) → number_of names name ≡ o → is_some (number_of names name) ≡ has_name names name
  go None is = rw is (sym (passes-none (bytes_eq name) names is))
  go (Some n) is = rw is (sym (passes-some (bytes_eq name) names n is))
