-- Names of products, parts and suppliers. A name is the list of its bytes. Names are compared byte for byte, and numbered
-- from 0 by their places in a list without repeats.
use Rattle.std.specs.Prelude.{◌≡◌, ◌≢◌, ◌<◌, ◌^◌, ℕ, Bool, ◌&&◌, not, ◌==◌, nat_le, if◌then◌else◌, List, [], ◌∷◌, ◌++◌}
use Rattle.std.specs.Prelude.{length, fold, position, Option, String}
use Rattle.std.specs.BTreeMap.{BTreeMap, get_by_text}
use Rattle.std.specs.Global.{Global}
use Rattle.std.specs.List.{list_all, list_any, AllPairs}
use Rattle.std.specs.Str.{bytes_eq}
use Rattle.tqd_base.specs.declared.limits.TheConstants.{NAME_MAX}

-- a byte that a name may hold: none below 32, and not 127
abbrev pub is_name_byte : ℕ → Bool
is_name_byte byte = nat_le 32 byte && not (byte == 127)

-- a name: 1 to 64 such bytes
abbrev pub is_name : List ℕ → Bool
is_name text = nat_le 1 (length text) && nat_le (length text) NAME_MAX && list_all is_name_byte text

abbrev pub has_name : List (List ℕ) → List ℕ → Bool
has_name names name = list_any (bytes_eq name) names

-- the number of a name, if it has one
abbrev pub number_of : List (List ℕ) → List ℕ → Option ℕ
number_of names name = position (bytes_eq name) names

-- the names with one more, which goes last where it is new
abbrev pub with_name : List (List ℕ) → List ℕ → List (List ℕ)
with_name names name = if has_name names name then names else names ++ name ∷ []

-- the names with more of them, in the order of their first appearance
abbrev pub with_names : List (List ℕ) → List (List ℕ) → List (List ℕ)
with_names names more = fold with_name names more

-- the names are different and fewer than 2^32, and the map has the number of each of them, and no other text
pub record AreNumbered (names : List (List ℕ)) (numbers : BTreeMap (String Global) ℕ) : Type 0 where
  pub few : length names < 2 ^ 32
  pub distinct : AllPairs (λ a b. a ≢ b) names
  pub each : (name : List ℕ) → get_by_text numbers name ≡ number_of names name
