use Rattle.std.specs.Prelude.{ℕ, ◌≡◌, ◌≢◌, ◌+◌, ◌*◌, ◌<◌, ◌≤◌, min, List, length, slice_index}
use Rattle.mcf_lower.specs.declared.tournament.Tournament.{Tournament}

abbrev pub HasPlaces : ℕ → Tournament → Type 0
HasPlaces places t = (t.places ≡ places) × (length t.keys.items ≡ 2 * places)

-- the key of place v
abbrev pub key_of : Tournament → ℕ → ℕ
key_of t v = slice_index t.keys.items (t.places + v)

-- the lesser key has won the match at index i
abbrev pub IsPlayed : List ℕ → ℕ → Type 0
IsPlayed keys i = slice_index keys i ≡ min (slice_index keys (2 * i)) (slice_index keys (2 * i + 1))

-- each match is played but, maybe, that of index c
pub record ArePlayedBut (places : ℕ) (keys : List ℕ) (c : ℕ) : Type 0 where
  pub length_twice : length keys ≡ 2 * places
  pub each : (i : ℕ) → 1 ≤ i → i < places → 2 * i ≢ c → 2 * i + 1 ≢ c → IsPlayed keys i

pub record ArePlayed (places : ℕ) (keys : List ℕ) : Type 0 where
  pub length_twice : length keys ≡ 2 * places
  pub each : (i : ℕ) → 1 ≤ i → i < places → IsPlayed keys i

abbrev pub IsTournament : Tournament → Type 0
IsTournament t = ArePlayed t.places t.keys.items
