-- The numbers that texts of decimal digits stand for. A text is the list of its bytes.
use Rattle.std.specs.Prelude.{ℕ, zero, suc, Bool, ◌&&◌, List, [], ◌∷◌, length, slice_index, ℤ, pos, negsuc, Option, None, Some, if◌then◌else◌, nat_lt, nat_le, ◌==◌}
use Rattle.std.specs.Option.{option_map, option_and_then}
use Rattle.std.specs.Str.{all_ascii_digits}
use Rattle.std.specs.Str.Parse.{digits_value}

-- the text is 1 to `most` decimal digits, and nothing else
abbrev pub is_numeral : ℕ → List ℕ → Bool
is_numeral most text = nat_lt 0 (length text) && nat_le (length text) most && all_ascii_digits text

-- the number that 1 to `most` decimal digits write
abbrev pub numeral_of : ℕ → List ℕ → Option ℕ
numeral_of most text = if is_numeral most text then Some (digits_value 10 text) else None

-- the number itself, where it lies within the bounds
abbrev pub within : ℕ → ℕ → ℕ → Option ℕ
within least greatest n = if nat_le least n && nat_le n greatest then Some n else None

-- a quantity: 1 to 18 digits, with any leading zeros, and a value within the bounds
abbrev pub qty_of : ℕ → ℕ → List ℕ → Option ℕ
qty_of least greatest text = option_and_then (within least greatest) (numeral_of 18 text)

-- a `0` (48) stands before other bytes
abbrev pub has_leading_zero : List ℕ → Bool
has_leading_zero text = slice_index text 0 == 48 && nat_lt 1 (length text)

-- a count: 1 to 23 digits with no leading zero
abbrev pub count_of : List ℕ → Option ℕ
count_of text = if has_leading_zero text then None else numeral_of 23 text

-- the number below 0 that has this absolute value, if it has one
abbrev pub negative_of : ℕ → Option ℤ
negative_of zero = None
negative_of (suc n) = Some (negsuc n)

-- a signed number: a count, or `-` (45) before a count that is not 0
abbrev pub signed_of : List ℕ → Option ℤ
signed_of [] = None
signed_of (first ∷ others) = if first == 45 then option_and_then negative_of (count_of others) else option_map pos (count_of (first ∷ others))
