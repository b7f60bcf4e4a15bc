-- Prices and costs as decimal texts. A value is in millionths of the currency.
use Rattle.std.specs.Prelude.{ℕ, ◌+◌, ◌-◌, ◌*◌, ◌/◌, ◌%◌, ◌^◌, Bool, List, [], ◌∷◌, ◌++◌, map, length, take, drop, position, decimal, Option, None, Some, ◌==◌}
use Rattle.std.specs.Option.{option_map, option_and_then}
use Rattle.tqd_base.specs.declared.limits.TheConstants.{PRICE_MAX}
use Rattle.money.specs.Number.{numeral_of, within}

-- the byte is the decimal point
abbrev pub is_point : ℕ → Bool
is_point byte = byte == 46

-- the millionths that 1 to 6 digits behind the point write
abbrev pub fraction_of : List ℕ → Option ℕ
fraction_of digits = option_map (λ n. n * 10 ^ (6 - length digits)) (numeral_of 6 digits)

-- the millionths that a text writes: 1 to 7 digits, and after its first point, where it has one, a fraction
abbrev pub millionths_at : List ℕ → Option ℕ → Option ℕ
millionths_at text None = option_map (λ whole. whole * 1000000) (numeral_of 7 text)
millionths_at text (Some point) = option_and_then (λ whole. option_map (λ part. whole * 1000000 + part) (fraction_of (drop (point + 1) text))) (numeral_of 7 (take point text))

-- a price: such a text, with a value within the limit
abbrev pub price_of : List ℕ → Option ℕ
price_of text = option_and_then (within 0 PRICE_MAX) (millionths_at text (position is_point text))

-- the six decimals of a number of millionths
abbrev pub six_digits : ℕ → List ℕ
six_digits n = map (λ place. 48 + n / place % 10) (100000 ∷ 10000 ∷ 1000 ∷ 100 ∷ 10 ∷ 1 ∷ [])

-- a cost: the whole part in its shortest spelling, a point, and six decimals
abbrev pub cost_text : ℕ → List ℕ
cost_text cost = decimal (cost / 1000000) ++ 46 ∷ six_digits (cost % 1000000)
