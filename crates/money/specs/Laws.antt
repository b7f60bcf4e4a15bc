-- What the texts of numbers and prices are, in the words of the format. The contracts of `laws` state them.
use Rattle.std.specs.Prelude.{◌≡◌, ℕ, ◌*◌, ◌/◌, ◌^◌, ◌<◌, ◌≤◌, ◌↔◌, ◌⊎◌, List, ◌∷◌, ◌++◌, length, replicate, decimal, ℤ, unsigned_abs, Some}
use Rattle.std.specs.Fmt.{signed_decimal}
use Rattle.std.specs.Str.Parse.{IsNumeral, digits_value}
use Rattle.tqd_base.specs.declared.limits.TheConstants.{PRICE_MAX}
use Rattle.money.specs.Number.{qty_of, count_of, signed_of}
use Rattle.money.specs.Price.{price_of, cost_text}

-- The texts of counts are the shortest spellings of the numbers below 10 ^ 23.
abbrev pub CountsAreShortest : Type 0
CountsAreShortest = (text : List ℕ) (n : ℕ) → (count_of text ≡ Some n) ↔ ((n < 10 ^ 23) × (text ≡ decimal n))

-- The texts of signed numbers are the shortest spellings of the numbers of up to 23 digits.
abbrev pub SignedAreShortest : Type 0
SignedAreShortest = (text : List ℕ) (z : ℤ) → (signed_of text ≡ Some z) ↔ ((unsigned_abs z < 10 ^ 23) × (text ≡ signed_decimal z))

-- The texts of quantities are the shortest spellings of the numbers within the bounds, with zeros before them, in 18 digits at most.
abbrev pub QuantitiesMayBePadded : Type 0
QuantitiesMayBePadded = (least greatest : ℕ) (text : List ℕ) (n : ℕ) → greatest < 2 ^ 64 → (qty_of least greatest text ≡ Some n)
    ↔ ((least ≤ n) × (n ≤ greatest) × (length text ≤ 18) × ((zeros : ℕ) × (text ≡ replicate zeros 48 ++ decimal n)))

-- The text is a whole part of 1 to 7 digits, alone or before a point and a part of 1 to 6 digits.
abbrev pub IsPriceText : List ℕ → List ℕ → List ℕ → Type 0
IsPriceText text whole part = IsNumeral 10 whole × (length whole ≤ 7)
    × (((text ≡ whole) × (length part ≡ 0)) ⊎ ((text ≡ whole ++ 46 ∷ part) × IsNumeral 10 part × (length part ≤ 6)))

-- The texts of prices are those, with a value up to the limit: what all digits write, with the point moved before the part.
abbrev pub PricesAreDecimal : Type 0
PricesAreDecimal = (text : List ℕ) (units : ℕ) → (price_of text ≡ Some units)
    ↔ ((units ≤ PRICE_MAX) × ((whole : List ℕ) × (part : List ℕ) × IsPriceText text whole part
    × (units * 10 ^ length part ≡ digits_value 10 (whole ++ part) * 1000000)))

-- A cost's text is a whole part, a point and a part of six digits. Without the point the digits write the cost in millionths.
abbrev pub CostsAreDecimal : Type 0
CostsAreDecimal = (cost : ℕ) → cost < 2 ^ 128 → (part : List ℕ) × (cost_text cost ≡ decimal (cost / 1000000) ++ 46 ∷ part)
    × IsNumeral 10 part × (length part ≡ 6) × (digits_value 10 (decimal (cost / 1000000) ++ part) ≡ cost)

-- A cost within the limit of prices is read back from its text.
abbrev pub CostsArePrices : Type 0
CostsArePrices = (cost : ℕ) → cost ≤ PRICE_MAX → price_of (cost_text cost) ≡ Some cost
