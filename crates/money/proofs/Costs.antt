-- The texts of costs are decimal numbers with six decimals.
use Rattle.std.proofs.Common.{◌≡◌, ℕ, ◌+◌, ◌*◌, ◌/◌, ◌%◌, ◌^◌, ◌<◌, ◌≤◌, true, leb, List, ◌++◌, length, refl, ap, sym, ◌∙◌, inr, arith}
use Rattle.std.proofs.lemmas.Bool.{and_from, le-leb}
use Rattle.std.proofs.lemmas.Fmt.{decimal_is_IsNumeral_wide, length-decimal-le_wide}
use Rattle.std.specs.Fmt.{decimal}
use Rattle.std.specs.Char.{is_ascii_digit, digit_value}
use Rattle.std.specs.Str.{all_ascii_digits}
use Rattle.std.specs.Str.Parse.{digits_value, IsNumeral}
use Rattle.money.specs.Price.{six_digits, cost_text}
use Rattle.money.specs.Laws.{CostsAreDecimal, CostsArePrices}
use Rattle.money.proofs.Digits.{digit_value-of}
use Rattle.money.proofs.Numerals.{own}
use Rattle.money.proofs.Prices.{value-append, prices_are_decimal}

digit-from : (d : ℕ) → d < 10 → (is_ascii_digit (48 + d) ≡ true) × (digit_value (48 + d) ≡ d)
digit-from d small =
    let digit : is_ascii_digit (48 + d) ≡ true = and_from (leb 48 (48 + d)) (leb (48 + d) 57) (le-leb 48 (48 + d) (omega arith)) (le-leb (48 + d) 57 (omega arith)) in
    (digit, (digit_value-of (48 + d) digit).0 ∙ (omega arith))

six_digits-digits : (n : ℕ) → all_ascii_digits (six_digits n) ≡ true
six_digits-digits n = rw ((digit-from (n / 100000 % 10) (omega arith)).0, (digit-from (n / 10000 % 10) (omega arith)).0, (digit-from (n / 1000 % 10) (omega arith)).0, (digit-from (n / 100 % 10) (omega arith)).0, (digit-from (n / 10 % 10) (omega arith)).0, (digit-from (n / 1 % 10) (omega arith)).0) refl

six_digits-value : (n : ℕ) → n < 1000000 → digits_value 10 (six_digits n) ≡ n
six_digits-value n small = rw ((digit-from (n / 100000 % 10) (omega arith)).1, (digit-from (n / 10000 % 10) (omega arith)).1, (digit-from (n / 1000 % 10) (omega arith)).1, (digit-from (n / 100 % 10) (omega arith)).1, (digit-from (n / 10 % 10) (omega arith)).1, (digit-from (n / 1 % 10) (omega arith)).1) (omega arith)

six_is_numeral : (n : ℕ) → IsNumeral 10 (six_digits n)
six_is_numeral n = (omega arith, own.to (six_digits n) (six_digits-digits n))

cost-value : (cost : ℕ) → cost < 2 ^ 128 → digits_value 10 (decimal (cost / 1000000) ++ six_digits (cost % 1000000)) ≡ cost
cost-value cost small =
    let is = decimal_is_IsNumeral_wide (cost / 1000000) (omega arith) in
    value-append (decimal (cost / 1000000)) (six_digits (cost % 1000000)) ∙ rw (is.1, six_digits-value (cost % 1000000) (omega arith)) (omega arith)

pub costs_are_decimal : CostsAreDecimal
costs_are_decimal cost small = (six_digits (cost % 1000000), refl, six_is_numeral (cost % 1000000), refl, cost-value cost small)

pub costs_are_prices : CostsArePrices
costs_are_prices cost small =
    let whole : List ℕ = decimal (cost / 1000000) in
    let part : List ℕ = six_digits (cost % 1000000) in
    let is = decimal_is_IsNumeral_wide (cost / 1000000) (omega arith) in
    let few : length whole ≤ 7 = length-decimal-le_wide 7 (cost / 1000000) (omega arith) (omega arith) (omega arith) in
    (prices_are_decimal (cost_text cost) cost).1 (small, (whole, part, (is.0, few, inr (refl, six_is_numeral (cost % 1000000), omega arith)), ap (λ v. v * 1000000) (sym (cost-value cost (omega arith)))))
