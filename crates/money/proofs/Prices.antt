-- The texts of prices are decimal numbers.
use Rattle.std.proofs.Common.{◌≡◌, ℕ, suc, ◌+◌, ◌-◌, ◌*◌, ◌^◌, ◌<◌, ◌≤◌, true, false, List, [], ◌∷◌, ◌++◌, length, get_or, take, drop, Option, Some, None, refl, ap, sym, ◌∙◌, inl, inr, arith, add-one, add-zero, append-nil, pow-add, pow-suc, drop-cons, take-append-drop}
use Rattle.std.proofs.Math.Nat.{one-le-pow, eq_of_mul-eq-mul_right}
use Rattle.std.proofs.Math.Seq.{take-append_seam, drop-append-add}
use Rattle.std.proofs.lemmas.Bool.{and_parts, lt-ltb, le-ltb, eqb-true, ne_eqb}
use Rattle.std.proofs.lemmas.List.{length-append, nil_from_length}
use Rattle.std.proofs.lemmas.List.Quantifiers.{position-Some}
use Rattle.std.proofs.lemmas.Option.{none-some, same_Some, option_and_then_some}
use Rattle.std.specs.Char.{is_ascii_digit, digit_value}
use Rattle.std.specs.List.{position, position_or_len}
use Rattle.std.specs.Option.{option_map}
use Rattle.std.specs.Str.{all_ascii_digits}
use Rattle.std.specs.Str.Parse.{digits_value, digits_value_after, IsNumeral}
use Rattle.tqd_base.specs.declared.limits.TheConstants.{PRICE_MAX}
use Rattle.money.specs.Number.{numeral_of, within}
use Rattle.money.specs.Price.{is_point, fraction_of, millionths_at, price_of}
use Rattle.money.specs.Laws.{IsPriceText, PricesAreDecimal}
use Rattle.money.proofs.Digits.{digit_value-of, after-append}
use Rattle.money.proofs.Numerals.{own, IsRead, read-from, read-to}
use Rattle.money.proofs.Quantities.{within-from, within-to}

-- where the point stands
no_point : (c : ℕ) → is_ascii_digit c ≡ true → is_point c ≡ false
no_point c digit = let d = digit_value-of c digit in ne_eqb c 46 (λ e. omega arith)

digits_then : (whole text : List ℕ) → all_ascii_digits whole ≡ true → position_or_len is_point (whole ++ text) ≡ length whole + position_or_len is_point text
digits_then [] text digits = omega arith
digits_then (c ∷ cs) text digits =
    let parts = and_parts (is_ascii_digit c) (all_ascii_digits cs) digits in
    rw (no_point c parts.0, digits_then cs text parts.1) (omega arith)

position-alone : (whole : List ℕ) → all_ascii_digits whole ≡ true → position is_point whole ≡ None
position-alone whole digits =
    let at : position_or_len is_point whole ≡ length whole = ap (position_or_len is_point) (sym (append-nil whole)) ∙ (digits_then whole [] digits ∙ add-zero (length whole)) in
    rw (at, le-ltb (length whole) (length whole) (omega arith)) refl

position-joined : (whole part : List ℕ) → all_ascii_digits whole ≡ true → position is_point (whole ++ 46 ∷ part) ≡ Some (length whole)
position-joined whole part digits =
    let at : position_or_len is_point (whole ++ 46 ∷ part) ≡ length whole = digits_then whole (46 ∷ part) digits ∙ add-zero (length whole) in
    let long : length whole < length (whole ++ 46 ∷ part) = omega (arith, length-append whole (46 ∷ part)) in
    rw (at, lt-ltb (length whole) (length (whole ++ 46 ∷ part)) long) refl

-- the value of digits before digits
after-value : (n : ℕ) (ds : List ℕ) → digits_value_after 10 n ds ≡ n * 10 ^ length ds + digits_value 10 ds
after-value n [] = omega arith
after-value n (c ∷ cs) =
    let more : 10 ^ suc (length cs) ≡ 10 ^ length cs * 10 = pow-suc 10 (length cs) in
    let first = after-value (n * 10 + digit_value c) cs in
    let alone : digits_value 10 (c ∷ cs) ≡ (0 * 10 + digit_value c) * 10 ^ length cs + digits_value 10 cs = after-value (0 * 10 + digit_value c) cs in
    rw (first, more) (omega (arith, alone))

pub value-append : (whole part : List ℕ) → digits_value 10 (whole ++ part) ≡ digits_value 10 whole * 10 ^ length part + digits_value 10 part
value-append whole part = after-append 0 whole part ∙ after-value (digits_value 10 whole) part

-- a part of up to six digits, filled up to six
filled : (part : List ℕ) → length part ≤ 6 → 10 ^ length part * 10 ^ (6 - length part) ≡ 1000000
filled part few = let six : length part + (6 - length part) ≡ 6 = omega arith in sym (pow-add 10 (length part) (6 - length part)) ∙ ap (λ k. 10 ^ k) six

-- what fits the digits fits the value, and the other way round
scaled : (w f p q : ℕ) → p * q ≡ 1000000 → (w * 1000000 + f * q) * p ≡ (w * p + f) * 1000000
scaled w f p q e = let g : f * (p * q) ≡ f * 1000000 = ap (λ x. f * x) e in omega arith

price_value : (whole part : List ℕ) (units w f : ℕ) → units ≡ w * 1000000 + f * 10 ^ (6 - length part) → digits_value 10 whole ≡ w → digits_value 10 part ≡ f → length part ≤ 6 → units * 10 ^ length part ≡ digits_value 10 (whole ++ part) * 1000000
price_value whole part units w f units_are whole_is part_is few =
    rw (units_are, value-append whole part, whole_is, part_is) (scaled w f (10 ^ length part) (10 ^ (6 - length part)) (filled part few))

option_map-from : (g : ℕ → ℕ) (o : Option ℕ) (y : ℕ) → option_map g o ≡ Some y → (x : ℕ) × (o ≡ Some x) × (g x ≡ y)
option_map-from g None y e = absurd (none-some y e)
option_map-from g (Some x) y e = (x, refl, same_Some (g x) y e)

numeral : (most : ℕ) (text : List ℕ) (n : ℕ) → IsRead most text n → IsNumeral 10 text
numeral most text n is = (is.nonempty, own.to text is.digits)

read : (most : ℕ) (text : List ℕ) → IsNumeral 10 text → length text ≤ most → IsRead most text (digits_value 10 text)
read most text is few = record { nonempty = is.0; fits = few; digits = own.from text is.1; value_is = refl }

drop_at_point : (text : List ℕ) (point : ℕ) → point < length text → get_or text point 0 ≡ 46 → drop point text ≡ 46 ∷ drop (point + 1) text
drop_at_point text point inside is = rw (add-one, drop-cons text point 0, is) refl

split_at_point : (text : List ℕ) (point : ℕ) → point < length text → get_or text point 0 ≡ 46 → text ≡ take point text ++ 46 ∷ drop (point + 1) text
split_at_point text point inside is = sym (take-append-drop point text) ∙ ap (λ t. take point text ++ t) (drop_at_point text point inside is)

price-from : (text : List ℕ) (units : ℕ) → price_of text ≡ Some units → (units ≤ PRICE_MAX) × ((whole : List ℕ) × (part : List ℕ) × IsPriceText text whole part × (units * 10 ^ length part ≡ digits_value 10 (whole ++ part) * 1000000))
price-from text units e = option_and_then_some (within 0 PRICE_MAX) (millionths_at text (position is_point text)) units e (λ m found bounds.
    let inside = within-from 0 PRICE_MAX m units bounds in
    (inside.1, go (position is_point text) refl (found ∙ ap (λ x. Some x) inside.2)))
  where
    alone : millionths_at text None ≡ Some units → (whole : List ℕ) × (part : List ℕ) × IsPriceText text whole part × (units * 10 ^ length part ≡ digits_value 10 (whole ++ part) * 1000000)
    alone found =
        let w = option_map-from (λ whole. whole * 1000000) (numeral_of 7 text) units found in
        let is = read-from 7 text w.0 w.1 in
        (text, [], (numeral 7 text w.0 is, is.fits, inl (refl, refl)), rw (append-nil text, is.value_is) (omega (arith, w.2)))

    joined : (point : ℕ) → position is_point text ≡ Some point → millionths_at text (Some point) ≡ Some units → (whole : List ℕ) × (part : List ℕ) × IsPriceText text whole part × (units * 10 ^ length part ≡ digits_value 10 (whole ++ part) * 1000000)
    joined point at found =
        let whole : List ℕ = take point text in
        let part : List ℕ = drop (point + 1) text in
        let stands = position-Some is_point text point 0 at in
        option_and_then_some (λ w. option_map (λ p. w * 1000000 + p) (fraction_of part)) (numeral_of 7 whole) units found (λ w read_whole sum.
        let p = option_map-from (λ p. w * 1000000 + p) (fraction_of part) units sum in
        let f = option_map-from (λ n. n * 10 ^ (6 - length part)) (numeral_of 6 part) p.0 p.1 in
        let is_whole = read-from 7 whole w read_whole in
        let is_part = read-from 6 part f.0 f.1 in
        let units_are : units ≡ w * 1000000 + f.0 * 10 ^ (6 - length part) = sym p.2 ∙ ap (λ x. w * 1000000 + x) (sym f.2) in (
          whole,
          part,
          (numeral 7 whole w is_whole, is_whole.fits, inr (split_at_point text point stands.0 (eqb-true (get_or text point 0) 46 stands.1), numeral 6 part f.0 is_part, is_part.fits)),
          price_value whole part units w f.0 units_are is_whole.value_is is_part.value_is is_part.fits,
        ))

    go : (o : Option ℕ) → position is_point text ≡ o → millionths_at text o ≡ Some units → (whole : List ℕ) × (part : List ℕ) × IsPriceText text whole part × (units * 10 ^ length part ≡ digits_value 10 (whole ++ part) * 1000000)
    go None at found = alone found
    go (Some point) at found = joined point at found

alone-to : (text whole part : List ℕ) (units : ℕ) → units ≤ PRICE_MAX → IsNumeral 10 whole → length whole ≤ 7 → text ≡ whole → length part ≡ 0 → units * 10 ^ length part ≡ digits_value 10 (whole ++ part) * 1000000 → price_of text ≡ Some units
alone-to text whole part units small numeral few same none value =
    let is = read 7 whole numeral few in
    let nothing : part ≡ [] = nil_from_length part none in
    let all : digits_value 10 (whole ++ part) ≡ digits_value 10 whole = ap (λ p. digits_value 10 (whole ++ p)) nothing ∙ ap (digits_value 10) (append-nil whole) in
    let one : 10 ^ length part ≡ 1 = ap (λ n. 10 ^ n) none in
    let units_are : digits_value 10 whole * 1000000 ≡ units = ap (λ v. v * 1000000) (sym all) ∙ (sym value ∙ (ap (λ k. units * k) one ∙ omega arith)) in
    rw (same, position-alone whole is.digits, read-to 7 whole (digits_value 10 whole) is, units_are) (within-to 0 PRICE_MAX units (omega arith) small)

joined-to : (text whole part : List ℕ) (units : ℕ) → units ≤ PRICE_MAX → IsNumeral 10 whole → length whole ≤ 7 → text ≡ whole ++ 46 ∷ part → IsNumeral 10 part → length part ≤ 6 → units * 10 ^ length part ≡ digits_value 10 (whole ++ part) * 1000000 → price_of text ≡ Some units
joined-to text whole part units small is_whole few_whole same is_part few_part value =
    let w = read 7 whole is_whole few_whole in
    let p = read 6 part is_part few_part in
    let wv : ℕ = digits_value 10 whole in
    let pv : ℕ = digits_value 10 part in
    let scale = scaled wv pv (10 ^ length part) (10 ^ (6 - length part)) (filled part few_part) in
    let equal : (wv * 1000000 + pv * 10 ^ (6 - length part)) * 10 ^ length part ≡ units * 10 ^ length part = scale ∙ (ap (λ v. v * 1000000) (sym (value-append whole part)) ∙ sym value) in
    let units_are : wv * 1000000 + pv * 10 ^ (6 - length part) ≡ units = eq_of_mul-eq-mul_right (10 ^ length part) (one-le-pow (length part) 10 (omega arith)) (wv * 1000000 + pv * 10 ^ (6 - length part)) units equal in
    let front : take (length whole) (whole ++ 46 ∷ part) ≡ whole = take-append_seam whole (46 ∷ part) in
    let back : drop (length whole + 1) (whole ++ 46 ∷ part) ≡ part = drop-append-add whole (46 ∷ part) 1 in
    rw (same, position-joined whole part w.digits, front, back, read-to 7 whole wv w, read-to 6 part pv p, units_are) (within-to 0 PRICE_MAX units (omega arith) small)

price-to : (text whole part : List ℕ) (units : ℕ) → units ≤ PRICE_MAX → IsPriceText text whole part → units * 10 ^ length part ≡ digits_value 10 (whole ++ part) * 1000000 → price_of text ≡ Some units
price-to text whole part units small form value = elim form.2 [
  | inl is ↦ alone-to text whole part units small form.0 form.1 is.0 is.1 value
  | inr is ↦ joined-to text whole part units small form.0 form.1 is.0 is.1 is.2 value
]

pub prices_are_decimal : PricesAreDecimal
prices_are_decimal text units = (price-from text units, λ h. price-to text h.1.0 h.1.1 units h.0 h.1.2 h.1.3)
