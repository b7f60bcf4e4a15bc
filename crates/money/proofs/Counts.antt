-- The texts of counts and signed numbers are the shortest spellings.
use Rattle.std.proofs.Common.{◌≡◌, ◌≢◌, ℕ, zero, suc, ◌-◌, ◌^◌, ◌<◌, ◌≤◌, Bool, true, false, eqb, ltb, List, [], ◌∷◌, length, get_or, Option, Some, None, ℤ, pos, negsuc, unsigned_abs, refl, ap, sym, ◌∙◌, arith}
use Rattle.std.proofs.lemmas.Bool.{and_parts, and_from, lt-ltb, eq-eqb, eqb-true, ne_eqb, true≢false}
use Rattle.std.proofs.lemmas.Option.{none-some, same_Some}
use Rattle.std.proofs.lemmas.Fmt.{decimal_is_IsNumeral_wide, length-decimal-le_wide}
use Rattle.std.specs.Fmt.{decimal, signed_decimal}
use Rattle.std.specs.Char.{is_ascii_digit}
use Rattle.std.specs.Option.{option_map, option_and_then}
use Rattle.std.specs.Str.{all_ascii_digits}
use Rattle.std.specs.Str.Parse.{digits_value}
use Rattle.money.specs.Number.{numeral_of, has_leading_zero, count_of, negative_of, signed_of}
use Rattle.money.specs.Laws.{CountsAreShortest, SignedAreShortest}
use Rattle.money.proofs.Digits.{digit_value-of}
use Rattle.money.proofs.Numerals.{own, IsRead, read-from, read-to, value_short, shortest, decimal_has_no_leading_zero}

-- a number's shortest spelling is a numeral with its value
pub decimal_is_read : (most n : ℕ) → n < 10 ^ 64 → length (decimal n) ≤ most → IsRead most (decimal n) n
decimal_is_read most n small fits =
    let is = decimal_is_IsNumeral_wide n small in
    record { nonempty = is.0.0; fits = fits; digits = own.from (decimal n) is.0.1; value_is = is.1 }

-- with no leading zero, a text of one byte or a first byte other than `0`
first_byte : (text : List ℕ) → has_leading_zero text ≡ false → 1 < length text → get_or text 0 0 ≢ 48
first_byte text none long e = true≢false (sym (and_from (eqb (get_or text 0 0) 48) (ltb 1 (length text)) (eq-eqb (get_or text 0 0) 48 e) (lt-ltb 1 (length text) long)) ∙ none)

pub shortest_text : (most : ℕ) (text : List ℕ) (n : ℕ) → most ≤ 63 → has_leading_zero text ≡ false → IsRead most text n → text ≡ decimal n
shortest_text most text n few none is =
    let k : ℕ = length text - 1 in
    let long : length text ≡ suc k = omega (arith, is.nonempty) in
    sym (shortest k text (omega (arith, is.nonempty, is.fits)) long is.digits (λ more. first_byte text none (omega arith))) ∙ ap decimal is.value_is

not_leading : (text : List ℕ) (n : ℕ) → count_of text ≡ Some n → (has_leading_zero text ≡ false) × (numeral_of 23 text ≡ Some n)
not_leading text n e = go (has_leading_zero text) refl where
  go : (b : Bool) → has_leading_zero text ≡ b → (has_leading_zero text ≡ false) × (numeral_of 23 text ≡ Some n)
  go true is = absurd (none-some n (rw is at e))
  go false is = (is, rw is at e)

count-from : (text : List ℕ) (n : ℕ) → count_of text ≡ Some n → (n < 10 ^ 23) × (text ≡ decimal n)
count-from text n e =
    let parts = not_leading text n e in
    let is = read-from 23 text n parts.1 in
    let small : digits_value 10 text < 10 ^ 23 = value_short text 23 is.digits is.fits in
    (rw (← is.value_is) small, shortest_text 23 text n (omega arith) parts.0 is)

count-decimal : (n : ℕ) → n < 10 ^ 23 → count_of (decimal n) ≡ Some n
count-decimal n small =
    let wide : n < 10 ^ 64 = omega arith in
    rw (decimal_has_no_leading_zero n wide) (read-to 23 (decimal n) n (decimal_is_read 23 n wide (length-decimal-le_wide 23 n (omega arith) small wide)))

pub counts_are_shortest : CountsAreShortest
counts_are_shortest text n = (count-from text n, λ h. rw h.1 (count-decimal n h.0))

-- a byte that begins a text of digits is not `-`
first_is_digit : (c : ℕ) (cs : List ℕ) → all_ascii_digits (c ∷ cs) ≡ true → eqb c 45 ≡ false
first_is_digit c cs digits =
    let d = digit_value-of c (and_parts (is_ascii_digit c) (all_ascii_digits cs) digits).0 in
    ne_eqb c 45 (λ e. omega arith)

negative-from : (m : ℕ) (z : ℤ) → negative_of m ≡ Some z → (k : ℕ) × (m ≡ suc k) × (z ≡ negsuc k)
negative-from zero z e = absurd (none-some z e)
negative-from (suc k) z e = (k, refl, sym (same_Some (negsuc k) z e))

minus_text : (c k m : ℕ) (cs : List ℕ) (z : ℤ) → c ≡ 45 → m ≡ suc k → z ≡ negsuc k → m < 10 ^ 23 → cs ≡ decimal m → (unsigned_abs z < 10 ^ 23) × (c ∷ cs ≡ signed_decimal z)
minus_text c k m cs z first above negative small text =
    let others : cs ≡ decimal (suc k) = text ∙ ap decimal above in
    let joined : c ∷ cs ≡ 45 ∷ decimal (suc k) = cc in
    let below : suc k < 10 ^ 23 = omega arith in
    rw negative (below, joined)

signed-from : (text : List ℕ) (z : ℤ) → signed_of text ≡ Some z → (unsigned_abs z < 10 ^ 23) × (text ≡ signed_decimal z)
signed-from [] z e = absurd (none-some z e)
signed-from (c ∷ cs) z e = go (eqb c 45) refl where
  minus : (o : Option ℕ) → count_of cs ≡ o → c ≡ 45 → option_and_then negative_of o ≡ Some z → (unsigned_abs z < 10 ^ 23) × (c ∷ cs ≡ signed_decimal z)
  minus None is first f = absurd (none-some z f)
  minus (Some m) is first f =
      let found = negative-from m z f in
      let count = count-from cs m is in
      minus_text c found.0 m cs z first found.1 found.2 count.0 count.1

  plain : (o : Option ℕ) → count_of (c ∷ cs) ≡ o → option_map pos o ≡ Some z → (unsigned_abs z < 10 ^ 23) × (c ∷ cs ≡ signed_decimal z)
  plain None is f = absurd (none-some z f)
  plain (Some m) is f =
      let count = count-from (c ∷ cs) m is in
      rw (← same_Some (pos m) z f) (count.0, count.1)

  go : (b : Bool) → eqb c 45 ≡ b → (unsigned_abs z < 10 ^ 23) × (c ∷ cs ≡ signed_decimal z)
  go true is = minus (count_of cs) refl (eqb-true c 45 is) (rw is at e)
  go false is = plain (count_of (c ∷ cs)) refl (rw is at e)

signed-plain : (text : List ℕ) (n : ℕ) → all_ascii_digits text ≡ true → count_of text ≡ Some n → signed_of text ≡ Some (pos n)
signed-plain [] n digits e = absurd (none-some n e)
signed-plain (c ∷ cs) n digits e = rw (first_is_digit c cs digits, e) refl

signed-decimal : (z : ℤ) → unsigned_abs z < 10 ^ 23 → signed_of (signed_decimal z) ≡ Some z
signed-decimal (pos n) small =
    let is = decimal_is_IsNumeral_wide n (omega arith) in
    signed-plain (decimal n) n (own.from (decimal n) is.0.1) (count-decimal n small)
signed-decimal (negsuc n) small = rw (count-decimal (suc n) small) refl

pub signed_are_shortest : SignedAreShortest
signed_are_shortest text z = (signed-from text z, λ h. rw h.1 (signed-decimal z h.0))
