-- Numerals, their values, and the shortest spelling.
use Rattle.std.proofs.Common.{◌≡◌, ◌≢◌, ℕ, zero, suc, ◌+◌, ◌-◌, ◌*◌, ◌/◌, ◌%◌, ◌^◌, ◌<◌, ◌≤◌, true, false, ◌&&◌, eqb, ltb, leb, List, [], ◌∷◌, ◌++◌, length, get_or, take, Some, refl, ap, sym, ◌∙◌, inl, inr, arith, zero-add, pow-add}
use Rattle.std.proofs.Math.Seq.{take-suc}
use Rattle.std.proofs.Math.Nat.{mul-lt-mul_of_pos_right, one-le-pow}
use Rattle.std.proofs.lemmas.Bool.{and_parts, ltb-true, leb-true, lt-ltb, le-leb, ne_eqb, cases_lt, and_left}
use Rattle.std.proofs.lemmas.List.{length-append, length-take-le, get_or-take, get_or_append_left, take_all}
use Rattle.std.proofs.lemmas.Option.{cond_some}
use Rattle.std.proofs.lemmas.Fmt.{decimal_digit, decimal_step_wide, decimal_by_steps_wide}
use Rattle.std.proofs.lemmas.Str.Parse.{IsNumeralModel, numerals_by_value, tells_all_ascii_digits, digits_value_short}
use Rattle.std.specs.Fmt.{decimal}
use Rattle.std.specs.Char.{is_ascii_digit}
use Rattle.std.specs.Str.{all_ascii_digits}
use Rattle.std.specs.Str.Parse.{digits_value}
use Rattle.money.specs.Number.{is_numeral, numeral_of, has_leading_zero}
use Rattle.money.proofs.Digits.{digit_value-of, after-append, all_ascii_digits-append}

-- the library's words for numerals are these
pub own : IsNumeralModel (λ ds. all_ascii_digits ds ≡ true) (digits_value 10)
own = numerals_by_value (λ ds. all_ascii_digits ds ≡ true) tells_all_ascii_digits

-- what a text that was read as a numeral is
pub record IsRead (most : ℕ) (text : List ℕ) (n : ℕ) : Type 0 where
  pub nonempty : 0 < length text
  pub fits : length text ≤ most
  pub digits : all_ascii_digits text ≡ true
  pub value_is : digits_value 10 text ≡ n

pub read-from : (most : ℕ) (text : List ℕ) (n : ℕ) → numeral_of most text ≡ Some n → IsRead most text n
read-from most text n e =
    let p = cond_some (is_numeral most text) (digits_value 10 text) n e in
    let q = and_parts (ltb 0 (length text) && leb (length text) most) (all_ascii_digits text) p.0 in
    let r = and_parts (ltb 0 (length text)) (leb (length text) most) q.0 in
    record { nonempty = ltb-true 0 (length text) r.0; fits = leb-true (length text) most r.1; digits = q.1; value_is = p.1 }

pub read-to : (most : ℕ) (text : List ℕ) (n : ℕ) → IsRead most text n → numeral_of most text ≡ Some n
read-to most text n is =
    rw (lt-ltb 0 (length text) is.nonempty, le-leb (length text) most is.fits, is.digits, is.value_is) refl

-- a numeral is below the power of its length
pub value_short : (text : List ℕ) (k : ℕ) → all_ascii_digits text ≡ true → length text ≤ k → digits_value 10 text < 10 ^ k
value_short text k digits few = digits_value_short own text k digits few

pub numeral_bound : (most : ℕ) (text : List ℕ) (n : ℕ) → numeral_of most text ≡ Some n → n < 10 ^ length text
numeral_bound most text n e = let is = read-from most text n e in rw (← is.value_is) (value_short text (length text) is.digits (omega arith))

-- the last byte, taken off
pub record HasLast (text front : List ℕ) (c : ℕ) : Type 0 where
  pub joined : text ≡ front ++ (c ∷ [])
  pub front_digits : all_ascii_digits front ≡ true
  pub last_digit : is_ascii_digit c ≡ true
  pub value_is : digits_value 10 text ≡ digits_value 10 front * 10 + (c - 48)

last_of : (text : List ℕ) (k : ℕ) → length text ≡ suc k → all_ascii_digits text ≡ true → HasLast text (take k text) (get_or text k 0)
last_of text k long digits =
    let front : List ℕ = take k text in
    let c : ℕ = get_or text k 0 in
    let joined : text ≡ front ++ (c ∷ []) = sym (take_all (suc k) text (omega arith)) ∙ take-suc text k 0 (omega arith) in
    let whole : (all_ascii_digits front && all_ascii_digits (c ∷ [])) ≡ true = sym (all_ascii_digits-append front (c ∷ [])) ∙ (sym (ap all_ascii_digits joined) ∙ digits) in
    let parts = and_parts (all_ascii_digits front) (all_ascii_digits (c ∷ [])) whole in
    let last = and_parts (is_ascii_digit c) true parts.1 in
    let d = digit_value-of c last.0 in
    record {
      joined = joined;
      front_digits = parts.0;
      last_digit = last.0;
      value_is = ap (digits_value 10) joined ∙ (after-append 0 front (c ∷ []) ∙ ap (λ v. digits_value 10 front * 10 + v) d.0);
    }

not_zero : (n : ℕ) → (n ≡ 0 → ⊥) → 0 < n
not_zero n ne = elim (cases_lt 0 n) [ inl above ↦ above | inr none ↦ absurd (ne (omega arith)) ]

-- digits with no leading zero are the shortest spelling of their value
pub shortest : (k : ℕ) (text : List ℕ) → k < 63 → length text ≡ suc k → all_ascii_digits text ≡ true → (0 < k → get_or text 0 0 ≢ 48) → decimal (digits_value 10 text) ≡ text
shortest zero text few long digits first =
    let last = last_of text 0 long digits in
    let c : ℕ = get_or text 0 0 in
    let d = digit_value-of c last.last_digit in
    let one : digits_value 10 text ≡ c - 48 = last.value_is ∙ zero-add (c - 48) in
    let back : 48 + (c - 48) ≡ c = omega arith in
    rw one (decimal_digit (c - 48) (omega arith) ∙ (ap (λ x. x ∷ []) back ∙ sym last.joined))
shortest (suc k) text few long digits first =
    let front : List ℕ = take (suc k) text in
    let c : ℕ = get_or text (suc k) 0 in
    let last = last_of text (suc k) long digits in
    let d = digit_value-of c last.last_digit in
    let front_long : length front ≡ suc k = length-take-le (suc k) text (omega arith) in
    let same_first : get_or front 0 0 ≡ get_or text 0 0 = get_or-take (suc k) text 0 0 (omega arith) in
    let front_first : get_or front 0 0 ≢ 48 = λ e. first (omega arith) (sym same_first ∙ e) in
    let front_is : decimal (digits_value 10 front) ≡ front = shortest k front (omega arith) front_long last.front_digits (λ _. front_first) in
    let above : 0 < digits_value 10 front = not_zero (digits_value 10 front) (λ z. front_first (ap (λ t. get_or t 0 0) (sym front_is ∙ (ap decimal z ∙ decimal_digit 0 (omega arith))))) in
    let small : digits_value 10 text < 10 ^ 64 = value_short text 64 digits (omega arith) in
    let v : ℕ = digits_value 10 text in
    let tens : v / 10 ≡ digits_value 10 front = omega (arith, last.value_is) in
    let ones : v % 10 ≡ c - 48 = omega (arith, last.value_is) in
    let back : 48 + (c - 48) ≡ c = omega arith in
    decimal_step_wide v (omega (arith, last.value_is)) small ∙ (rw (tens, ones, back, front_is) (sym last.joined))

-- a number's shortest spelling has no leading zero
pub record IsShortest (n : ℕ) (text : List ℕ) : Type 0 where
  pub nonempty : 0 < length text
  pub first : 0 < n → get_or text 0 0 ≢ 48
  pub alone : n ≡ 0 → text ≡ 48 ∷ []

pub decimal_is_shortest : (n : ℕ) → n < 10 ^ 64 → IsShortest n (decimal n)
decimal_is_shortest n small = decimal_by_steps_wide IsShortest
    (λ m h. record { nonempty = omega arith; first = λ p. omega arith; alone = λ e. rw e refl })
    (λ m ds h is. record {
      nonempty = rw (length-append ds ((48 + m % 10) ∷ [])) (omega arith);
      first = λ p e. is.first (omega arith) (sym (get_or_append_left ds ((48 + m % 10) ∷ []) 0 0 is.nonempty) ∙ e);
      alone = λ e. absurd (omega arith);
    })
    n small

pub decimal_has_no_leading_zero : (n : ℕ) → n < 10 ^ 64 → has_leading_zero (decimal n) ≡ false
decimal_has_no_leading_zero n small =
    let is = decimal_is_shortest n small in
    elim (cases_lt 0 n) [
      | inl above ↦ and_left (eqb (get_or (decimal n) 0 0) 48) (ltb 1 (length (decimal n))) (ne_eqb (get_or (decimal n) 0 0) 48 (is.first above))
      | inr none ↦ rw (is.alone (omega arith)) refl
    ]

-- at most six digits, filled up to six, stay below a million
pub fraction_bound : (digits : List ℕ) (n : ℕ) → numeral_of 6 digits ≡ Some n → n * 10 ^ (6 - length digits) < 1000000
fraction_bound digits n e =
    let is = read-from 6 digits n e in
    let small : n < 10 ^ length digits = numeral_bound 6 digits n e in
    let more : n * 10 ^ (6 - length digits) < 10 ^ length digits * 10 ^ (6 - length digits) = mul-lt-mul_of_pos_right small (one-le-pow (6 - length digits) 10 (omega arith)) in
    let joined : 10 ^ length digits * 10 ^ (6 - length digits) ≡ 10 ^ 6 = let six : length digits + (6 - length digits) ≡ 6 = omega (arith, is.fits) in sym (pow-add 10 (length digits) (6 - length digits)) ∙ ap (λ k. 10 ^ k) six in
    omega arith
