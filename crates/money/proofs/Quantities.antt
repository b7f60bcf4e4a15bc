-- The texts of quantities are the shortest spellings with zeros before them.
use Rattle.std.proofs.Common.{◌≡◌, ℕ, zero, suc, ◌^◌, ◌<◌, ◌≤◌, true, ◌&&◌, eqb, ltb, leb, List, [], ◌∷◌, ◌++◌, length, replicate, Some, refl, ap, ◌∙◌, inl, inr, arith}
use Rattle.std.proofs.lemmas.Bool.{and_parts, leb-true, le-leb, cases_eq, ne_eqb, and_left}
use Rattle.std.proofs.lemmas.List.{length-append}
use Rattle.std.proofs.lemmas.Option.{cond_some, option_and_then_some}
use Rattle.std.proofs.lemmas.Fmt.{decimal_is_IsNumeral_wide}
use Rattle.std.specs.Fmt.{decimal}
use Rattle.std.specs.Char.{is_ascii_digit}
use Rattle.std.specs.Str.{all_ascii_digits}
use Rattle.std.specs.Str.Parse.{digits_value}
use Rattle.money.specs.Number.{numeral_of, within, qty_of}
use Rattle.money.specs.Laws.{QuantitiesMayBePadded}
use Rattle.money.proofs.Digits.{and-false}
use Rattle.money.proofs.Numerals.{own, IsRead, read-from, read-to}
use Rattle.money.proofs.Counts.{shortest_text}

pub within-from : (least greatest n m : ℕ) → within least greatest n ≡ Some m → (least ≤ m) × (m ≤ greatest) × (n ≡ m)
within-from least greatest n m e =
    let p = cond_some (leb least n && leb n greatest) n m e in
    let q = and_parts (leb least n) (leb n greatest) p.0 in
    let low = leb-true least n q.0 in
    let high = leb-true n greatest q.1 in
    let same : n ≡ m = p.1 in
    (omega arith, omega arith, same)

pub within-to : (least greatest n : ℕ) → least ≤ n → n ≤ greatest → within least greatest n ≡ Some n
within-to least greatest n low high = rw (le-leb least n low, le-leb n greatest high) refl

first_zero : (c d : ℕ) (ds : List ℕ) (n : ℕ) → c ≡ 48 → digits_value 10 (c ∷ d ∷ ds) ≡ n → digits_value 10 (d ∷ ds) ≡ n
first_zero c d ds n first value = rw first at value

one_more : (c : ℕ) (cs : List ℕ) (count n : ℕ) → c ≡ 48 → cs ≡ replicate count 48 ++ decimal n → c ∷ cs ≡ replicate (suc count) 48 ++ decimal n
one_more c cs count n first others = rw (first, others) refl

-- digits are some zeros and the shortest spelling of their value
padded : (text : List ℕ) (n : ℕ) → IsRead 63 text n → (zeros : ℕ) × (text ≡ replicate zeros 48 ++ decimal n)
padded [] n is = absurd (omega (arith, is.nonempty))
padded (c ∷ []) n is = (0, shortest_text 63 (c ∷ []) n (omega arith) (and-false (eqb c 48)) is)
padded (c ∷ d ∷ ds) n is = elim (cases_eq c 48) [
  | inl zero_first ↦
      let parts = and_parts (is_ascii_digit c) (all_ascii_digits (d ∷ ds)) is.digits in
      let value : digits_value 10 (d ∷ ds) ≡ n = first_zero c d ds n zero_first is.value_is in
      let tail = padded (d ∷ ds) n (record { nonempty = omega arith; fits = omega (arith, is.fits); digits = parts.1; value_is = value }) in
      (suc tail.0, one_more c (d ∷ ds) tail.0 n zero_first tail.1)
  | inr other ↦ (0, shortest_text 63 (c ∷ d ∷ ds) n (omega arith) (and_left (eqb c 48) (ltb 1 (length (c ∷ d ∷ ds))) (ne_eqb c 48 other)) is)
]

-- zeros before digits are digits, and change no value
zeros-digits : (zeros : ℕ) (ds : List ℕ) → all_ascii_digits ds ≡ true → all_ascii_digits (replicate zeros 48 ++ ds) ≡ true
zeros-digits zero ds digits = digits
zeros-digits (suc zeros) ds digits = zeros-digits zeros ds digits

zeros-value : (zeros : ℕ) (ds : List ℕ) → digits_value 10 (replicate zeros 48 ++ ds) ≡ digits_value 10 ds
zeros-value zero ds = refl
zeros-value (suc zeros) ds = zeros-value zeros ds

qty-from : (least greatest : ℕ) (text : List ℕ) (n : ℕ) → qty_of least greatest text ≡ Some n
    → (least ≤ n) × (n ≤ greatest) × (length text ≤ 18) × ((zeros : ℕ) × (text ≡ replicate zeros 48 ++ decimal n))
qty-from least greatest text n e = option_and_then_some (within least greatest) (numeral_of 18 text) n e (λ m read bounds.
    let inside = within-from least greatest m n bounds in
    let is = read-from 18 text m read in
    (inside.0, inside.1, is.fits, padded text n (record { nonempty = is.nonempty; fits = omega (arith, is.fits); digits = is.digits; value_is = is.value_is ∙ inside.2 })))

qty-to : (least greatest zeros n : ℕ) (text : List ℕ) → n < 10 ^ 64 → least ≤ n → n ≤ greatest → length text ≤ 18 → text ≡ replicate zeros 48 ++ decimal n → qty_of least greatest text ≡ Some n
qty-to least greatest count n text wide low high fits form =
    let is = decimal_is_IsNumeral_wide n wide in
    let long = length-append (replicate count 48) (decimal n) in
    let read : IsRead 18 text n = record {
      nonempty = omega (arith, ap length form, is.0.0);
      fits = fits;
      digits = rw form (zeros-digits count (decimal n) (own.from (decimal n) is.0.1));
      value_is = rw form (zeros-value count (decimal n) ∙ is.1);
    } in
    rw (read-to 18 text n read) (within-to least greatest n low high)

pub quantities_may_be_padded : QuantitiesMayBePadded
quantities_may_be_padded least greatest text n small = (qty-from least greatest text n, λ h. qty-to least greatest h.3.0 n text (omega (arith, h.1)) h.0 h.1 h.2 h.3.1)
