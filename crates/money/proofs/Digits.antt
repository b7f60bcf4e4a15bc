-- Reading decimal digits from the left.
use Rattle.std.proofs.Common.{◌≡◌, ℕ, zero, suc, ◌+◌, ◌-◌, ◌*◌, ◌^◌, ◌<◌, ◌≤◌, Bool, true, false, ◌&&◌, List, [], ◌∷◌, ◌++◌, length, get_or, take, refl, arith, add-one}
use Rattle.std.proofs.Math.Seq.{take-suc}
use Rattle.std.proofs.Math.Nat.{pow-le-pow_right}
use Rattle.std.proofs.lemmas.Grind.{pow_more}
use Rattle.std.proofs.lemmas.Bool.Decides.{nat_tests}
use Rattle.std.specs.Char.{is_ascii_digit, digit_value}
use Rattle.std.specs.Str.{all_ascii_digits}
use Rattle.std.specs.Str.Parse.{digits_value, digits_value_after}

-- a digit's byte is its value above `0`
pub digit_value-of : (c : ℕ) → is_ascii_digit c ≡ true → (digit_value c ≡ c - 48) × (digit_value c < 10) × (48 ≤ c)
digit_value-of c digit = grind (arith, nat_tests)

pub after-append : (n : ℕ) (xs ys : List ℕ) → digits_value_after 10 n (xs ++ ys) ≡ digits_value_after 10 (digits_value_after 10 n xs) ys
after-append n [] ys = refl
after-append n (x ∷ xs) ys = after-append (n * 10 + digit_value x) xs ys

pub and-assoc : (a b c : Bool) → (a && (b && c)) ≡ ((a && b) && c)
and-assoc true b c = refl
and-assoc false b c = refl

pub and-false : (a : Bool) → (a && false) ≡ false
and-false true = refl
and-false false = refl

pub all_ascii_digits-append : (xs ys : List ℕ) → all_ascii_digits (xs ++ ys) ≡ (all_ascii_digits xs && all_ascii_digits ys)
all_ascii_digits-append [] ys = refl
all_ascii_digits-append (x ∷ xs) ys = rw (all_ascii_digits-append xs ys) (and-assoc (is_ascii_digit x) (all_ascii_digits xs) (all_ascii_digits ys))

-- the first i bytes are digits, and this is their value
pub record ReadUpTo (text : List ℕ) (i value : ℕ) : Type 0 where
  pub digits : all_ascii_digits (take i text) ≡ true
  pub value_is : value ≡ digits_value 10 (take i text)
  pub bound : value < 10 ^ i

pub start : (text : List ℕ) → ReadUpTo text 0 0
start text = record { digits = refl; value_is = refl; bound = omega arith }

one_digit : (c : ℕ) → is_ascii_digit c ≡ true → all_ascii_digits (c ∷ []) ≡ true
one_digit c digit = rw digit refl

pub step : (text : List ℕ) (i value : ℕ) → i < length text → is_ascii_digit (get_or text i 0) ≡ true → ReadUpTo text i value → ReadUpTo text (i + 1) (value * 10 + (get_or text i 0 - 48))
step text i value inside digit so_far =
    let c : ℕ = get_or text i 0 in
    let d = digit_value-of c digit in
    let grows : take (i + 1) text ≡ take i text ++ (c ∷ []) = rw add-one (take-suc text i 0 inside) in
    record {
      digits = rw (grows, all_ascii_digits-append (take i text) (c ∷ []), so_far.digits) (one_digit c digit);
      value_is = rw (grows, after-append 0 (take i text) (c ∷ []), ← so_far.value_is) (omega arith);
      bound = let next : 10 ^ (i + 1) ≡ 10 ^ i * 10 = pow_more 10 i in let small : value < 10 ^ i = so_far.bound in omega arith;
    }

pub not_all_digits : (text : List ℕ) (i : ℕ) → i < length text → is_ascii_digit (get_or text i 0) ≡ false → all_ascii_digits text ≡ false
not_all_digits [] i inside other = absurd (omega arith)
not_all_digits (c ∷ cs) zero inside other = rw other refl
not_all_digits (c ∷ cs) (suc i) inside other = rw (not_all_digits cs i (omega arith) other) (and-false (is_ascii_digit c))

-- a number of at most 22 digits has room for one more in a `u128`
pub room : (i value : ℕ) → i < 23 → value < 10 ^ i → value * 10 + 9 < 2 ^ 128
room i value few small = let most : 10 ^ i ≤ 10 ^ 22 = pow-le-pow_right {n = 10} (omega arith) {i = i} {j = 22} (omega arith) in omega arith
