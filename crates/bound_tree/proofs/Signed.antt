-- Signed numbers as differences of natural ones, their products, and what the code computes of them.
use Rattle.std.proofs.Common.{ℕ, suc, zero, ◌≡◌, ◌*◌, ◌^◌, ◌<◌, ◌≤◌, ℤ, pos, negsuc, neg_ℤ, ◌+ℤ◌, ◌-ℤ◌, ◌*ℤ◌, ◌≤ℤ◌, int_lt, if◌then◌else◌, false, ◌∙◌, arith}
use Rattle.std.specs.Int.{int_min, int_max}
use Rattle.std.specs.Int.RustNames.{unsigned_abs}
use Rattle.std.proofs.lemmas.Int.{ints, clamps, to_z-of_z, fits_signed_mul}
use Rattle.std.proofs.lemmas.Nat.{mul-le}
use lib.IntN.{pos-*ℤ-pos, negsuc-*ℤ-pos, pos-*ℤ-negsuc}
use borrow.Author.Differences.{up, down}
use mir.Syntax.{w128}
use mir.Val.{SFits, to_z, of_z}
use Rattle.bound_tree.specs.Prices.{IsPrice}
use Rattle.bound_tree.specs.Value.{least_times, least_gain}

pub up_le : (z : ℤ) (d : ℕ) → z ≤ℤ pos d → up z ≤ d
up_le (pos n) d h = omega (arith, ints)
up_le (negsuc n) d h = omega arith

pub down_le : (z : ℤ) (d : ℕ) → neg_ℤ (pos d) ≤ℤ z → down z ≤ d
down_le (pos n) d h = omega arith
down_le (negsuc n) d h = omega (arith, ints)

pub abs_le : (z : ℤ) (d : ℕ) → neg_ℤ (pos d) ≤ℤ z → z ≤ℤ pos d → unsigned_abs z ≤ d
abs_le (pos n) d l h = omega (arith, ints)
abs_le (negsuc n) d l h = omega (arith, ints)

not_below : (n : ℕ) → int_lt (pos n) (pos 0) ≡ false
not_below n = grind (arith, ints)

-- the least of z times a number, as a difference
pub least_times-is : (z : ℤ) (low high : ℕ) → least_times z low high ≡ pos (up z * low) -ℤ pos (down z * high)
unfolding least_times
least_times-is (pos n) low high = rw (not_below n) (pos-*ℤ-pos n low) ∙ (let g : pos (n * low) ≡ pos (n * low) -ℤ pos (0 * high) = omega (arith, ints) in g)
least_times-is (negsuc n) low high =
    negsuc-*ℤ-pos n high ∙ (let g : neg_ℤ (pos (suc n * high)) ≡ pos (0 * low) -ℤ pos (suc n * high) = omega (arith, ints) in g)

-- it is no more than z times any number between
pub least_times-le : (z : ℤ) (low high n : ℕ) → low ≤ n → n ≤ high → (least_times z low high +ℤ pos (down z * n)) ≤ℤ pos (up z * n)
least_times-le z low high n from to =
    let a = mul-le (up z) low (up z) n (omega arith) from in
    let b = mul-le (down z) n (down z) high (omega arith) to in
    let e = least_times-is z low high in
    omega (arith, ints)

-- how far it is from 0
pub least_times-bound : (z : ℤ) (low high d m : ℕ) → neg_ℤ (pos d) ≤ℤ z → z ≤ℤ pos d → low ≤ m → high ≤ m
    → (neg_ℤ (pos (d * m)) ≤ℤ least_times z low high) × (least_times z low high ≤ℤ pos (d * m))
least_times-bound z low high d m not_less not_more l h =
    let a = mul-le (up z) low d m (up_le z d not_more) l in
    let b = mul-le (down z) high d m (down_le z d not_less) h in
    let e = least_times-is z low high in
    (omega (arith, ints), omega (arith, ints))

-- what the code gives for a product of a signed number and a natural one
pub product : (r s z : ℤ) (u d m : ℕ) → r ≡ z → s ≡ pos u → unsigned_abs z ≤ d → u ≤ m → d * m < 2 ^ 127 → SFits w128 r → SFits w128 s
    → to_z w128 (of_z w128 (to_z w128 (of_z w128 r) *ℤ to_z w128 (of_z w128 s))) ≡ z *ℤ pos u
product r s z u d m e f small few fits fit_r fit_s =
    let left : to_z w128 (of_z w128 r) ≡ z = to_z-of_z w128 r fit_r ∙ e in
    let right : to_z w128 (of_z w128 s) ≡ pos u = to_z-of_z w128 s fit_s ∙ f in
    rw (left, right) (to_z-of_z w128 (z *ℤ pos u) (fits_signed_mul w128 z (pos u) d m small few fits))

-- what the code gives for the least of a price times a number
pub least_times-computed : (r s z : ℤ) (u low high : ℕ) → IsPrice z → low ≤ 6400000000 → high ≤ 6400000000
    → r ≡ z → s ≡ pos u → u ≡ (if int_lt z (pos 0) then high else low) → SFits w128 r → SFits w128 s
    → to_z w128 (of_z w128 (to_z w128 (of_z w128 r) *ℤ to_z w128 (of_z w128 s))) ≡ least_times z low high
unfolding least_times
least_times-computed r s z u low high p l h e f is fit_r fit_s =
    let few : u ≤ 6400000000 = grind (arith, ints) in
    rw (← is) (product r s z u 4000000000000000 6400000000 e f (abs_le z 4000000000000000 p.not_less p.not_more) few (omega arith) fit_r fit_s)

pub price_times-bound : (z : ℤ) (low high : ℕ) → IsPrice z → low ≤ 6400000000 → high ≤ 6400000000
    → (neg_ℤ (pos 25600000000000000000000000) ≤ℤ least_times z low high) × (least_times z low high ≤ℤ pos 25600000000000000000000000)
price_times-bound z low high p l h = least_times-bound z low high 4000000000000000 6400000000 p.not_less p.not_more l h

-- what the code gives for a saving
pub saving-computed : (m g h : ℤ) (charge : ℕ) → m ≡ int_max (g +ℤ h -ℤ pos charge) (pos 0) → neg_ℤ (pos (up m)) ≡ int_min (pos 0) (pos charge -ℤ g -ℤ h)
saving-computed (pos n) g h charge e = omega (arith, ints, clamps)
saving-computed (negsuc n) g h charge e = absurd (omega (arith, ints, clamps))

-- the gain of a unit, so often
pub least_gain-is : (cap charge s : ℕ) (g h : ℤ) → neg_ℤ (pos s) ≡ int_min (pos 0) (pos charge -ℤ g -ℤ h) → least_gain cap charge g h ≡ neg_ℤ (pos (cap * s))
unfolding least_gain
least_gain-is cap charge s g h e = rw (← e) (times_neg cap s)
  where
    times_neg : (c n : ℕ) → pos c *ℤ neg_ℤ (pos n) ≡ neg_ℤ (pos (c * n))
    times_neg c zero = pos-*ℤ-pos c 0 ∙ (let g : pos (c * 0) ≡ neg_ℤ (pos (c * 0)) = omega (arith, ints) in g)
    times_neg c (suc n) = pos-*ℤ-negsuc c n
