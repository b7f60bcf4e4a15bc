-- Signed sums and products as differences of natural numbers.
use Rattle.std.proofs.Common.{ℕ, suc, zero, ◌≡◌, ◌+◌, ◌-◌, ◌*◌, ◌<◌, ℤ, pos, negsuc, neg_ℤ, ◌+ℤ◌, ◌-ℤ◌, ◌*ℤ◌, ◌∙◌, ap, arith}
use Rattle.std.specs.Int.{int_max}
use Rattle.std.proofs.lemmas.Int.{ints, clamps}
use Rattle.std.proofs.Math.Nat.{mul-add}
use lib.IntN.{pos-*ℤ-pos, pos-*ℤ-negsuc}
use borrow.Author.Differences.{up, down}
use Rattle.tqd_base.specs.Sum.{sum_to, signed_sum_to}
use Rattle.tqd_instance.proofs.SumLemmas.{sum_to-zero, sum_to-suc}
use Rattle.bound_tree.proofs.SignedSums.{signed_sum_to-zero, signed_sum_to-suc}
use Rattle.lagrangian.specs.declared.offer.TheConstants.{ZERO}

-- a sum of differences is the difference of the sums
pub signed_sum_to-difference : (n : ℕ) (f : ℕ → ℤ) (a b : ℕ → ℕ) → ((k : ℕ) → k < n → f k ≡ pos (a k) -ℤ pos (b k))
    → signed_sum_to n f ≡ pos (sum_to n a) -ℤ pos (sum_to n b)
signed_sum_to-difference zero f a b each = omega (arith, ints, signed_sum_to-zero f, sum_to-zero a, sum_to-zero b)
signed_sum_to-difference (suc n) f a b each =
    let rest = signed_sum_to-difference n f a b (λ k below. each k (omega arith)) in
    let last = each n (omega arith) in
    omega (arith, ints, signed_sum_to-suc n f, sum_to-suc n a, sum_to-suc n b)

pub signed_sum_to-negative : (n : ℕ) (f : ℕ → ℤ) (a : ℕ → ℕ) → ((k : ℕ) → k < n → f k ≡ neg_ℤ (pos (a k)))
    → signed_sum_to n f ≡ neg_ℤ (pos (sum_to n a))
signed_sum_to-negative zero f a each = omega (arith, ints, signed_sum_to-zero f, sum_to-zero a)
signed_sum_to-negative (suc n) f a each =
    let rest = signed_sum_to-negative n f a (λ k below. each k (omega arith)) in
    let last = each n (omega arith) in
    omega (arith, ints, signed_sum_to-suc n f, sum_to-suc n a)

-- so many units at a price that is a difference
pub times_difference : (u : ℕ) (z : ℤ) (a b : ℕ) → z ≡ pos a -ℤ pos b → pos u *ℤ z ≡ pos (u * a) -ℤ pos (u * b)
times_difference u (pos n) a b e =
    let is : a ≡ b + n = omega (arith, ints) in
    pos-*ℤ-pos u n ∙ (let g : pos (u * n) ≡ pos (u * a) -ℤ pos (u * b) = omega (arith, ints, ap (λ m. u * m) is, mul-add u b n) in g)
times_difference u (negsuc n) a b e =
    let is : b ≡ a + suc n = omega (arith, ints) in
    pos-*ℤ-negsuc u n ∙ (let g : neg_ℤ (pos (u * suc n)) ≡ pos (u * a) -ℤ pos (u * b) = omega (arith, ints, ap (λ m. u * m) is, mul-add u a (suc n)) in g)

-- a place's price as a level
pub up_is : (z : ℤ) (level : ℕ) → pos level ≡ pos ZERO +ℤ z → up z ≡ level - ZERO
up_is (pos n) level e = omega (arith, ints)
up_is (negsuc n) level e = omega (arith, ints)

pub down_is : (z : ℤ) (level : ℕ) → pos level ≡ pos ZERO +ℤ z → down z ≡ ZERO - level
down_is (pos n) level e = omega (arith, ints)
down_is (negsuc n) level e = omega (arith, ints)

-- what is above 0 of a price, and of a price with the other sign
pub up_of : (z : ℤ) (n : ℕ) → pos n ≡ int_max z (pos 0) → n ≡ up z
up_of (pos m) n e = omega (arith, ints, clamps)
up_of (negsuc m) n e = omega (arith, ints, clamps)

pub down_of : (z : ℤ) (n : ℕ) → pos n ≡ int_max (neg_ℤ z) (pos 0) → n ≡ down z
down_of (pos m) n e = omega (arith, ints, clamps)
down_of (negsuc m) n e = omega (arith, ints, clamps)
