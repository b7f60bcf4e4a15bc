-- The prices of a list that are within the limit, and what the code reads of them.
use Rattle.std.proofs.Common.{ℕ, ◌≡◌, ◌*◌, min, ℤ, pos, neg_ℤ, ◌-ℤ◌, List, length, get_or, arith, inl, inr, refl}
use Rattle.std.specs.List.{All}
use Rattle.std.specs.Int.{int_min}
use Rattle.std.proofs.lemmas.Bool.{cases_lt}
use Rattle.std.proofs.lemmas.Int.{ints, to_z-of_z}
use Rattle.std.proofs.lemmas.List.{get_or_past}
use Rattle.std.proofs.lemmas.List.Elements.{All-get_or}
use mir.Syntax.{w64}
use mir.Val.{SFits, to_z, of_z}
use Rattle.bound_tree.specs.Prices.{price_at, IsPrice}
use Rattle.bound_tree.specs.Value.{cap, least_gain}
use Rattle.tqd_instance.specs.declared.job.Job.{Job}
use Rattle.tqd_instance.specs.Job.{stock, most}
use Rattle.bound_tree.proofs.Signed.{least_gain-is}

zero_is : IsPrice (pos 0)
zero_is = record { not_less = omega (arith, ints); not_more = omega (arith, ints) }

-- the price at a place, and 0 past the end, is within the limit
pub price_in : (prices : List ℤ) (at : ℕ) → All IsPrice prices → IsPrice (price_at prices at)
unfolding price_at
price_in prices at all = elim (cases_lt at (length prices)) [
  | inl below ↦ All-get_or IsPrice prices at (pos 0) below all
  | inr past ↦ rw (get_or_past prices at (pos 0) past) zero_is
]

pub price_fits : (z : ℤ) → IsPrice z → SFits w64 z
price_fits z p =
    let l = p.not_less in
    let m = p.not_more in
    omega (arith, ints)

read_is : (prices : List ℤ) (at : ℕ) → get_or prices at (pos 0) ≡ price_at prices at
unfolding price_at
read_is prices at = refl

-- what the code reads at a place
pub price_read : (prices : List ℤ) (at : ℕ) → All IsPrice prices → to_z w64 (of_z w64 (get_or prices at (pos 0))) ≡ price_at prices at
price_read prices at all = rw (read_is prices at) (to_z-of_z w64 (price_at prices at) (price_fits (price_at prices at) (price_in prices at all)))

-- the gain of a unit as the code has it
pub gain_computed : (cap charge s cap' charge' s' : ℕ) (g h g' h' : ℤ) → cap' ≡ cap → charge' ≡ charge → s' ≡ s → g' ≡ g → h' ≡ h
    → neg_ℤ (pos s) ≡ int_min (pos 0) (pos charge' -ℤ g' -ℤ h') → least_gain cap charge g h ≡ neg_ℤ (pos (cap' * s'))
gain_computed cap charge s cap' charge' s' g h g' h' c a t e f v =
    rw (c, t) (least_gain-is cap charge s g h (rw (a, e, f) at v))

-- the units that may be bought of a good as the code has them
pub units_are : (job : Job) (i k a b m u : ℕ) → a ≡ stock job i k → b ≡ most job k → m ≡ min a b → u ≡ m → u ≡ cap job i k
unfolding cap
units_are job i k a b m u s t e f = omega (arith, s, t, e, f)
