-- What the code reads of prices and worths, and levels as it computes them.
use Rattle.std.proofs.Common.{ℕ, ◌≡◌, ◌+◌, ◌<◌, ◌≤◌, true, false, ℤ, pos, negsuc, ◌+ℤ◌, ◌-ℤ◌, ◌≤ℤ◌, List, length, get_or, ap, arith, refl, inl, inr}
use Rattle.std.specs.List.{All}
use Rattle.std.specs.Int.RustNames.{unsigned_abs}
use Rattle.std.proofs.lemmas.Bool.{cases_lt}
use Rattle.std.proofs.lemmas.Int.{ints, to_z-of_z}
use Rattle.std.proofs.lemmas.List.{get_or_past}
use Rattle.std.proofs.lemmas.List.Elements.{All-get_or}
use mir.Syntax.{w64, w128}
use lib.Signed.{lt_z, ◌<ℤ◌}
use mir.Val.{SFits, to_z, of_z}
use Rattle.tqd_instance.specs.declared.job.Job.{Job}
use Rattle.tqd_instance.specs.Job.{suppliers, segments, price}
use Rattle.tqd_instance.proofs.Jobs.{job_in_range}
use Rattle.bound_tree.specs.Prices.{price_at}
use Rattle.lagrangian.specs.declared.offer.TheConstants.{ZERO, TOP}
use Rattle.lagrangian.specs.Priced.{IsGoodPrice, AreGoodPrices, IsWorth, level_of}

pub good_zero : IsGoodPrice (pos 0)
good_zero = record { not_less = omega (arith, ints); not_more = omega (arith, ints) }

worth_zero : IsWorth (pos 0)
worth_zero = record { not_less = omega (arith, ints); not_more = omega (arith, ints) }

-- the number at a place, and 0 past the end, is in range
pub good_in : (prices : List ℤ) (k : ℕ) → All IsGoodPrice prices → IsGoodPrice (price_at prices k)
unfolding price_at
good_in prices k all = elim (cases_lt k (length prices)) [
  | inl below ↦ All-get_or IsGoodPrice prices k (pos 0) below all
  | inr past ↦ rw (get_or_past prices k (pos 0) past) good_zero
]

pub worth_in : (worths : List ℤ) (j : ℕ) → All IsWorth worths → IsWorth (price_at worths j)
unfolding price_at
worth_in worths j all = elim (cases_lt j (length worths)) [
  | inl below ↦ All-get_or IsWorth worths j (pos 0) below all
  | inr past ↦ rw (get_or_past worths j (pos 0) past) worth_zero
]

good_fits : (z : ℤ) → IsGoodPrice z → SFits w64 z
good_fits z p =
    let l = p.not_less in
    let m = p.not_more in
    omega (arith, ints)

pub worth_fits : (z : ℤ) → IsWorth z → SFits w128 z
worth_fits z p =
    let l = p.not_less in
    let m = p.not_more in
    omega (arith, ints)

-- what the code reads
read_is : (prices : List ℤ) (k : ℕ) → get_or prices k (pos 0) ≡ price_at prices k
unfolding price_at
read_is prices k = refl

pub good_read : (prices : List ℤ) (k : ℕ) → All IsGoodPrice prices → to_z w64 (of_z w64 (get_or prices k (pos 0))) ≡ price_at prices k
good_read prices k all = rw (read_is prices k) (to_z-of_z w64 (price_at prices k) (good_fits (price_at prices k) (good_in prices k all)))

pub worth_read : (worths : List ℤ) (j : ℕ) → All IsWorth worths → to_z w128 (of_z w128 (get_or worths j (pos 0))) ≡ price_at worths j
worth_read worths j all = rw (read_is worths j) (to_z-of_z w128 (price_at worths j) (worth_fits (price_at worths j) (worth_in worths j all)))

-- a level as it is computed
pub level_is : (job : Job) (prices : List ℤ) (i j k charge result : ℕ) (good : ℤ) → charge ≡ price job i j k → good ≡ price_at prices k
    → pos result ≡ pos (ZERO + charge) -ℤ good → result ≡ level_of job prices i j k
unfolding level_of
level_is job prices i j k charge result good e f is = ap unsigned_abs (rw (e, f) at is)

abs_is : (z : ℤ) → pos 0 ≤ℤ z → pos (unsigned_abs z) ≡ z
abs_is (pos n) h = refl
abs_is (negsuc n) h = absurd (omega (arith, ints))

-- what a level stands for
pub level_means : (job : Job) (prices : List ℤ) (i j k : ℕ) → AreGoodPrices job prices → i < suppliers job → 1 ≤ j → j ≤ segments job i
    → pos (level_of job prices i j k) ≡ pos (ZERO + price job i j k) -ℤ price_at prices k
unfolding level_of
level_means job prices i j k good supplier some within =
    let p = good_in prices k good.in_range in
    abs_is (pos (ZERO + price job i j k) -ℤ price_at prices k) (omega (arith, ints, p.not_more))

pub level_below_top : (job : Job) (prices : List ℤ) (i j k : ℕ) → AreGoodPrices job prices → i < suppliers job → 1 ≤ j → j ≤ segments job i
    → level_of job prices i j k < TOP
level_below_top job prices i j k good supplier some within =
    let p = good_in prices k good.in_range in
    let charge = (((job_in_range job).each_supplier i supplier).each_segment j some within).prices k in
    let means = level_means job prices i j k good supplier some within in
    omega (arith, ints, p.not_less)

-- the level that a place's price stands for
pub level_for : (z : ℤ) → pos 0 ≤ℤ (pos ZERO +ℤ z) → pos (unsigned_abs (pos ZERO +ℤ z)) ≡ pos ZERO +ℤ z
level_for z h = abs_is (pos ZERO +ℤ z) h

-- what a test of two numbers says
pub less_from : (x y a b : ℤ) → x ≡ a → y ≡ b → lt_z x y ≡ true → a <ℤ b
less_from x y a b e f t =
    let u = rw (e, f) at t in
    less_is a b u
  where
    less_is : (a b : ℤ) → lt_z a b ≡ true → a <ℤ b
    less_is a b u = grind (arith, ints)

pub not_less_from : (x y a b : ℤ) → x ≡ a → y ≡ b → lt_z x y ≡ false → b ≤ℤ a
not_less_from x y a b e f t =
    let u = rw (e, f) at t in
    not_less_is a b u
  where
    not_less_is : (a b : ℤ) → lt_z a b ≡ false → b ≤ℤ a
    not_less_is a b u = grind (arith, ints)

-- what a segment is worth as the code computes it: what is paid less what is saved
pub worth_computed : (paid saved : ℕ) → paid ≤ 400001000000000000000000 → saved ≤ 800400000000000000000000000
    → (to_z w128 (of_z w128 (to_z w128 paid -ℤ to_z w128 saved)) ≡ pos paid -ℤ pos saved) × IsWorth (to_z w128 (of_z w128 (to_z w128 paid -ℤ to_z w128 saved)))
worth_computed paid saved few less =
    let is : to_z w128 (of_z w128 (to_z w128 paid -ℤ to_z w128 saved)) ≡ pos paid -ℤ pos saved = omega (arith, ints) in
    let range : IsWorth (pos paid -ℤ pos saved) = record { not_less = omega (arith, ints); not_more = omega (arith, ints) } in
    (is, rw is range)
