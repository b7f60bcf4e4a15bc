-- Units that are filled up to a balanced level cost what their segment is worth, and are the cheapest.
use Rattle.tqd_instance.specs.Picks.{LiesIn}
use Rattle.std.proofs.Common.{ℕ, ◌≡◌, ◌+◌, ◌-◌, ◌*◌, ◌<◌, ◌≤◌, ◌==◌, if◌then◌else◌, ℤ, pos, ◌+ℤ◌, ◌-ℤ◌, ◌*ℤ◌, List, slice_index, refl, ap, sym, ◌∙◌, arith, inl, inr, ◌≤ℤ◌, subst}
use Rattle.std.proofs.lemmas.Bool.{cases_lt, cases_order}
use Rattle.std.proofs.lemmas.Bool.Decides.{nat_tests}
use Rattle.std.proofs.lemmas.Int.{ints}
use Rattle.std.proofs.lemmas.Nat.{mul-le}
use Rattle.std.proofs.Math.Nat.{mul-add, mul_comm}
use Rattle.tqd_base.specs.Sum.{sum_to, signed_sum_to}
use Rattle.tqd_instance.specs.declared.job.Job.{Job}
use Rattle.tqd_instance.specs.Job.{goods, suppliers, segments, low, high, price, fee}
use Rattle.tqd_instance.proofs.Jobs.{job_in_range}
use Rattle.tqd_instance.proofs.SumLemmas.{sum_to-le, sum_to-mul, sum_to-same, sum_to-zeros}
use Rattle.bound_tree.specs.Prices.{price_at}
use Rattle.bound_tree.specs.Value.{cap, charges_of, segment_value}
use Rattle.lagrangian.specs.declared.offer.TheConstants.{ZERO, TOP}
use Rattle.lagrangian.specs.declared.offer.Offer.{Offer}
use Rattle.lagrangian.specs.Levels.{under, units_under, AreOffersOf, goods_under, goods_up_to, filled}
use Rattle.lagrangian.specs.Filling.{AreFilled}
use Rattle.lagrangian.specs.Priced.{AreGoodPrices, level_of, IsBalancedAt, IsFoundPlace, AreWithinCaps, cost_beyond, AreBoughtFor, AreCheapest}
use Rattle.lagrangian.proofs.OneLevel.{under-yes, filled-under, filled-over}
use Rattle.lagrangian.proofs.OfferSums.{units_under-of}
use Rattle.lagrangian.proofs.PriceReads.{level_means, level_below_top}
use Rattle.lagrangian.proofs.SignedLaws.{signed_sum_to-difference, times_difference}
use Rattle.lagrangian.proofs.Filled.{parts, shares_cost, withins_cost}
use Rattle.lagrangian.proofs.Worths.{worth_is}

-- the total at a level: what is called for
total_at : (below low high level called : ℕ) → called ≡ filled below low high level
    → level * called + (ZERO - level) * high ≡ ZERO * called + (level - ZERO) * low
total_at below low high level called is = elim (cases_order level ZERO) [
  | inl at ↦
      (let a : level - ZERO ≡ 0 = omega arith in
      let b : ZERO - level ≡ 0 = omega arith in
      omega (arith, ap (λ n. n * called) at, ap (λ n. n * low) a, ap (λ n. n * high) b))
  | inr other ↦ elim other [
    | inl under ↦
        (let e : called ≡ high = is ∙ filled-under below low high level under in
        let split : ZERO ≡ level + (ZERO - level) = omega arith in
        let none : level - ZERO ≡ 0 = omega arith in
        omega (
          arith,
          ap (λ n. n * called) split,
          mul_comm called (level + (ZERO - level)),
          mul-add called level (ZERO - level),
          mul_comm called level,
          mul_comm called (ZERO - level),
          ap (λ n. (ZERO - level) * n) e,
          ap (λ n. n * low) none,
        ))
    | inr over ↦
        (let e : called ≡ low = is ∙ filled-over below low high level over in
        let split : level ≡ ZERO + (level - ZERO) = omega arith in
        let none : ZERO - level ≡ 0 = omega arith in
        omega (
          arith,
          ap (λ n. n * called) split,
          mul_comm called (ZERO + (level - ZERO)),
          mul-add called ZERO (level - ZERO),
          mul_comm called ZERO,
          mul_comm called (level - ZERO),
          ap (λ n. (level - ZERO) * n) e,
          ap (λ n. n * high) none,
        ))
  ]
]

cost_some : (job : Job) (prices : List ℤ) (i j : ℕ) (units : ℕ → ℕ) → 1 ≤ j
    → cost_beyond job prices i j units ≡ pos (fee job i) +ℤ signed_sum_to (goods job) (λ k. pos (units k) *ℤ (pos (price job i j k) -ℤ price_at prices k))
unfolding cost_beyond
cost_some job prices i j units some = if_some j (pos 0) _ some
  where
    if_some : (j : ℕ) (x y : ℤ) → 1 ≤ j → (if j == 0 then x else y) ≡ y
    if_some j x y h = grind (arith, nat_tests)

cost_none : (job : Job) (prices : List ℤ) (i j : ℕ) (units : ℕ → ℕ) → j ≡ 0 → cost_beyond job prices i j units ≡ pos 0
unfolding cost_beyond
cost_none job prices i j units none = if_zero j (pos 0) _ none
  where
    if_zero : (j : ℕ) (x y : ℤ) → j ≡ 0 → (if j == 0 then x else y) ≡ x
    if_zero j x y e = grind (arith, nat_tests)

-- what units cost beyond the prices of the goods, by the levels of the goods
cost_is : (job : Job) (prices : List ℤ) (i j : ℕ) (units : ℕ → ℕ) → AreGoodPrices job prices → i < suppliers job → 1 ≤ j → j ≤ segments job i
    → cost_beyond job prices i j units
    ≡ pos (fee job i) +ℤ (pos (sum_to (goods job) (λ k. units k * level_of job prices i j k)) -ℤ pos (ZERO * sum_to (goods job) units))
cost_is job prices i j units good supplier some within =
    let n = goods job in
    let f = λ (k : ℕ). pos (units k) *ℤ (pos (price job i j k) -ℤ price_at prices k) in
    let each : (k : ℕ) → k < n → f k ≡ pos (units k * level_of job prices i j k) -ℤ pos (units k * ZERO) = λ k below.
    (let means = level_means job prices i j k good supplier some within in
    times_difference (units k) (pos (price job i j k) -ℤ price_at prices k) (level_of job prices i j k) ZERO (omega (arith, ints))) in
    let sum = signed_sum_to-difference n f (λ k. units k * level_of job prices i j k) (λ k. units k * ZERO) each in
    let turned = sum_to-same n (λ k. units k * ZERO) (λ k. ZERO * units k) (λ k below. mul_comm (units k) ZERO) ∙ sum_to-mul n ZERO units in
    cost_some job prices i j units some ∙ ap (λ z. pos (fee job i) +ℤ z) (sum ∙ ap (λ m. pos (sum_to n (λ k. units k * level_of job prices i j k)) -ℤ pos m) turned)

-- all that the supplier can sell lies under TOP
all_under : (job : Job) (prices : List ℤ) (i j level : ℕ) (other : ℕ → ℕ) → AreGoodPrices job prices → i < suppliers job → 1 ≤ j → j ≤ segments job i
    → AreWithinCaps job i other → level ≡ TOP → sum_to (goods job) other ≤ goods_under (goods job) (level_of job prices i j) (cap job i) level
unfolding goods_under
all_under job prices i j level other good supplier some within few top =
    sum_to-le (goods job) other (λ k. under level (level_of job prices i j k) (cap job i k))
    (λ k below. (let l = level_below_top job prices i j k good supplier some within in
    omega (arith, few k below, under-yes level (level_of job prices i j k) (cap job i k) (omega arith))))

-- where any units that the supplier can sell reach the segment's low, those up to a balanced level are enough
enough_at : (job : Job) (prices : List ℤ) (i j level : ℕ) (other : ℕ → ℕ) → AreGoodPrices job prices → i < suppliers job → 1 ≤ j → j ≤ segments job i
    → IsBalancedAt job prices i j level → AreWithinCaps job i other → low job i j ≤ sum_to (goods job) other
    → filled (goods_under (goods job) (level_of job prices i j) (cap job i) level) (low job i j) (high job i j) level
    ≤ goods_up_to (goods job) (level_of job prices i j) (cap job i) level
enough_at job prices i j level other good supplier some within b few reach = elim b.enough [
  | inl enough ↦ enough
  | inr last ↦ absurd (omega (arith, last.0, reach, all_under job prices i j level other good supplier some within few last.1))
]

-- a total from low to high is worth no less at a level than the least of them
total_least : (low high level total : ℕ) → low ≤ total → total ≤ high → (level - ZERO) * low + ZERO * total ≤ level * total + (ZERO - level) * high
total_least low high level total from to = elim (cases_lt level ZERO) [
  | inl under ↦
      (let split : ZERO ≡ level + (ZERO - level) = omega arith in
      let none : level - ZERO ≡ 0 = omega arith in
      let less = mul-le (ZERO - level) total (ZERO - level) high (omega arith) to in
      omega (
        arith,
        ap (λ n. n * total) split,
        mul_comm total (level + (ZERO - level)),
        mul-add total level (ZERO - level),
        mul_comm total level,
        mul_comm total (ZERO - level),
        ap (λ n. n * low) none,
      ))
  | inr over ↦
      (let split : level ≡ ZERO + (level - ZERO) = omega arith in
      let less = mul-le (level - ZERO) low (level - ZERO) total (omega arith) from in
      omega (arith, ap (λ n. n * total) split, mul_comm total (ZERO + (level - ZERO)), mul-add total ZERO (level - ZERO), mul_comm total ZERO, mul_comm total (level - ZERO)))
]

-- no units that the supplier can sell in the segment cost less than it is worth at any price (weak duality)
no_cheaper : (job : Job) (prices : List ℤ) (i j level : ℕ) (h : ℤ) (other : ℕ → ℕ) → AreGoodPrices job prices → i < suppliers job → 1 ≤ j → j ≤ segments job i
    → pos level ≡ pos ZERO +ℤ h → AreWithinCaps job i other → LiesIn job i j (sum_to (goods job) other)
    → segment_value (charges_of job) job prices h i j ≤ℤ cost_beyond job prices i j other
no_cheaper job prices i j level h other good supplier some within is few lies =
    let cost = cost_is job prices i j other good supplier some within in
    let value = worth_is job prices i j level h good supplier some within is in
    let bought = withins_cost (goods job) (level_of job prices i j) (cap job i) level other few in
    let least = total_least (low job i j) (high job i j) level (sum_to (goods job) other) lies.from_low lies.to_high in
    omega (arith, ints)

-- units that are filled up to a balanced level are the cheapest
pub filled_is_cheapest : (job : Job) (prices : List ℤ) (i j level spare : ℕ) (h worth : ℤ) (units : List ℕ)
    → AreGoodPrices job prices → i < suppliers job → 1 ≤ j → j ≤ segments job i → pos level ≡ pos ZERO +ℤ h → IsFoundPlace job prices i j h worth
    → spare ≡ filled (goods_under (goods job) (level_of job prices i j) (cap job i) level) (low job i j) (high job i j) level
    - goods_under (goods job) (level_of job prices i j) (cap job i) level
    → AreFilled (goods job) (level_of job prices i j) (cap job i) level spare units
    → AreCheapest job prices i j (slice_index units) worth
filled_is_cheapest job prices i j level spare h worth units good supplier some within is found amount f =
    record {
      within = λ k below. (f.shares k below).within;
      where_any = λ other few lies. bought (enough_at job prices i j level other good supplier some within b few lies.from_low);
      none_cheaper = λ other few lies.
          subst (λ w. w ≤ℤ cost_beyond job prices i j other) (sym found.best_place.is_worth) (no_cheaper job prices i j level h other good supplier some within is few lies);
    }
  where
    n : ℕ
    n = goods job

    b : IsBalancedAt job prices i j level
    b = found.balances some level is

    bought : filled (goods_under (goods job) (level_of job prices i j) (cap job i) level) (low job i j) (high job i j) level
        ≤ goods_up_to (goods job) (level_of job prices i j) (cap job i) level → AreBoughtFor job prices i j (slice_index units) worth
    bought enough =
        let below = goods_under (goods job) (level_of job prices i j) (cap job i) level in
        let called = filled below (low job i j) (high job i j) level in
        let all = parts (goods job) (level_of job prices i j) (cap job i) level in
        let least = b.all_below in
        let total : sum_to (goods job) (slice_index units) ≡ called = omega (arith, f.total) in
        let cost = cost_is job prices i j (slice_index units) good supplier some within in
        let shares = shares_cost (goods job) (level_of job prices i j) (cap job i) level (slice_index units) f.shares in
        let at = total_at below (low job i j) (high job i j) level called refl in
        let value = found.best_place.is_worth ∙ worth_is job prices i j level h good supplier some within is in
        let whole = ap (λ m. level * m) total in
        let base = ap (λ m. ZERO * m) total in
        record {
          lies = record { segment = within; from_low = omega (arith, b.from_low); to_high = omega (arith, b.to_high) };
          cost = omega (arith, ints);
        }

-- in segment 0 nothing is the cheapest
pub none_is_cheapest : (job : Job) (prices : List ℤ) (i j : ℕ) (worth : ℤ) (units : List ℕ) → i < suppliers job → j ≡ 0 → worth ≡ pos 0
    → ((k : ℕ) → k < goods job → slice_index units k ≡ 0) → AreCheapest job prices i j (slice_index units) worth
none_is_cheapest job prices i j worth units supplier none nothing zeros =
    let s = (job_in_range job).each_supplier i supplier in
    let total = sum_to-zeros (goods job) (slice_index units) zeros in
    record {
      within = λ k below. omega (arith, zeros k below);
      where_any = λ other few lies. record {
        lies = record { segment = omega arith; from_low = omega (arith, ap (low job i) none, s.nothing_low); to_high = omega arith };
        cost = cost_none job prices i j (slice_index units) none ∙ sym nothing;
      };
      none_cheaper = λ other few lies. omega (arith, ints, cost_none job prices i j other none);
    }

pub cap_within : (job : Job) (i k : ℕ) → i < suppliers job → cap job i k ≤ 100000000
unfolding cap
cap_within job i k supplier = omega (arith, ((job_in_range job).each_supplier i supplier).stock_within k)

-- what the code finds to be under a level, and what it calls for
pub called_is : (job : Job) (prices : List ℤ) (i j level below from to wanted : ℕ) (offers : List Offer)
    → AreOffersOf (goods job) (level_of job prices i j) (cap job i) offers → below ≡ units_under level offers → from ≡ low job i j → to ≡ high job i j
    → wanted ≡ filled below from to level
    → (below ≡ goods_under (goods job) (level_of job prices i j) (cap job i) level)
    × (wanted ≡ filled (goods_under (goods job) (level_of job prices i j) (cap job i) level) (low job i j) (high job i j) level)
called_is job prices i j level below from to wanted offers states is l h e =
    let all = is ∙ units_under-of (goods job) (level_of job prices i j) (cap job i) offers level states in
    (all, rw (all, l, h) at e)
