-- What a segment is worth at the price that a level stands for, and that a balanced level has the best price.
use Rattle.std.proofs.Common.{ℕ, ◌≡◌, ◌+◌, ◌-◌, ◌*◌, ◌<◌, ◌≤◌, ℤ, pos, neg_ℤ, ◌+ℤ◌, ◌-ℤ◌, ◌≤ℤ◌, List, ap, sym, ◌∙◌, arith, subst}
use Rattle.std.specs.Int.{int_min}
use Rattle.std.specs.Int.RustNames.{unsigned_abs}
use Rattle.std.proofs.lemmas.Int.{ints, clamps}
use Rattle.tqd_instance.specs.declared.job.Job.{Job}
use Rattle.tqd_instance.specs.Job.{goods, suppliers, segments, low, high, price, fee}
use Rattle.tqd_instance.proofs.Jobs.{job_in_range}
use Rattle.bound_tree.specs.Prices.{price_at, IsPrice}
use Rattle.bound_tree.specs.Value.{charges_of, cap, least_gain, segment_value}
use Rattle.bound_tree.proofs.Signed.{least_times-is, least_gain-is}
use Rattle.bound_tree.proofs.SegmentValues.{segment_value-none, segment_value-some, gains, gains-are}
use Rattle.lagrangian.specs.declared.offer.TheConstants.{ZERO, TOP}
use Rattle.lagrangian.specs.declared.offer.Offer.{Offer}
use Rattle.lagrangian.specs.Levels.{loss, units_under, units_up_to, losses_of, goods_losses, AreOffersOf, IsBalanced}
use Rattle.lagrangian.specs.Priced.{AreGoodPrices, IsWorth, level_of, IsBalancedAt, IsFoundPlace}
use Rattle.lagrangian.proofs.OneLevel.{loss-is}
use Rattle.lagrangian.proofs.OfferSums.{units_under-of, units_up_to-of, losses_of-of}
use Rattle.lagrangian.proofs.Balance.{balanced_is_best}
use Rattle.lagrangian.proofs.PriceReads.{level_means, level_for}
use Rattle.lagrangian.proofs.SignedLaws.{signed_sum_to-negative, up_is, down_is}

-- the losses of a supplier in a segment at a level
abbrev pub lost : Job → List ℤ → ℕ → ℕ → ℕ → ℕ
lost job prices i j = goods_losses (goods job) (level_of job prices i j) (cap job i)

-- the gain of a good is its loss, with the other sign
gain_is : (job : Job) (prices : List ℤ) (i j k level : ℕ) (h : ℤ) → AreGoodPrices job prices → i < suppliers job → 1 ≤ j → j ≤ segments job i
    → pos level ≡ pos ZERO +ℤ h
    → least_gain (cap job i k) (price job i j k) (price_at prices k) h ≡ neg_ℤ (pos (loss level (level_of job prices i j k) (cap job i k)))
gain_is job prices i j k level h good supplier some within is =
    let at = level_of job prices i j k in
    let means = level_means job prices i j k good supplier some within in
    let saved : neg_ℤ (pos (level - at)) ≡ int_min (pos 0) (pos (price job i j k) -ℤ price_at prices k -ℤ h) = omega (arith, ints, clamps) in
    least_gain-is (cap job i k) (price job i j k) (level - at) (price_at prices k) h saved ∙ ap (λ n. neg_ℤ (pos n)) (sym (loss-is level at (cap job i k)))

gains_lost : (job : Job) (prices : List ℤ) (i j level : ℕ) (h : ℤ) → AreGoodPrices job prices → i < suppliers job → 1 ≤ j → j ≤ segments job i
    → pos level ≡ pos ZERO +ℤ h → gains (charges_of job) job prices h i j ≡ neg_ℤ (pos (lost job prices i j level))
unfolding goods_losses
gains_lost job prices i j level h good supplier some within is =
    gains-are (charges_of job) job prices h i j
    ∙ signed_sum_to-negative (goods job) (λ k. least_gain (cap job i k) (price job i j k) (price_at prices k) h) (λ k. loss level (level_of job prices i j k) (cap job i k))
    (λ k below. gain_is job prices i j k level h good supplier some within is)

-- what the segment is worth at the level
pub worth_is : (job : Job) (prices : List ℤ) (i j level : ℕ) (h : ℤ) → AreGoodPrices job prices → i < suppliers job → 1 ≤ j → j ≤ segments job i
    → pos level ≡ pos ZERO +ℤ h
    → segment_value (charges_of job) job prices h i j
    ≡ pos (fee job i + (level - ZERO) * low job i j) -ℤ pos (lost job prices i j level + (ZERO - level) * high job i j)
worth_is job prices i j level h good supplier some within is =
    let value = segment_value-some (charges_of job) job prices h i j some in
    let all = gains_lost job prices i j level h good supplier some within is in
    let times = least_times-is h (low job i j) (high job i j) in
    let a = ap (λ n. n * low job i j) (up_is h level is) in
    let b = ap (λ n. n * high job i j) (down_is h level is) in
    omega (arith, ints)

-- no price within the limit is better than that of a balanced level
pub best_at : (job : Job) (prices : List ℤ) (i j level : ℕ) (h other : ℤ) → AreGoodPrices job prices → i < suppliers job → 1 ≤ j → j ≤ segments job i
    → pos level ≡ pos ZERO +ℤ h → IsBalancedAt job prices i j level → IsPrice other
    → segment_value (charges_of job) job prices other i j ≤ℤ segment_value (charges_of job) job prices h i j
best_at job prices i j level h other good supplier some within is balanced limit =
    let l = limit.not_less in
    let m = limit.not_more in
    let than = unsigned_abs (pos ZERO +ℤ other) in
    let means : pos than ≡ pos ZERO +ℤ other = level_for other (omega (arith, ints)) in
    let below : than ≤ TOP = omega (arith, ints) in
    let ordered = (((job_in_range job).each_supplier i supplier).each_segment j some within).ordered in
    let best = balanced_is_best (goods job) (level_of job prices i j) (cap job i) (low job i j) (high job i j) level than ordered balanced below in
    let here = worth_is job prices i j level h good supplier some within is in
    let there = worth_is job prices i j than other good supplier some within means in
    omega (arith, ints)

-- the price of a balanced level is found
pub found_at : (job : Job) (prices : List ℤ) (i j level : ℕ) (h worth : ℤ) → AreGoodPrices job prices → i < suppliers job → 1 ≤ j → j ≤ segments job i
    → pos level ≡ pos ZERO +ℤ h → IsBalancedAt job prices i j level → IsWorth worth
    → worth ≡ pos (fee job i + (level - ZERO) * low job i j) -ℤ pos (lost job prices i j level + (ZERO - level) * high job i j)
    → IsFoundPlace job prices i j h worth
found_at job prices i j level h worth good supplier some within is balanced range amount =
    let here = worth_is job prices i j level h good supplier some within is in
    let value : worth ≡ segment_value (charges_of job) job prices h i j = amount ∙ sym here in
    let top = balanced.within in
    record {
      best_place = record {
        in_range = record { not_less = omega (arith, ints); not_more = omega (arith, ints) };
        is_worth = value;
        best = λ other limit. subst (λ w. segment_value (charges_of job) job prices other i j ≤ℤ w) (sym value) (best_at job prices i j level h other good supplier some within is balanced limit);
      };
      worth_range = range;
      balances = λ _ at means. (let same : level ≡ at = omega (arith, ints) in subst (λ l. IsBalancedAt job prices i j l) same balanced);
    }

-- segment 0
pub found_none : (job : Job) (prices : List ℤ) (i j : ℕ) → j ≡ 0 → IsFoundPlace job prices i j (pos 0) (pos 0)
found_none job prices i j none = record {
  best_place = record {
    in_range = record { not_less = omega (arith, ints); not_more = omega (arith, ints) };
    is_worth = sym (segment_value-none (charges_of job) job prices (pos 0) i j none);
    best = λ other limit. omega (arith, ints, segment_value-none (charges_of job) job prices other i j none);
  };
  worth_range = record { not_less = omega (arith, ints); not_more = omega (arith, ints) };
  balances = λ some. absurd (omega arith);
}

-- a level that balances the offers of a segment balances what the supplier has
pub balanced_of : (job : Job) (prices : List ℤ) (i j level from to : ℕ) (offers : List Offer)
    → AreOffersOf (goods job) (level_of job prices i j) (cap job i) offers → from ≡ low job i j → to ≡ high job i j
    → IsBalanced (units_under level offers) (units_up_to level offers) from to level → IsBalancedAt job prices i j level
balanced_of job prices i j level from to offers states l h b =
    rw (units_under-of (goods job) (level_of job prices i j) (cap job i) offers level states, units_up_to-of (goods job) (level_of job prices i j) (cap job i) offers level states, l, h) at b

pub amount_of : (job : Job) (prices : List ℤ) (i j level from to paid : ℕ) (worth : ℤ) (offers : List Offer)
    → AreOffersOf (goods job) (level_of job prices i j) (cap job i) offers → from ≡ low job i j → to ≡ high job i j → paid ≡ fee job i
    → worth ≡ pos (paid + (level - ZERO) * from) -ℤ pos (losses_of level offers + (ZERO - level) * to)
    → worth ≡ pos (fee job i + (level - ZERO) * low job i j) -ℤ pos (lost job prices i j level + (ZERO - level) * high job i j)
amount_of job prices i j level from to paid worth offers states l h f e =
    rw (losses_of-of (goods job) (level_of job prices i j) (cap job i) offers level states, l, h, f) at e
