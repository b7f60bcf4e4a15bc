-- The value in a box of a row of the root, by the prices at the root's places.
use Rattle.std.proofs.Common.{ℕ, zero, suc, ◌≡◌, ◌+◌, ◌-◌, ◌<◌, ◌≤◌, ℤ, ◌+ℤ◌, List, ap, sym, ◌∙◌, arith}
use Rattle.std.specs.Int.{int_min}
use Rattle.tqd_instance.specs.declared.job.Job.{Job}
use Rattle.tqd_instance.specs.Job.{goods, suppliers, segments}
use Rattle.interval_box.specs.declared.boxes.IntervalBox.{IntervalBox}
use Rattle.interval_box.specs.Ranges.{low_of, high_of, Admits, IsBoxOf}
use Rattle.tqd_base.specs.Sum.{signed_sum_to}
use Rattle.bound_tree.specs.LeastFrom.{least_from}
use Rattle.bound_tree.specs.Prices.{Prices, first_of, count_of, place_of, places_to, price_at, segment_price}
use Rattle.bound_tree.specs.Value.{Charges, segment_value, supplier_value, goods_value, value_by}
use Rattle.bound_tree.specs.Root.{root_of}
use Rattle.bound_tree.specs.OtherBox.{narrowed}
use Rattle.bound_tree.proofs.BoxPlaces.{places_to-more, places_to-within}
use Rattle.bound_tree.proofs.Roots.{root_is}
use Rattle.bound_tree.proofs.SignedSums.{signed_sum_to-same, least_from-zero, least_from-suc}
use Rattle.bound_tree.proofs.NarrowedValues.{segment_same, value_by-is}
use Rattle.bound_tree.proofs.OtherBoxes.{narrowed_goods, narrowed_segment}

least_from-same : (a n : ℕ) (f g : ℕ → ℤ) → ((k : ℕ) → a ≤ k → k ≤ a + n → f k ≡ g k) → least_from a n f ≡ least_from a n g
least_from-same a zero f g same = least_from-zero a f ∙ (same a (omega arith) (omega arith) ∙ sym (least_from-zero a g))
least_from-same a (suc n) f g same =
    least_from-suc a n f ∙ (ap (λ (z : ℤ). int_min z (f (a + suc n))) (least_from-same a n f g (λ k from to. same k from (omega arith)))
    ∙ (ap (int_min (least_from a n g)) (same (a + suc n) (omega arith) (omega arith)) ∙ sym (least_from-suc a n g)))

-- the prices of a range are enough
pub supplier_same : (charges : Charges) (job : Job) (area : IntervalBox) (prices : List ℤ) (g h : ℕ → ℤ) (i : ℕ) → low_of area i ≤ high_of area i
    → ((j : ℕ) → 1 ≤ j → Admits area i j → g j ≡ h j) → supplier_value charges job area prices g i ≡ supplier_value charges job area prices h i
unfolding supplier_value
supplier_same charges job area prices g h i ordered same =
    least_from-same (low_of area i) (high_of area i - low_of area i) (λ j. segment_value charges job prices (g j) i j) (λ j. segment_value charges job prices (h j) i j)
    (λ j from to. segment_same charges job prices (g j) (h j) i j (λ some. same j some (record { from_low = from; to_high = omega arith })))

pub narrowed_value : (charges : Charges) (job : Job) (area : IntervalBox) (row : Prices) → IsBoxOf job area
    → value_by charges job area (narrowed job (root_of job) area row)
    ≡ goods_value job row.goods +ℤ signed_sum_to (suppliers job) (λ i. supplier_value charges job area row.goods (segment_price (root_of job) row i) i)
narrowed_value charges job area row b =
    let thin = narrowed job (root_of job) area row in
    value_by-is charges job area thin
    ∙ (ap (λ (ps : List ℤ). goods_value job ps +ℤ signed_sum_to (suppliers job) (λ i. supplier_value charges job area ps (segment_price area thin i) i)) (narrowed_goods job (root_of job) area row)
    ∙ ap (λ (z : ℤ). goods_value job row.goods +ℤ z) (signed_sum_to-same (suppliers job) (λ i. supplier_value charges job area row.goods (segment_price area thin i) i)
    (λ i. supplier_value charges job area row.goods (segment_price (root_of job) row i) i)
    (λ i below. supplier_same charges job area row.goods (segment_price area thin i) (segment_price (root_of job) row i) i (b.ranges i below).ordered
    (λ j some a. narrowed_segment job (root_of job) area row i j below some a))))

-- the places of the root
pub root_first : (job : Job) (i : ℕ) → i < suppliers job → first_of (root_of job) i ≡ 1
unfolding first_of
root_first job i below = omega (arith, ((root_is job).whole i below).from_zero)

pub root_count : (job : Job) (i : ℕ) → i < suppliers job → count_of (root_of job) i ≡ segments job i
unfolding count_of first_of
root_count job i below = omega (arith, ((root_is job).whole i below).from_zero, ((root_is job).whole i below).to_last)

pub root_place : (job : Job) (i j : ℕ) → i < suppliers job → place_of (root_of job) i j ≡ places_to (root_of job) i + (j - 1)
unfolding place_of
root_place job i j below = ap (λ (k : ℕ). places_to (root_of job) i + (j - k)) (root_first job i below)

pub first_some : (area : IntervalBox) (i : ℕ) → 1 ≤ first_of area i
unfolding first_of
first_some area i = omega arith

range_within : (area : IntervalBox) (i most : ℕ) → low_of area i ≤ high_of area i → high_of area i ≤ most → (first_of area i - 1) + count_of area i ≤ most
unfolding first_of count_of
range_within area i most ordered within = omega (arith, ordered, within)

-- a range's places in the root are among all of them
pub root_within : (job : Job) (area : IntervalBox) (i : ℕ) → IsBoxOf job area → i < suppliers job
    → places_to (root_of job) i + (first_of area i - 1) + count_of area i ≤ places_to (root_of job) (suppliers job)
root_within job area i b below =
    let r = b.ranges i below in
    omega (arith, range_within area i (segments job i) r.ordered r.within, root_count job i below, places_to-within (root_of job) i (suppliers job) below)

pub root_more : (job : Job) (i : ℕ) → i < suppliers job → places_to (root_of job) (i + 1) ≡ places_to (root_of job) i + segments job i
root_more job i below = omega (arith, places_to-more (root_of job) i, root_count job i below)

first_low : (area : IntervalBox) (i j : ℕ) → 1 ≤ j → Admits area i j → (first_of area i ≤ j) × (1 ≤ first_of area i)
unfolding first_of
first_low area i j some a = (omega (arith, a.from_low), omega arith)

-- a range's prices from its first place in the root on
pub root_range : (charges : Charges) (job : Job) (area : IntervalBox) (goods places : List ℤ) (i from : ℕ) → IsBoxOf job area → i < suppliers job
    → from ≡ places_to (root_of job) i + (first_of area i - 1)
    → supplier_value charges job area goods (λ j. price_at places (from + (j - first_of area i))) i
    ≡ supplier_value charges job area goods (segment_price (root_of job) (record { goods = goods; places = places }) i) i
unfolding segment_price
root_range charges job area goods places i from b below at =
    supplier_same charges job area goods (λ j. price_at places (from + (j - first_of area i))) (λ j. price_at places (place_of (root_of job) i j)) i (b.ranges i below).ordered
    (λ j some a. ap (price_at places) (let low = first_low area i j some a in omega (arith, at, root_place job i j below, low.0, low.1)))
