-- The value of a row does not fall where its box is narrowed.
use Rattle.std.proofs.Common.{ℕ, ◌≡◌, ◌-◌, ◌<◌, ◌≤◌, ℤ, ◌+ℤ◌, ◌≤ℤ◌, List, length, refl, ap, subst, sym, ◌∙◌, arith, inl, inr}
use Rattle.std.specs.List.{All}
use Rattle.std.proofs.lemmas.Bool.{cases_lt}
use Rattle.std.proofs.lemmas.Int.{ints}
use Rattle.tqd_instance.specs.declared.job.Job.{Job}
use Rattle.tqd_instance.specs.Job.{suppliers}
use Rattle.interval_box.specs.declared.boxes.IntervalBox.{IntervalBox}
use Rattle.interval_box.specs.Ranges.{low_of, high_of, Admits, IsBoxOf}
use Rattle.tqd_base.specs.Sum.{signed_sum_to}
use Rattle.bound_tree.specs.LeastFrom.{least_from}
use Rattle.bound_tree.specs.Prices.{Prices, segment_price, IsPrice, Fits}
use Rattle.bound_tree.specs.Value.{Charges, charges_of, no_charges, segment_value, supplier_value, goods_value, value_by}
use Rattle.bound_tree.specs.Narrowed.{IsPartAt, IsPartOf, IsNarrowed, AreNarrowedPlaces}
use Rattle.bound_tree.proofs.SignedSums.{signed_sum_to-le, least_from-le, le-least_from}
use Rattle.bound_tree.proofs.SegmentValues.{segment_value-none}

-- segment 0 has no price, so its value is the same at any
pub segment_same : (charges : Charges) (job : Job) (prices : List ℤ) (g h : ℤ) (i j : ℕ) → (1 ≤ j → g ≡ h) → segment_value charges job prices g i j ≡ segment_value charges job prices h i j
segment_same charges job prices g h i j same = elim (cases_lt 0 j) [
  | inl some ↦ ap (λ z. segment_value charges job prices z i j) (same some)
  | inr none ↦ (let zero : j ≡ 0 = omega arith in segment_value-none charges job prices g i j zero ∙ sym (segment_value-none charges job prices h i j zero))
]

supplier_le : (charges : Charges) (job : Job) (area part : IntervalBox) (prices : List ℤ) (g h : ℕ → ℤ) (i : ℕ) → low_of part i ≤ high_of part i → IsPartAt part area i
    → ((j : ℕ) → 1 ≤ j → Admits part i j → g j ≡ h j) → supplier_value charges job area prices g i ≤ℤ supplier_value charges job part prices h i
unfolding supplier_value
supplier_le charges job area part prices g h i ordered p same =
    le-least_from (low_of part i) (high_of part i - low_of part i) (λ j. segment_value charges job prices (h j) i j) _
    (λ j from to.
    let admits : Admits part i j = record { from_low = from; to_high = omega arith } in
    let least = least_from-le (low_of area i) (high_of area i - low_of area i) (λ j. segment_value charges job prices (g j) i j) j (omega (arith, p.low)) (omega (arith, p.low, p.high)) in
    subst (λ z. least_from (low_of area i) (high_of area i - low_of area i) (λ j. segment_value charges job prices (g j) i j) ≤ℤ z)
    (segment_same charges job prices (g j) (h j) i j (λ some. same j some admits)) least)

pub value_by-is : (charges : Charges) (job : Job) (area : IntervalBox) (row : Prices)
    → value_by charges job area row ≡ goods_value job row.goods +ℤ signed_sum_to (suppliers job) (λ i. supplier_value charges job area row.goods (segment_price area row i) i)
unfolding value_by
value_by-is charges job area row = refl

value_le : (charges : Charges) (job : Job) (area part : IntervalBox) (row narrowed : Prices) → IsBoxOf job part → IsPartOf job part area → narrowed.goods ≡ row.goods
    → ((i j : ℕ) → i < suppliers job → 1 ≤ j → Admits part i j → segment_price part narrowed i j ≡ segment_price area row i j)
    → value_by charges job area row ≤ℤ value_by charges job part narrowed
value_le charges job area part row narrowed b within goods same =
    let sums = signed_sum_to-le (suppliers job)
    (λ i. supplier_value charges job area row.goods (segment_price area row i) i) (λ i. supplier_value charges job part narrowed.goods (segment_price part narrowed i) i)
    (λ i below. subst (λ ps. supplier_value charges job area row.goods (segment_price area row i) i ≤ℤ supplier_value charges job part ps (segment_price part narrowed i) i) (sym goods)
    (supplier_le charges job area part row.goods (segment_price area row i) (segment_price part narrowed i) i (b.ranges i below).ordered (within i below)
    (λ j some admits. sym (same i j below some admits)))) in
    omega (arith, ints, value_by-is charges job area row, value_by-is charges job part narrowed, ap (goods_value job) goods)

pub is_narrowed : (job : Job) (area part : IntervalBox) (row narrowed : Prices) → IsBoxOf job part → IsPartOf job part area → Fits job area row → narrowed.goods ≡ row.goods
    → AreNarrowedPlaces job area part row.places narrowed.places → IsNarrowed job area part row narrowed
unfolding segment_price
is_narrowed job area part row narrowed b within f goods p = record {
  fits = record {
    goods = ap length goods ∙ f.goods;
    places = p.count;
    good_prices = subst (All IsPrice) (sym goods) f.good_prices;
    place_prices = p.in_range;
  };
  goods = goods;
  segments = p.same;
  value = value_le (charges_of job) job area part row narrowed b within goods p.same;
  free_value = value_le no_charges job area part row narrowed b within goods p.same;
}
