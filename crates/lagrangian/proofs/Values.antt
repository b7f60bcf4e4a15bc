-- The value of a pricing's row, and that it is the best of the rows of the same goods' prices.
use Rattle.std.proofs.Common.{ℕ, ◌≡◌, ◌+◌, ◌<◌, ◌≤◌, ℤ, pos, ◌+ℤ◌, ◌≤ℤ◌, List, ◌++◌, length, take, drop, get_or, add-one, refl, ap, ap₂, sym, ◌∙◌, arith, subst, inl, inr}
use Rattle.std.specs.List.{All}
use Rattle.std.proofs.lemmas.Bool.{cases_lt}
use Rattle.std.proofs.lemmas.Int.{ints}
use Rattle.std.proofs.lemmas.List.{get_or_read}
use Rattle.std.proofs.lemmas.List.Elements.{All-get_or, All-from_get_or}
use Rattle.tqd_base.specs.Sum.{signed_sum_to}
use Rattle.tqd_instance.specs.declared.job.Job.{Job}
use Rattle.tqd_instance.specs.Job.{goods, suppliers}
use Rattle.interval_box.specs.declared.boxes.IntervalBox.{IntervalBox}
use Rattle.interval_box.specs.Ranges.{Admits, IsBoxOf}
use Rattle.bound_tree.specs.Prices.{Prices, first_of, count_of, segment_price, IsPrice, Fits}
use Rattle.bound_tree.specs.Value.{charges_of, segment_value, supplier_value, goods_value, value_by, value}
use Rattle.bound_tree.proofs.PriceReads.{price_in}
use Rattle.bound_tree.proofs.SignedSums.{signed_sum_to-same, signed_sum_to-le}
use Rattle.bound_tree.proofs.SegmentValues.{segment_value-none}
use Rattle.lagrangian.specs.declared.supplier.SupplierPrices.{SupplierPrices}
use Rattle.lagrangian.specs.Priced.{IsGoodPrice, AreGoodPrices, IsInRange, place_of, IsSupplierPriced}
use Rattle.lagrangian.specs.PricingState.{PricingState, no_prices, supplier_prices}
use Rattle.lagrangian.specs.Pricing.{IsMadeFor, row_of, range_places, all_places, IsPricedFor}
use Rattle.lagrangian.proofs.Finding.{supplier_value-le}
use Rattle.lagrangian.proofs.Places.{AreInRange, places_are, all_places-suc}

good_is_price : (z : ℤ) → IsGoodPrice z → IsPrice z
good_is_price z p =
    let l = p.not_less in
    let m = p.not_more in
    record { not_less = omega (arith, ints); not_more = omega (arith, ints) }

pub good_prices_fit : (prices : List ℤ) → All IsGoodPrice prices → All IsPrice prices
good_prices_fit prices all = All-from_get_or IsPrice prices (pos 0) (λ k below. good_is_price (get_or prices k (pos 0)) (All-get_or IsGoodPrice prices k (pos 0) below all))

-- the row of a pricing fits each box of the job
pub row_fits : (job : Job) (area : IntervalBox) (state : PricingState) → IsBoxOf job area → IsMadeFor job state → All IsGoodPrice state.goods
    → AreInRange job state → Fits job area (row_of job area state)
unfolding row_of
row_fits job area state b made good r =
    let places = places_are job area state (suppliers job) b r (omega arith) in
    record {
      goods = made.good_count;
      places = places.count;
      good_prices = good_prices_fit state.goods good;
      place_prices = places.in_range;
    }

row_goods : (job : Job) (area : IntervalBox) (state : PricingState) → (row_of job area state).goods ≡ state.goods
unfolding row_of
row_goods job area state = refl

-- the prices of its places are those that were found
row_places : (job : Job) (area : IntervalBox) (state : PricingState) (i j : ℕ) → IsBoxOf job area → AreInRange job state → i < suppliers job → 1 ≤ j → Admits area i j
    → segment_price area (row_of job area state) i j ≡ place_of (supplier_prices state i) j
unfolding row_of segment_price
row_places job area state i j b r below some a = (places_are job area state (suppliers job) b r (omega arith)).same i j below some a

-- a segment is worth the same at the same price, and segment 0 is worth nothing at any
segment_same : (job : Job) (prices : List ℤ) (g h : ℤ) (i j : ℕ) → (1 ≤ j → g ≡ h)
    → segment_value (charges_of job) job prices g i j ≡ segment_value (charges_of job) job prices h i j
segment_same job prices g h i j same = elim (cases_lt 0 j) [
  | inl some ↦ ap (λ z. segment_value (charges_of job) job prices z i j) (same some)
  | inr none ↦
      (let zero : j ≡ 0 = omega arith in
      segment_value-none (charges_of job) job prices g i j zero ∙ sym (segment_value-none (charges_of job) job prices h i j zero))
]

supplier_same : (job : Job) (area : IntervalBox) (prices : List ℤ) (g h : ℕ → ℤ) (i : ℕ) → IsBoxOf job area → i < suppliers job
    → ((j : ℕ) → 1 ≤ j → Admits area i j → g j ≡ h j)
    → supplier_value (charges_of job) job area prices g i ≡ supplier_value (charges_of job) job area prices h i
supplier_same job area prices g h i b below same =
    let range = b.ranges i below in
    let at = λ (j : ℕ) (a : Admits area i j). segment_same job prices (g j) (h j) i j (λ some. same j some a) in
    let up = supplier_value-le (charges_of job) job area prices g h i range (λ j a. (let e = at j a in omega (arith, ints))) in
    let down = supplier_value-le (charges_of job) job area prices h g i range (λ j a. (let e = at j a in omega (arith, ints))) in
    omega (arith, ints)

value_is : (job : Job) (area : IntervalBox) (row : Prices)
    → value job area row ≡ goods_value job row.goods +ℤ signed_sum_to (suppliers job) (λ i. supplier_value (charges_of job) job area row.goods (segment_price area row i) i)
unfolding value_by
value_is job area row = refl

-- the value of the row is the sum of what the ranges are worth
pub row_value : (job : Job) (area : IntervalBox) (state : PricingState) → IsBoxOf job area → AreInRange job state
    → value job area (row_of job area state)
    ≡ goods_value job state.goods +ℤ signed_sum_to (suppliers job) (λ i. supplier_value (charges_of job) job area state.goods (place_of (supplier_prices state i)) i)
unfolding row_of
row_value job area state b r =
    value_is job area (row_of job area state)
    ∙ ap (λ z. goods_value job state.goods +ℤ z)
    (signed_sum_to-same (suppliers job) _ (λ i. supplier_value (charges_of job) job area state.goods (place_of (supplier_prices state i)) i)
    (λ i below. supplier_same job area state.goods (segment_price area (row_of job area state) i) (place_of (supplier_prices state i)) i b below
    (λ j some a. row_places job area state i j b r below some a)))

-- no row of the same goods' prices has a greater value
pub no_better : (job : Job) (area : IntervalBox) (state : PricingState) (other : Prices) → IsBoxOf job area
    → ((i : ℕ) → i < suppliers job → IsSupplierPriced job area state.goods i (supplier_prices state i))
    → Fits job area other → other.goods ≡ state.goods
    → value job area other
    ≤ℤ (goods_value job state.goods +ℤ signed_sum_to (suppliers job) (λ i. supplier_value (charges_of job) job area state.goods (place_of (supplier_prices state i)) i))
unfolding segment_price
no_better job area state other b priced fits same =
    let all = signed_sum_to-le (suppliers job) (λ i. supplier_value (charges_of job) job area state.goods (segment_price area other i) i)
    (λ i. supplier_value (charges_of job) job area state.goods (place_of (supplier_prices state i)) i)
    (λ i below. supplier_value-le (charges_of job) job area state.goods (segment_price area other i) (place_of (supplier_prices state i)) i (b.ranges i below)
    (λ j a. (let p = (priced i below).each_place j a in
    let e = p.is_worth in
    let l = p.best (segment_price area other i j) (price_in other.places _ fits.place_prices) in
    omega (arith, ints)))) in
    let is = value_is job area other in
    let turned = subst (λ (g : List ℤ). value job area other ≡ goods_value job g +ℤ signed_sum_to (suppliers job) (λ i. supplier_value (charges_of job) job area g (segment_price area other i) i)) same is in
    omega (arith, ints)

pub state_in_range : (job : Job) (state : PricingState) → length state.suppliers ≡ suppliers job → All (IsInRange (goods job)) state.suppliers → AreInRange job state
unfolding supplier_prices
state_in_range job state count all i below = All-get_or (IsInRange (goods job)) state.suppliers i no_prices (omega arith) all

-- a pricing whose suppliers are all priced is that of its goods' prices
priced_for_it : (job : Job) (area : IntervalBox) (prices : List ℤ) (state : PricingState) → IsBoxOf job area → AreGoodPrices job prices → state.goods ≡ prices
    → length state.suppliers ≡ suppliers job → All (IsInRange (goods job)) state.suppliers
    → ((i : ℕ) → i < suppliers job → IsSupplierPriced job area prices i (get_or state.suppliers i no_prices))
    → state.value ≡ goods_value job prices +ℤ signed_sum_to (suppliers job) (λ i. supplier_value (charges_of job) job area prices (place_of (get_or state.suppliers i no_prices)) i)
    → IsPricedFor job area prices state
unfolding supplier_prices
priced_for_it job area prices state b good same count all priced amount =
    let r = state_in_range job state count all in
    let made : IsMadeFor job state = record { good_count = ap length same ∙ good.count; supplier_count = count } in
    let back = sym same in
    let in_range = subst (All IsGoodPrice) back good.in_range in
    let here = subst (λ (g : List ℤ). (i : ℕ) → i < suppliers job → IsSupplierPriced job area g i (supplier_prices state i)) back priced in
    let total = subst (λ (g : List ℤ). state.value ≡ goods_value job g +ℤ signed_sum_to (suppliers job) (λ i. supplier_value (charges_of job) job area g (place_of (supplier_prices state i)) i)) back amount in
    record {
      made = made;
      same_goods = same;
      best_row = record {
        fits = row_fits job area state b made in_range r;
        same_goods = row_goods job area state ∙ same;
        is_value = total ∙ sym (row_value job area state b r);
        best = λ other fits goods. rw total (no_better job area state other b here fits (goods ∙ back));
      };
      each_supplier = priced;
    }

pub priced_for : (job : Job) (area : IntervalBox) (prices : List ℤ) (state : PricingState) (found : List SupplierPrices) → IsBoxOf job area → AreGoodPrices job prices
    → state.goods ≡ prices → state.suppliers ≡ found → length found ≡ suppliers job → All (IsInRange (goods job)) found
    → ((i : ℕ) → i < suppliers job → IsSupplierPriced job area prices i (get_or found i no_prices))
    → state.value ≡ goods_value job prices +ℤ signed_sum_to (suppliers job) (λ i. supplier_value (charges_of job) job area prices (place_of (get_or found i no_prices)) i)
    → IsPricedFor job area prices state
priced_for job area prices state found b good same is count all priced amount =
    let back = sym is in
    priced_for_it job area prices state b good same (ap length is ∙ count) (subst (All (IsInRange (goods job))) back all)
    (subst (λ (xs : List SupplierPrices). (i : ℕ) → i < suppliers job → IsSupplierPriced job area prices i (get_or xs i no_prices)) back priced)
    (subst (λ (xs : List SupplierPrices). state.value ≡ goods_value job prices +ℤ signed_sum_to (suppliers job) (λ i. supplier_value (charges_of job) job area prices (place_of (get_or xs i no_prices)) i)) back amount)

-- the value of a pricing is determined by the job, the box and the goods' prices
pub same_value : (job : Job) (area : IntervalBox) (prices : List ℤ) (a b : PricingState) → IsPricedFor job area prices a → IsPricedFor job area prices b → a.value ≡ b.value
same_value job area prices a b p q =
    let up = q.best_row.best (row_of job area a) p.best_row.fits p.best_row.same_goods in
    let down = p.best_row.best (row_of job area b) q.best_row.fits q.best_row.same_goods in
    let e = p.best_row.is_value in
    let f = q.best_row.is_value in
    omega (arith, ints)

-- a supplier of a pricing that the code reads
pub supplier_read : (state : PricingState) (i : ℕ) (found : List SupplierPrices) (p : SupplierPrices) → found ≡ state.suppliers → i < length state.suppliers
    → p ≡ get_or found i p → p ≡ supplier_prices state i
unfolding supplier_prices
supplier_read state i found p same below here =
    get_or_read found i p (omega (arith, ap length same)) here no_prices ∙ ap (λ (xs : List SupplierPrices). get_or xs i no_prices) same

pub supplier_in_range : (width i : ℕ) (found : List SupplierPrices) (p : SupplierPrices) → All (IsInRange width) found → i < length found
    → p ≡ get_or found i p → IsInRange width p
supplier_in_range width i found p all below here = subst (IsInRange width) (sym here) (All-get_or (IsInRange width) found i p below all)

-- the numbers of a pricing that is made for a job
pub kept_in_range : (job : Job) (state : PricingState) (prices : List ℤ) (found : List SupplierPrices) → prices ≡ state.goods → found ≡ state.suppliers → IsMadeFor job state
    → All (IsInRange (length prices)) found → AreInRange job state
kept_in_range job state prices found g f made all =
    let width : length prices ≡ goods job = ap length g ∙ made.good_count in
    state_in_range job state made.supplier_count (subst (All (IsInRange (goods job))) f (subst (λ (w : ℕ). All (IsInRange w) found) width all))

-- the row as the code builds it
pub row_is : (job : Job) (area : IntervalBox) (state : PricingState) (prices places : List ℤ) → prices ≡ state.goods → places ≡ all_places area state (suppliers job)
    → (let row : Prices = record { goods = prices; places = places } in row) ≡ row_of job area state
unfolding row_of
row_is job area state prices places g p = ap₂ (λ (a b : List ℤ). (let row : Prices = record { goods = a; places = b } in row)) g p

-- the places of one supplier more, as the code adds them
pub places_more : (area : IntervalBox) (state : PricingState) (n : ℕ) (old new : List ℤ) (p : SupplierPrices) → p ≡ supplier_prices state n → old ≡ all_places area state n
    → new ≡ old ++ take (count_of area n) (drop (first_of area n) p.places) → new ≡ all_places area state (n + 1)
unfolding range_places
places_more area state n old new p e before is =
    is
    ∙ ap (λ (q : SupplierPrices). old ++ take (count_of area n) (drop (first_of area n) q.places)) e
    ∙ ap (λ (xs : List ℤ). xs ++ take (count_of area n) (drop (first_of area n) (supplier_prices state n).places)) before
    ∙ sym (all_places-suc area state n)
    ∙ ap (all_places area state) (sym (add-one n))
