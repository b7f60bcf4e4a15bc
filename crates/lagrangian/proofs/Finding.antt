-- What is found for a supplier, one place after another, and what its range is worth.
use Rattle.std.proofs.Common.{ℕ, ◌≡◌, ◌+◌, ◌-◌, ◌<◌, ◌≤◌, ℤ, pos, ◌≤ℤ◌, ◌<ℤ◌, List, slice_index, length, get_or, set, refl, ap, sym, ◌∙◌, arith, subst, inl, inr, get_or-set_same, get_or-set_other, length-set}
use Rattle.std.specs.List.{All}
use Rattle.std.proofs.lemmas.Bool.{cases_lt}
use Rattle.std.proofs.lemmas.Int.{ints}
use Rattle.std.proofs.lemmas.List.Elements.{All-set}
use Rattle.tqd_instance.specs.declared.job.Job.{Job}
use mir.Syntax.{w64, w128}
use mir.Val.{to_z, of_z}
use Rattle.tqd_instance.specs.Job.{suppliers}
use Rattle.tqd_instance.proofs.Jobs.{job_in_range}
use Rattle.interval_box.specs.declared.boxes.IntervalBox.{IntervalBox}
use Rattle.interval_box.specs.Ranges.{low_of, high_of, Admits, IsRangeOf, IsBoxOf}
use Rattle.bound_tree.specs.LeastFrom.{least_from}
use Rattle.bound_tree.specs.Prices.{price_at, IsPrice}
use Rattle.bound_tree.specs.Value.{Charges, charges_of, segment_value, supplier_value}
use Rattle.bound_tree.proofs.PriceReads.{price_read}
use Rattle.bound_tree.proofs.SignedSums.{least_from-le, le-least_from}
use Rattle.bound_tree.proofs.SegmentValues.{supplier_value-is}
use Rattle.lagrangian.specs.declared.supplier.SupplierPrices.{SupplierPrices}
use Rattle.lagrangian.proofs.PriceReads.{worth_read, worth_in}
use Rattle.lagrangian.specs.Priced.{IsWorth, IsInRange, place_of, worth_of, units_of, IsBestPlace, IsFoundPlace, IsFirstLeast, AreCheapest, IsSupplierPriced}

-- the number that is set at a place, and the others
set_here : (xs : List ℤ) (ys : List ℤ) (j : ℕ) (z : ℤ) → j < length xs → ys ≡ set xs j z → price_at ys j ≡ z
unfolding price_at
set_here xs ys j z below e = ap (λ (l : List ℤ). get_or l j (pos 0)) e ∙ get_or-set_same xs j z (pos 0) below

set_other : (xs : List ℤ) (ys : List ℤ) (j k : ℕ) (z : ℤ) → k < j → ys ≡ set xs j z → price_at ys k ≡ price_at xs k
unfolding price_at
set_other xs ys j k z below e = ap (λ (l : List ℤ). get_or l k (pos 0)) e ∙ get_or-set_other xs j k z (pos 0) (λ s. omega arith)

-- one supplier has the numbers of another but at one place
pub record IsSetAt (old new : SupplierPrices) (j : ℕ) (place worth : ℤ) : Type 0 where
  pub places : new.places ≡ set old.places j place
  pub worths : new.worths ≡ set old.worths j worth
  pub least : new.least ≡ old.least
  pub units : new.units ≡ old.units

pub set_in_range : (width : ℕ) (old new : SupplierPrices) (j : ℕ) (place worth : ℤ) → IsSetAt old new j place worth → IsPrice place → IsWorth worth
    → IsInRange width old → IsInRange width new
set_in_range width old new j place worth is price amount r = record {
  place_count = ap length is.places ∙ length-set old.places j place ∙ r.place_count;
  worth_count = ap length is.worths ∙ length-set old.worths j worth ∙ r.worth_count;
  place_prices = subst (All IsPrice) (sym is.places) (All-set IsPrice old.places j place price r.place_prices);
  worth_range = subst (All IsWorth) (sym is.worths) (All-set IsWorth old.worths j worth amount r.worth_range);
  least_range = omega (arith, is.least, r.least_range);
  unit_count = ap length is.units ∙ r.unit_count;
  unit_range = subst (All (λ n. n ≤ 100000000)) (sym is.units) r.unit_range;
}

-- the places of a supplier from low on, as far as next, are found
abbrev pub AreFoundTo : Job → List ℤ → ℕ → ℕ → ℕ → SupplierPrices → Type 0
AreFoundTo job prices i low next p = (j : ℕ) → low ≤ j → j < next → IsFoundPlace job prices i j (place_of p j) (worth_of p j)

pub found_next : (job : Job) (prices : List ℤ) (i low next width : ℕ) (old new : SupplierPrices) (place worth : ℤ) → next ≤ 16 → IsInRange width old
    → IsSetAt old new next place worth → IsFoundPlace job prices i next place worth → AreFoundTo job prices i low next old
    → AreFoundTo job prices i low (next + 1) new
unfolding place_of worth_of
found_next job prices i low next width old new place worth few r is here before j from to = elim (cases_lt j next) [
  | inl early ↦
      (let a = set_other old.places new.places next j place early is.places in
      let b = set_other old.worths new.worths next j worth early is.worths in
      rw (a, b) (before j from early))
  | inr late ↦
      (let at : next ≡ j = omega arith in
      let a = set_here old.places new.places next place (omega (arith, r.place_count)) is.places in
      let b = set_here old.worths new.worths next worth (omega (arith, r.worth_count)) is.worths in
      subst (λ (k : ℕ). IsFoundPlace job prices i k (price_at new.places k) (price_at new.worths k)) at (rw (a, b) here))
]

-- a range is worth no more than another where no segment is
pub supplier_value-le : (charges : Charges) (job : Job) (area : IntervalBox) (prices : List ℤ) (g h : ℕ → ℤ) (i : ℕ) → IsRangeOf job area i
    → ((j : ℕ) → Admits area i j → segment_value charges job prices (g j) i j ≤ℤ segment_value charges job prices (h j) i j)
    → supplier_value charges job area prices g i ≤ℤ supplier_value charges job area prices h i
supplier_value-le charges job area prices g h i range le =
    let low = low_of area i in
    let n = high_of area i - low_of area i in
    let ordered = range.ordered in
    let f = λ (j : ℕ). segment_value charges job prices (g j) i j in
    let all : least_from low n f ≤ℤ least_from low n (λ j. segment_value charges job prices (h j) i j) =
    le-least_from low n (λ j. segment_value charges job prices (h j) i j) (least_from low n f)
    (λ j from to. (let one = least_from-le low n f j from to in let two = le j (record { from_low = from; to_high = omega arith }) in omega (arith, ints))) in
    let a = supplier_value-is charges job area prices g i low n refl refl in
    let b = supplier_value-is charges job area prices h i low n refl refl in
    omega (arith, ints)

-- what the first least segment is worth is what the range is worth
pub least_is : (job : Job) (area : IntervalBox) (prices : List ℤ) (i : ℕ) (p : SupplierPrices) → IsRangeOf job area i
    → ((j : ℕ) → Admits area i j → IsBestPlace job prices i j (place_of p j) (worth_of p j)) → IsFirstLeast area i (worth_of p) p.least
    → worth_of p p.least ≡ supplier_value (charges_of job) job area prices (place_of p) i
least_is job area prices i p range best first =
    let low = low_of area i in
    let n = high_of area i - low_of area i in
    let f = λ (j : ℕ). segment_value (charges_of job) job prices (place_of p j) i j in
    let here = (best p.least first.admitted).is_worth in
    let down = least_from-le low n f p.least first.admitted.from_low (omega (arith, first.admitted.from_low, first.admitted.to_high)) in
    let up = le-least_from low n f (worth_of p p.least)
    (λ j from to. (let admitted : Admits area i j = record { from_low = from; to_high = omega (arith, range.ordered) } in
    let l = first.least j admitted in let w = (best j admitted).is_worth in omega (arith, ints))) in
    let is = supplier_value-is (charges_of job) job area prices (place_of p) i low n refl refl in
    omega (arith, ints)

-- a place that is found, with its price as it is read
pub found_read : (job : Job) (prices : List ℤ) (i j : ℕ) (p : SupplierPrices) (z : ℤ) → IsFoundPlace job prices i j (place_of p j) (worth_of p j) → z ≡ place_of p j
    → IsFoundPlace job prices i j z (segment_value (charges_of job) job prices z i j)
found_read job prices i j p z found is =
    subst (λ w. IsFoundPlace job prices i j w (segment_value (charges_of job) job prices w i j)) (sym is)
    (subst (IsFoundPlace job prices i j (place_of p j)) found.best_place.is_worth found)

place_is : (p : SupplierPrices) (j : ℕ) → place_of p j ≡ price_at p.places j
unfolding place_of
place_is p j = refl

worth_is_at : (p : SupplierPrices) (j : ℕ) → worth_of p j ≡ price_at p.worths j
unfolding worth_of
worth_is_at p j = refl

-- what the code reads at a place of a supplier
pub place_got : (p : SupplierPrices) (width j at : ℕ) → IsInRange width p → at ≡ j → to_z w64 (of_z w64 (get_or p.places at (pos 0))) ≡ place_of p j
place_got p width j at r e = price_read p.places at r.place_prices ∙ ap (price_at p.places) e ∙ sym (place_is p j)

pub worth_got : (p : SupplierPrices) (width j at : ℕ) → IsInRange width p → at ≡ j → to_z w128 (of_z w128 (get_or p.worths at (pos 0))) ≡ worth_of p j
worth_got p width j at r e = worth_read p.worths at r.worth_range ∙ ap (price_at p.worths) e ∙ sym (worth_is_at p j)

-- the first least of the range
pub first_is : (area : IntervalBox) (i low high j : ℕ) (p : SupplierPrices) → low ≡ low_of area i → high ≡ high_of area i → low ≤ j → j ≤ high
    → ((k : ℕ) → low ≤ k → k ≤ high → price_at p.worths j ≤ℤ price_at p.worths k)
    → ((k : ℕ) → low ≤ k → k < j → price_at p.worths j <ℤ price_at p.worths k)
    → IsFirstLeast area i (worth_of p) j
unfolding worth_of
first_is area i low high j p l h from to least first = record {
  admitted = record { from_low = omega arith; to_high = omega arith };
  least = λ other a. least other (omega (arith, a.from_low)) (omega (arith, a.to_high));
  first = λ other a early. first other (omega (arith, a.from_low)) early;
}

-- a supplier with the same places and worths, a first least segment and its cheapest units
pub priced_from : (job : Job) (area : IntervalBox) (prices : List ℤ) (i : ℕ) (old new : SupplierPrices) → new.places ≡ old.places → new.worths ≡ old.worths
    → ((j : ℕ) → Admits area i j → IsFoundPlace job prices i j (place_of old j) (worth_of old j)) → IsFirstLeast area i (worth_of old) new.least
    → AreCheapest job prices i new.least (slice_index new.units) (worth_of old new.least) → IsSupplierPriced job area prices i new
unfolding place_of worth_of units_of
priced_from job area prices i old new p w found first cheapest = record {
  each_place = λ j a. rw (p, w) (found j a).best_place;
  first_least = subst (λ (xs : List ℤ). IsFirstLeast area i (λ j. price_at xs j) new.least) (sym w) first;
  cheapest = subst (λ (xs : List ℤ). AreCheapest job prices i new.least (slice_index new.units) (price_at xs new.least)) (sym w) cheapest;
}

pub least_value : (job : Job) (area : IntervalBox) (prices : List ℤ) (i : ℕ) (old new : SupplierPrices) → new.places ≡ old.places → new.worths ≡ old.worths
    → IsRangeOf job area i → IsSupplierPriced job area prices i new → worth_of old new.least ≡ supplier_value (charges_of job) job area prices (place_of new) i
unfolding worth_of
least_value job area prices i old new p w range priced =
    ap (λ (xs : List ℤ). price_at xs new.least) (sym w) ∙ least_is job area prices i new range priced.each_place priced.first_least

-- the numbers of a supplier with a first least segment and its units
pub filled_in_range : (width : ℕ) (old new : SupplierPrices) → new.places ≡ old.places → new.worths ≡ old.worths → new.least ≤ 16 → length new.units ≡ width
    → All (λ n. n ≤ 100000000) new.units → IsInRange width old → IsInRange width new
filled_in_range width old new p w least count few r = record {
  place_count = ap length p ∙ r.place_count;
  worth_count = ap length w ∙ r.worth_count;
  place_prices = subst (All IsPrice) (sym p) r.place_prices;
  worth_range = subst (All IsWorth) (sym w) r.worth_range;
  least_range = least;
  unit_count = count;
  unit_range = few;
}

-- the limits of a job
pub few_suppliers : (job : Job) (i : ℕ) → i < suppliers job → i < 64
few_suppliers job i below = omega (arith, (job_in_range job).few_suppliers)

pub few_segments : (job : Job) (area : IntervalBox) (i : ℕ) → IsBoxOf job area → i < suppliers job → high_of area i ≤ 16
few_segments job area i b below = omega (arith, (b.ranges i below).within, ((job_in_range job).each_supplier i below).few)

pub worth_range_of : (p : SupplierPrices) (width j : ℕ) → IsInRange width p → IsWorth (worth_of p j)
worth_range_of p width j r = rw (worth_is_at p j) (worth_in p.worths j r.worth_range)
