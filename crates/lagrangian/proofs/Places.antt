-- The prices of all places of a box, one supplier after another.
use Rattle.std.proofs.Common.{ℕ, zero, suc, ◌≡◌, ◌+◌, ◌-◌, ◌<◌, ◌≤◌, ℤ, pos, List, [], ◌++◌, length, drop, get_or, refl, ap, sym, ◌∙◌, arith, subst, inl, inr, add-one, length-append, length-take, length-drop, get_or-take, get_or-drop, get_or-append-add}
use Rattle.std.specs.List.{All}
use Rattle.std.proofs.lemmas.Bool.{cases_lt}
use Rattle.std.proofs.lemmas.List.{get_or_append_left}
use Rattle.std.proofs.lemmas.List.Elements.{All-nil, All-append, All-take, All-drop}
use Rattle.tqd_instance.specs.declared.job.Job.{Job}
use Rattle.tqd_instance.specs.Job.{goods, suppliers}
use Rattle.tqd_instance.proofs.Jobs.{job_in_range}
use Rattle.interval_box.specs.declared.boxes.IntervalBox.{IntervalBox}
use Rattle.interval_box.specs.Ranges.{Admits, IsBoxOf}
use Rattle.bound_tree.specs.Prices.{price_at, first_of, count_of, places_to, place_of as box_place, IsPrice}
use Rattle.bound_tree.proofs.BoxPlaces.{places_to-zero, places_to-more, places_to-within, place_below}
use Rattle.lagrangian.specs.Priced.{IsInRange, place_of}
use Rattle.lagrangian.specs.PricingState.{PricingState, supplier_prices}
use Rattle.lagrangian.specs.Pricing.{range_places, all_places}

-- the numbers of each supplier are in range
abbrev pub AreInRange : Job → PricingState → Type 0
AreInRange job state = (i : ℕ) → i < suppliers job → IsInRange (goods job) (supplier_prices state i)

-- where the places of a supplier end
first_and_count : (job : Job) (area : IntervalBox) (i : ℕ) → IsBoxOf job area → i < suppliers job → first_of area i + count_of area i ≤ 17
unfolding first_of count_of
first_and_count job area i b below =
    let r = b.ranges i below in
    let few = ((job_in_range job).each_supplier i below).few in
    omega (arith, r.within, r.ordered)

range_count : (job : Job) (area : IntervalBox) (state : PricingState) (i : ℕ) → IsBoxOf job area → i < suppliers job → AreInRange job state
    → length (range_places area state i) ≡ count_of area i
unfolding range_places
range_count job area state i b below r =
    let xs = (supplier_prices state i).places in
    omega (arith, length-take (count_of area i) (drop (first_of area i) xs), length-drop (first_of area i) xs, (r i below).place_count, first_and_count job area i b below)

range_at : (area : IntervalBox) (state : PricingState) (i j : ℕ) → 1 ≤ j → Admits area i j
    → get_or (range_places area state i) (j - first_of area i) (pos 0) ≡ place_of (supplier_prices state i) j
unfolding range_places place_of price_at first_of count_of
range_at area state i j some a =
    let xs = (supplier_prices state i).places in
    let from : first_of area i ≤ j = omega (arith, a.from_low) in
    let at : first_of area i + (j - first_of area i) ≡ j = omega arith in
    get_or-take (count_of area i) (drop (first_of area i) xs) (j - first_of area i) (pos 0) (omega (arith, a.to_high))
    ∙ get_or-drop (first_of area i) xs (j - first_of area i) (pos 0)
    ∙ ap (λ n. get_or xs n (pos 0)) at

-- the places of the first n suppliers
pub record AreAllPlaces (area : IntervalBox) (state : PricingState) (n : ℕ) (places : List ℤ) : Type 0 where
  pub count : length places ≡ places_to area n
  pub same : (i j : ℕ) → i < n → 1 ≤ j → Admits area i j → price_at places (box_place area i j) ≡ place_of (supplier_prices state i) j
  pub in_range : All IsPrice places

pub all_places-zero : (area : IntervalBox) (state : PricingState) → all_places area state 0 ≡ []
unfolding all_places
all_places-zero area state = refl

pub all_places-suc : (area : IntervalBox) (state : PricingState) (n : ℕ) → all_places area state (suc n) ≡ all_places area state n ++ range_places area state n
unfolding all_places
all_places-suc area state n = refl

-- the places of the next supplier stand behind those of the ones before it
next_at : (area : IntervalBox) (state : PricingState) (n j : ℕ) (places : List ℤ) → length places ≡ places_to area n → 1 ≤ j → Admits area n j
    → price_at (places ++ range_places area state n) (box_place area n j) ≡ place_of (supplier_prices state n) j
unfolding price_at box_place
next_at area state n j places count some a =
    let xs = range_places area state n in
    ap (λ m. get_or (places ++ xs) (m + (j - first_of area n)) (pos 0)) (sym count)
    ∙ get_or-append-add places xs (j - first_of area n) (pos 0)
    ∙ range_at area state n j some a

before_at : (area : IntervalBox) (state : PricingState) (n i j : ℕ) (places : List ℤ) → length places ≡ places_to area n → i < n → 1 ≤ j → Admits area i j
    → price_at (places ++ range_places area state n) (box_place area i j) ≡ price_at places (box_place area i j)
unfolding price_at
before_at area state n i j places count early some a =
    get_or_append_left places (range_places area state n) (pos 0) (box_place area i j)
    (omega (arith, count, place_below area i j some a, places_to-within area i n early))

range_prices : (area : IntervalBox) (state : PricingState) (i width : ℕ) → IsInRange width (supplier_prices state i) → All IsPrice (range_places area state i)
unfolding range_places
range_prices area state i width r =
    All-take IsPrice (count_of area i) (drop (first_of area i) (supplier_prices state i).places)
    (All-drop IsPrice (first_of area i) (supplier_prices state i).places r.place_prices)

places_next : (job : Job) (area : IntervalBox) (state : PricingState) (n : ℕ) (places : List ℤ) → IsBoxOf job area → AreInRange job state → n < suppliers job
    → AreAllPlaces area state n places → AreAllPlaces area state (n + 1) (places ++ range_places area state n)
places_next job area state n places b r below f =
    let xs = range_places area state n in
    let width = range_count job area state n b below r in
    record {
      count = omega (arith, length-append places xs, f.count, places_to-more area n);
      same = λ i j within some a. elim (cases_lt i n) [
        | inl early ↦ before_at area state n i j places f.count early some a ∙ f.same i j early some a
        | inr late ↦
            (let at : n ≡ i = omega arith in
            let admitted : Admits area n j = subst (λ m. Admits area m j) (sym at) a in
            subst (λ m. price_at (places ++ xs) (box_place area m j) ≡ place_of (supplier_prices state m) j) at (next_at area state n j places f.count some admitted))
      ];
      in_range = All-append IsPrice places xs f.in_range (range_prices area state n (goods job) (r n below));
    }

pub places_are : (job : Job) (area : IntervalBox) (state : PricingState) (n : ℕ) → IsBoxOf job area → AreInRange job state → n ≤ suppliers job
    → AreAllPlaces area state n (all_places area state n)
places_are job area state zero b r few =
    rw all_places-zero (record {
      count = sym (places_to-zero area);
      same = λ i j below. absurd (omega arith);
      in_range = All-nil IsPrice;
    })
places_are job area state (suc n) b r few =
    rw (all_places-suc area state n) (
    let next = places_next job area state n (all_places area state n) b r (omega arith) (places_are job area state n b r (omega arith)) in
    subst (λ m. AreAllPlaces area state m (all_places area state n ++ range_places area state n)) (add-one n) next)
