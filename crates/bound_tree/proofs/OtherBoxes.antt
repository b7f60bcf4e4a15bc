-- Prices that stand at the places of a box by the number of their segment.
use Rattle.std.proofs.Common.{ℕ, zero, suc, ◌≡◌, ◌+◌, ◌-◌, ◌<◌, ◌≤◌, ℤ, pos, List, [], ◌∷◌, ◌++◌, length, get_or, take, refl, ap, subst, sym, ◌∙◌, arith, inl, inr, length-append, append-nil, append_assoc}
use Rattle.std.proofs.Math.ListN.{get_or-append}
use Rattle.std.proofs.Math.Seq.{take-suc}
use Rattle.std.proofs.lemmas.Bool.{cases_lt}
use Rattle.std.proofs.lemmas.List.{get_or-append-add, take_all}
use Rattle.std.proofs.lemmas.List.Elements.{All-nil, All-cons, All-append}
use Rattle.std.specs.List.{All}
use Rattle.tqd_instance.specs.declared.job.Job.{Job}
use Rattle.tqd_instance.specs.Job.{suppliers}
use Rattle.interval_box.specs.declared.boxes.IntervalBox.{IntervalBox}
use Rattle.interval_box.specs.Ranges.{Admits, IsBoxOf}
use Rattle.bound_tree.specs.Prices.{Prices, first_of, count_of, places_to, place_of, price_at, segment_price, IsPrice, Fits}
use Rattle.bound_tree.specs.Narrowed.{IsPartOf, IsNarrowed, AreNarrowedPlaces}
use Rattle.bound_tree.specs.OtherBox.{prices_from, places_by, narrowed}
use Rattle.bound_tree.proofs.BoxPlaces.{places_to-zero, places_to-more, places_to-within, place_below}
use Rattle.bound_tree.proofs.NarrowedValues.{is_narrowed}
use Rattle.bound_tree.proofs.PriceReads.{price_in}

pub length-prices_from : (a n : ℕ) (f : ℕ → ℤ) → length (prices_from a n f) ≡ n
unfolding prices_from
length-prices_from a zero f = refl
length-prices_from a (suc n) f = omega (arith, length-append (prices_from a n f) (f (a + n) ∷ []), length-prices_from a n f)

prices_from-at : (a n : ℕ) (f : ℕ → ℤ) (k : ℕ) → k < n → get_or (prices_from a n f) k (pos 0) ≡ f (a + k)
unfolding prices_from
prices_from-at a zero f k below = absurd (omega arith)
prices_from-at a (suc n) f k below = elim (cases_lt k n) [
  | inl before ↦ get_or-append (prices_from a n f) (f (a + n) ∷ []) (pos 0) k (omega (arith, length-prices_from a n f)) ∙ prices_from-at a n f k before
  | inr past ↦ (
      let same : k ≡ length (prices_from a n f) + 0 = omega (arith, length-prices_from a n f) in
      let here : n ≡ k = omega arith in
      ap (λ (m : ℕ). get_or (prices_from a n f ++ f (a + n) ∷ []) m (pos 0)) same ∙ get_or-append-add (prices_from a n f) (f (a + n) ∷ []) 0 (pos 0) ∙ ap (λ (m : ℕ). f (a + m)) here)
]

pub prices_from-same : (a n : ℕ) (f g : ℕ → ℤ) → ((k : ℕ) → k < n → f (a + k) ≡ g (a + k)) → prices_from a n f ≡ prices_from a n g
unfolding prices_from
prices_from-same a zero f g same = refl
prices_from-same a (suc n) f g same =
    ap (λ (xs : List ℤ). xs ++ f (a + n) ∷ []) (prices_from-same a n f g (λ k below. same k (omega arith)))
    ∙ ap (λ (z : ℤ). prices_from a n g ++ z ∷ []) (same n (omega arith))

prices_from-all : (P : ℤ → Type 0) (a n : ℕ) (f : ℕ → ℤ) → ((j : ℕ) → P (f j)) → All P (prices_from a n f)
unfolding prices_from
prices_from-all P a zero f all = All-nil P
prices_from-all P a (suc n) f all = All-append P (prices_from a n f) (f (a + n) ∷ []) (prices_from-all P a n f all) (All-cons P (f (a + n)) [] (all (a + n)) (All-nil P))

-- the prices in a piece of a list
prices_from-take : (xs : List ℤ) (p a n : ℕ) → p + n ≤ length xs → take p xs ++ prices_from a n (λ j. get_or xs (p + (j - a)) (pos 0)) ≡ take (p + n) xs
unfolding prices_from
prices_from-take xs p a zero fits = append-nil (take p xs) ∙ ap (λ (k : ℕ). take k xs) (omega arith)
prices_from-take xs p a (suc n) fits =
    let rest = prices_from-take xs p a n (omega arith) in
    let at : p + (a + n - a) ≡ p + n = omega arith in
    let next : suc (p + n) ≡ p + suc n = omega arith in
    sym (append_assoc (take p xs) (prices_from a n (λ j. get_or xs (p + (j - a)) (pos 0))) (get_or xs (p + (a + n - a)) (pos 0) ∷ []))
    ∙ (ap (λ (ys : List ℤ). ys ++ get_or xs (p + (a + n - a)) (pos 0) ∷ []) rest
    ∙ (ap (λ (k : ℕ). take (p + n) xs ++ get_or xs k (pos 0) ∷ []) at
    ∙ (sym (take-suc xs (p + n) (pos 0) (omega arith)) ∙ ap (λ (k : ℕ). take k xs) next)))

pub length-places_by : (area : IntervalBox) (n : ℕ) (f : ℕ → ℕ → ℤ) → length (places_by area n f) ≡ places_to area n
unfolding places_by
length-places_by area zero f = sym (places_to-zero area)
length-places_by area (suc n) f =
    omega (arith, length-append (places_by area n f) (prices_from (first_of area n) (count_of area n) (f n)), length-prices_from (first_of area n) (count_of area n) (f n), length-places_by area n f, places_to-suc area n)
  where
    places_to-suc : (area : IntervalBox) (n : ℕ) → places_to area (suc n) ≡ places_to area n + count_of area n
    places_to-suc area n = ap (places_to area) (omega arith) ∙ places_to-more area n

admitted : (area : IntervalBox) (i k : ℕ) → k < count_of area i → Admits area i (first_of area i + k)
unfolding first_of count_of
admitted area i k below = record { from_low = omega arith; to_high = omega arith }

admitted_some : (area : IntervalBox) (i k : ℕ) → 1 ≤ first_of area i + k
unfolding first_of
admitted_some area i k = omega arith

in_range : (area : IntervalBox) (i j : ℕ) → 1 ≤ j → Admits area i j → (j - first_of area i < count_of area i) × (first_of area i + (j - first_of area i) ≡ j)
unfolding first_of count_of
in_range area i j some a = (omega (arith, a.from_low, a.to_high), omega (arith, a.from_low))

place_is : (area : IntervalBox) (i j : ℕ) → place_of area i j ≡ places_to area i + (j - first_of area i)
unfolding place_of
place_is area i j = refl

-- the price at the place of a segment
pub places_by-at : (area : IntervalBox) (n : ℕ) (f : ℕ → ℕ → ℤ) (i j : ℕ) → i < n → 1 ≤ j → Admits area i j → price_at (places_by area n f) (place_of area i j) ≡ f i j
unfolding places_by price_at
places_by-at area zero f i j below some a = absurd (omega arith)
places_by-at area (suc n) f i j below some a = elim (cases_lt i n) [
  | inl before ↦
      get_or-append (places_by area n f) (prices_from (first_of area n) (count_of area n) (f n)) (pos 0) (place_of area i j)
      (omega (arith, length-places_by area n f, places_to-within area i n before, place_below area i j some a))
      ∙ places_by-at area n f i j before some a
  | inr past ↦ (
      let here : i ≡ n = omega arith in
      let last = λ (m : ℕ) (same : m ≡ n) (b : Admits area m j). at_last m same b in
      last i here a)
]
  where
    at_last : (m : ℕ) → m ≡ n → Admits area m j → get_or (places_by area n f ++ prices_from (first_of area n) (count_of area n) (f n)) (place_of area m j) (pos 0) ≡ f m j
    at_last m same b =
        let c : Admits area n j = subst (λ (k : ℕ). Admits area k j) same b in
        let r = in_range area n j some c in
        let at : place_of area m j ≡ length (places_by area n f) + (j - first_of area n) = ap (λ (k : ℕ). place_of area k j) same ∙ omega (arith, place_is area n j, length-places_by area n f) in
        ap (λ (k : ℕ). get_or (places_by area n f ++ prices_from (first_of area n) (count_of area n) (f n)) k (pos 0)) at
        ∙ (get_or-append-add (places_by area n f) (prices_from (first_of area n) (count_of area n) (f n)) (j - first_of area n) (pos 0)
        ∙ (prices_from-at (first_of area n) (count_of area n) (f n) (j - first_of area n) r.0
        ∙ (ap (f n) r.1 ∙ ap (λ (k : ℕ). f k j) (sym same))))

pub places_by-same : (area : IntervalBox) (n : ℕ) (f g : ℕ → ℕ → ℤ) → ((i j : ℕ) → i < n → 1 ≤ j → Admits area i j → f i j ≡ g i j) → places_by area n f ≡ places_by area n g
unfolding places_by
places_by-same area zero f g same = refl
places_by-same area (suc n) f g same =
    ap (λ (xs : List ℤ). xs ++ prices_from (first_of area n) (count_of area n) (f n)) (places_by-same area n f g (λ i j below some a. same i j (omega arith) some a))
    ∙ ap (λ (xs : List ℤ). places_by area n g ++ xs) (prices_from-same (first_of area n) (count_of area n) (f n) (g n)
    (λ k below. same n (first_of area n + k) (omega arith) (admitted_some area n k) (admitted area n k below)))

pub places_by-all : (P : ℤ → Type 0) (area : IntervalBox) (n : ℕ) (f : ℕ → ℕ → ℤ) → ((i j : ℕ) → P (f i j)) → All P (places_by area n f)
unfolding places_by
places_by-all P area zero f all = All-nil P
places_by-all P area (suc n) f all =
    All-append P (places_by area n f) (prices_from (first_of area n) (count_of area n) (f n)) (places_by-all P area n f all) (prices_from-all P (first_of area n) (count_of area n) (f n) (all n))

places_by-take : (area : IntervalBox) (n : ℕ) (xs : List ℤ) → places_to area n ≤ length xs → places_by area n (λ i j. price_at xs (place_of area i j)) ≡ take (places_to area n) xs
unfolding places_by price_at place_of
places_by-take area zero xs fits = ap (λ (k : ℕ). take k xs) (sym (places_to-zero area))
places_by-take area (suc n) xs fits =
    let more : places_to area (suc n) ≡ places_to area n + count_of area n = ap (places_to area) (omega arith) ∙ places_to-more area n in
    ap (λ (ys : List ℤ). ys ++ prices_from (first_of area n) (count_of area n) (λ j. get_or xs (places_to area n + (j - first_of area n)) (pos 0))) (places_by-take area n xs (omega arith))
    ∙ (prices_from-take xs (places_to area n) (first_of area n) (count_of area n) (omega arith) ∙ ap (λ (k : ℕ). take k xs) (sym more))

-- all prices at the places of a box, by their segments
pub places_by-all_of : (area : IntervalBox) (n : ℕ) (xs : List ℤ) → length xs ≡ places_to area n → places_by area n (λ i j. price_at xs (place_of area i j)) ≡ xs
places_by-all_of area n xs fits = places_by-take area n xs (omega arith) ∙ take_all (places_to area n) xs (omega arith)

-- a narrowed row
pub narrowed_goods : (job : Job) (area part : IntervalBox) (row : Prices) → (narrowed job area part row).goods ≡ row.goods
unfolding narrowed
narrowed_goods job area part row = refl

pub narrowed_places_are : (job : Job) (area part : IntervalBox) (row : Prices) → (narrowed job area part row).places ≡ places_by part (suppliers job) (segment_price area row)
unfolding narrowed
narrowed_places_are job area part row = refl

pub segment_price-is : (area : IntervalBox) (row : Prices) (i j : ℕ) → segment_price area row i j ≡ price_at row.places (place_of area i j)
unfolding segment_price
segment_price-is area row i j = refl

segment_in : (area : IntervalBox) (row : Prices) → All IsPrice row.places → (i j : ℕ) → IsPrice (segment_price area row i j)
segment_in area row all i j = subst IsPrice (sym (segment_price-is area row i j)) (price_in row.places (place_of area i j) all)

narrowed_are : (job : Job) (area part : IntervalBox) (row : Prices) → All IsPrice row.places → AreNarrowedPlaces job area part row.places (narrowed job area part row).places
narrowed_are job area part row all =
    let is = narrowed_places_are job area part row in
    record {
      count = ap length is ∙ length-places_by part (suppliers job) (segment_price area row);
      same = λ i j below some a. ap (λ (xs : List ℤ). price_at xs (place_of part i j)) is ∙ (places_by-at part (suppliers job) (segment_price area row) i j below some a ∙ segment_price-is area row i j);
      in_range = subst (All IsPrice) (sym is) (places_by-all IsPrice part (suppliers job) (segment_price area row) (segment_in area row all));
    }

pub narrowed_is : (job : Job) (area part : IntervalBox) (row : Prices) → IsBoxOf job part → IsPartOf job part area → Fits job area row → IsNarrowed job area part row (narrowed job area part row)
narrowed_is job area part row b within f = is_narrowed job area part row (narrowed job area part row) b within f (narrowed_goods job area part row) (narrowed_are job area part row f.place_prices)

-- a segment's price in a narrowed row
pub narrowed_segment : (job : Job) (area part : IntervalBox) (row : Prices) (i j : ℕ) → i < suppliers job → 1 ≤ j → Admits part i j
    → segment_price part (narrowed job area part row) i j ≡ segment_price area row i j
narrowed_segment job area part row i j below some a =
    segment_price-is part (narrowed job area part row) i j
    ∙ (ap (λ (xs : List ℤ). price_at xs (place_of part i j)) (narrowed_places_are job area part row) ∙ places_by-at part (suppliers job) (segment_price area row) i j below some a)
