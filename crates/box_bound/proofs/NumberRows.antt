-- Lists of node numbers, and the row that they are.
use Rattle.std.proofs.Common.{ℕ, ◌≡◌, ◌+◌, ◌-◌, ◌<◌, ◌≤◌, ◌==◌, ◌++◌, ◌∷◌, if◌then◌else◌, List, [], length, ℤ, pos, neg_ℤ, ◌-ℤ◌, Bool, true, false, ap, subst, sym, ◌∙◌, arith, inl, inr, refl}
use Rattle.std.proofs.Common.{length-append}
use Rattle.std.specs.List.{All}
use Rattle.std.proofs.lemmas.Bool.{cases_lt}
use Rattle.std.proofs.lemmas.Bool.Decides.{nat_tests}
use Rattle.std.proofs.lemmas.Int.{ints, to_z-of_z}
use mir.Syntax.{w64}
use mir.Val.{to_z, of_z}
use Rattle.std.proofs.Math.ListN.{get_or-append}
use Rattle.std.proofs.lemmas.List.{get_or_push}
use Rattle.std.proofs.lemmas.List.Elements.{All-nil, All-from_get_or, All-get_or}
use Rattle.mcf_lower.specs.Answers.{has_of}
use Rattle.flow_prices.specs.Prices.{number_of}
use Rattle.tqd_instance.specs.declared.job.Job.{Job}
use Rattle.tqd_instance.specs.Job.{goods, suppliers}
use Rattle.interval_box.specs.declared.boxes.IntervalBox.{IntervalBox}
use Rattle.interval_box.specs.Ranges.{Admits}
use Rattle.bound_tree.specs.Prices.{Prices, IsPrice, price_at, segment_price, first_of, count_of, places_to, place_of}
use Rattle.bound_tree.proofs.PriceReads.{price_fits}
use Rattle.bound_tree.proofs.BoxPlaces.{places_to-zero, places_to-more, places_to-within, place_below}
use Rattle.box_bound.specs.BoxNet.{supplier_node, good_node}
use Rattle.box_bound.specs.NodeRow.{AreNodeNumbers, IsRowOf, HasNext, ArePlacePrices, cut_number, start_number, AreStartNumbers}

pub old_number : (xs : List ℤ) (x : ℤ) (ys : List ℤ) (v : ℕ) → ys ≡ xs ++ x ∷ [] → v < length xs → number_of ys v ≡ number_of xs v
old_number xs x ys v is below = ap (λ (l : List ℤ). number_of l v) is ∙ get_or-append xs (x ∷ []) (pos 0) v below

pub new_number : (xs : List ℤ) (x : ℤ) (ys : List ℤ) (v : ℕ) → ys ≡ xs ++ x ∷ [] → length xs ≡ v → number_of ys v ≡ x
new_number xs x ys v is here = ap (λ (l : List ℤ). number_of l v) is ∙ get_or_push xs x (pos 0) v here

pub length_pushed : (xs : List ℤ) (x : ℤ) (ys : List ℤ) → ys ≡ xs ++ x ∷ [] → length ys ≡ length xs + 1
length_pushed xs x ys is = ap length is ∙ length-append xs (x ∷ []) ∙ refl

pub next_none : (xs : List ℤ) (next : ℕ → ℤ) → HasNext xs xs 0 next
next_none xs next = record { count = omega arith; kept = λ a below. refl; each = λ k none. absurd (omega arith) }

pub next_one : (old mid new : List ℤ) (n : ℕ) (next : ℕ → ℤ) (x : ℤ) → HasNext old mid n next → new ≡ mid ++ x ∷ [] → x ≡ next n → HasNext old new (n + 1) next
next_one old mid new n next x h is here = record {
  count = omega (arith, length_pushed mid x new is, h.count);
  kept = λ a below. old_number mid x new a is (omega (arith, h.count)) ∙ h.kept a below;
  each = λ k small. elim (cases_lt k n) [
    | inl before ↦ old_number mid x new (length old + k) is (omega (arith, h.count)) ∙ h.each k before
    | inr last ↦ (let at : n ≡ k = omega arith in new_number mid x new (length old + k) is (omega (arith, h.count)) ∙ here ∙ ap next at)
  ];
}

-- the numbers from 0 on, one more
pub record AreFirst (n : ℕ) (xs : List ℤ) (next : ℕ → ℤ) : Type 0 where
  pub count : length xs ≡ n
  pub each : (k : ℕ) → k < n → number_of xs k ≡ next k

pub first_none : (xs : List ℤ) (next : ℕ → ℤ) → xs ≡ [] → AreFirst 0 xs next
first_none xs next none = record { count = ap length none; each = λ k small. absurd (omega arith) }

pub first_one : (xs ys : List ℤ) (n : ℕ) (next : ℕ → ℤ) (x : ℤ) → AreFirst n xs next → ys ≡ xs ++ x ∷ [] → x ≡ next n → AreFirst (n + 1) ys next
first_one xs ys n next x h is here = record {
  count = omega (arith, length_pushed xs x ys is, h.count);
  each = λ k small. elim (cases_lt k n) [
    | inl before ↦ old_number xs x ys k is (omega (arith, h.count)) ∙ h.each k before
    | inr last ↦ (let at : n ≡ k = omega arith in new_number xs x ys k is (omega (arith, h.count)) ∙ here ∙ ap next at)
  ];
}

-- prices with the other sign, 0 and differences of 0 and 1 are prices
pub negated : (z : ℤ) → IsPrice z → IsPrice (neg_ℤ z)
negated z p = record { not_less = omega (arith, ints, p.not_more); not_more = omega (arith, ints, p.not_less) }

pub zero_price : IsPrice (pos 0)
zero_price = record { not_less = omega (arith, ints); not_more = omega (arith, ints) }

pub cut_price : (s t : Bool) → IsPrice (pos (if s then 1 else 0) -ℤ pos (if t then 1 else 0))
cut_price true true = record { not_less = omega (arith, ints); not_more = omega (arith, ints) }
cut_price true false = record { not_less = omega (arith, ints); not_more = omega (arith, ints) }
cut_price false true = record { not_less = omega (arith, ints); not_more = omega (arith, ints) }
cut_price false false = record { not_less = omega (arith, ints); not_more = omega (arith, ints) }

place_is : (area : IntervalBox) (i j : ℕ) → place_of area i j ≡ places_to area i + (j - first_of area i)
unfolding place_of
place_is area i j = refl

from_first : (area : IntervalBox) (i j : ℕ) → 1 ≤ j → Admits area i j → j - first_of area i < count_of area i
unfolding count_of first_of
from_first area i j some a = omega (arith, a.from_low, a.to_high)

price_is : (prices : List ℤ) (at : ℕ) → price_at prices at ≡ number_of prices at
unfolding price_at
price_is prices at = refl

pub places_none : (area : IntervalBox) (numbers prices : List ℤ) → prices ≡ [] → ArePlacePrices area numbers 0 prices
places_none area numbers prices none = record {
  count = ap length none ∙ sym (places_to-zero area);
  same = λ i j below. absurd (omega arith);
  in_range = rw none (All-nil IsPrice);
}

-- the prices of one supplier's segments more
pub places_more : (area : IntervalBox) (numbers : List ℤ) (n : ℕ) (old new : List ℤ) (price : ℤ) (count : ℕ) → ArePlacePrices area numbers n old
    → HasNext old new count (λ k. price) → count ≡ count_of area n → price ≡ neg_ℤ (number_of numbers (supplier_node n)) → All IsPrice new → ArePlacePrices area numbers (n + 1) new
places_more area numbers n old new price count a h so_many is all = record {
  count = omega (arith, h.count, so_many, a.count, places_to-more area n);
  same = λ i j below some admits. elim (cases_lt i n) [
    | inl before ↦
        (let place = place_below area i j some admits in
        let inside = places_to-within area i n before in
        price_is new (place_of area i j) ∙ h.kept (place_of area i j) (omega (arith, a.count)) ∙ sym (price_is old (place_of area i j)) ∙ a.same i j before some admits)
    | inr last ↦
        (let here : n ≡ i = omega arith in
        subst (λ r. price_at new (place_of area r j) ≡ neg_ℤ (number_of numbers (supplier_node r))) here (at j some (subst (λ r. Admits area r j) (sym here) admits)))
  ];
  in_range = all;
}
  where
    at : (j : ℕ) → 1 ≤ j → Admits area n j → price_at new (place_of area n j) ≡ neg_ℤ (number_of numbers (supplier_node n))
    at j some admits =
        let place : place_of area n j ≡ length old + (j - first_of area n) = omega (arith, place_is area n j, a.count) in
        price_is new (place_of area n j) ∙ ap (number_of new) place ∙ h.each (j - first_of area n) (omega (arith, so_many, from_first area n j some admits)) ∙ is

-- the row of node numbers
pub is_row : (job : Job) (area : IntervalBox) (numbers : List ℤ) → AreNodeNumbers job numbers → (row : Prices) → length row.goods ≡ goods job
    → ((k : ℕ) → k < goods job → number_of row.goods k ≡ number_of numbers (good_node job k)) → ArePlacePrices area numbers (suppliers job) row.places
    → IsRowOf job area numbers row
unfolding segment_price
is_row job area numbers n row count each places = record {
  fits = record {
    goods = count;
    places = places.count;
    good_prices = All-from_get_or IsPrice row.goods (pos 0) (λ k below. subst IsPrice (sym (each k (omega arith))) (n.each (good_node job k) (omega arith)));
    place_prices = places.in_range;
  };
  goods = λ k small. price_is row.goods k ∙ each k small;
  segments = λ i j row some admits. places.same i j row some admits;
}

pub all_number : (xs : List ℤ) (v : ℕ) → All IsPrice xs → v < length xs → IsPrice (number_of xs v)
all_number xs v all below = All-get_or IsPrice xs v (pos 0) below all

-- the numbers of a cut are node numbers
pub cut_is : (job : Job) (members : List Bool) (numbers : List ℤ) → length numbers ≡ 1 + suppliers job + goods job
    → ((v : ℕ) → v < 1 + suppliers job + goods job → number_of numbers v ≡ cut_number members v) → AreNodeNumbers job numbers
cut_is job members numbers count each = record {
  nodes = count;
  hub = (let first = each 0 (omega arith) in omega (arith, ints, first));
  each = λ v below. subst IsPrice (sym (each v below)) (cut_price (has_of members v) (has_of members 0));
}

-- the numbers that a row gives
pub start_is : (job : Job) (area : IntervalBox) (row : Prices) (first second numbers : List ℤ) → length first ≡ 1 → number_of first 0 ≡ pos 0
    → HasNext first second (suppliers job) (start_number area row) → HasNext second numbers (goods job) (price_at row.goods) → All IsPrice numbers
    → AreStartNumbers job area row numbers
start_is job area row first second numbers one hub s g all = record {
  in_range = record {
    nodes = omega (arith, s.count, g.count);
    hub = g.kept 0 (omega (arith, s.count)) ∙ s.kept 0 (omega arith) ∙ hub;
    each = λ v below. all_number numbers v all (omega (arith, s.count, g.count));
  };
  suppliers = λ i supplier.
      (let at : supplier_node i ≡ length first + i = omega arith in
      g.kept (supplier_node i) (omega (arith, s.count)) ∙ ap (number_of second) at ∙ s.each i supplier);
  goods = λ k small.
      (let at : good_node job k ≡ length second + k = omega (arith, s.count) in
      ap (number_of numbers) at ∙ g.each k small);
}

-- what the code reads of a price, of a price with the other sign, and of the number of a node of a cut
pub read_price : (r z : ℤ) → r ≡ z → IsPrice z → to_z w64 (of_z w64 r) ≡ z
read_price r z is p = ap (λ x. to_z w64 (of_z w64 x)) is ∙ to_z-of_z w64 z (price_fits z p)

pub read_negated : (r z : ℤ) → r ≡ z → IsPrice z → to_z w64 (of_z w64 (pos 0 -ℤ to_z w64 (of_z w64 r))) ≡ neg_ℤ z
read_negated r z is p =
    let turned : pos 0 -ℤ to_z w64 (of_z w64 r) ≡ neg_ℤ z = omega (arith, ints, read_price r z is p) in
    read_price (pos 0 -ℤ to_z w64 (of_z w64 r)) (neg_ℤ z) turned (negated z p)

bit_price : (s : Bool) → IsPrice (pos (if s then 1 else 0))
bit_price true = record { not_less = omega (arith, ints); not_more = omega (arith, ints) }
bit_price false = record { not_less = omega (arith, ints); not_more = omega (arith, ints) }

pub read_cut : (m b : ℤ) (s t : Bool) → m ≡ pos (if s then 1 else 0) → b ≡ pos (if t then 1 else 0)
    → to_z w64 (of_z w64 (to_z w64 (of_z w64 m) -ℤ to_z w64 (of_z w64 b))) ≡ pos (if s then 1 else 0) -ℤ pos (if t then 1 else 0)
read_cut m b s t e f =
    let one = read_price m (pos (if s then 1 else 0)) e (bit_price s) in
    let other = read_price b (pos (if t then 1 else 0)) f (bit_price t) in
    read_price (to_z w64 (of_z w64 m) -ℤ to_z w64 (of_z w64 b)) (pos (if s then 1 else 0) -ℤ pos (if t then 1 else 0)) (rw (one, other) refl) (cut_price s t)

pub start_number-is : (area : IntervalBox) (row : Prices) (i count at : ℕ) (z : ℤ) → count ≡ count_of area i → at ≡ places_to area i
    → z ≡ (if count == 0 then pos 0 else neg_ℤ (price_at row.places at)) → z ≡ start_number area row i
unfolding start_number
start_number-is area row i count at z so_many here is = rw (← so_many, ← here) is

pub price_within : (prices : List ℤ) (at : ℕ) → All IsPrice prices → at < length prices → IsPrice (price_at prices at)
unfolding price_at
price_within prices at all below = All-get_or IsPrice prices at (pos 0) below all

pub some_price : (count : ℕ) (z : ℤ) → 1 ≤ count → z ≡ (if count == 0 then pos 0 else z)
some_price count z some = grind (arith, nat_tests)

abbrev pub record_of : List ℤ → List ℤ → Prices
record_of goods places = record { goods = goods; places = places }

-- a row that is built of two lists of prices
pub same_prices : (goods places gs ps : List ℤ) → goods ≡ gs → places ≡ ps → record_of goods places ≡ record_of gs ps
same_prices goods places gs ps a b = rw (a, b) refl
