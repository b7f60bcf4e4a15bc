-- What holds of a supplier that well-formed parts describe.
use Rattle.std.proofs.Common.{ℕ, suc, zero, ◌≡◌, ◌+◌, ◌-◌, ◌<◌, ◌≤◌, ◌==◌, Bool, true, false, List, [], ◌∷◌, length, get_or, All, Some, option_map, unwrap_or, find, min, max, replicate, arith, refl, ap, ◌∙◌, sym, inl, inr, cond, ◌&&◌, add-one}
use Rattle.std.specs.Prelude.{nat_le}
use Rattle.std.proofs.lemmas.Bool.{cases_lt}
use Rattle.std.proofs.lemmas.Bool.Decides.{nat_tests}
use Rattle.std.proofs.lemmas.Grind.{common_steps}
use Rattle.std.proofs.lemmas.List.{length-replicate}
use Rattle.std.proofs.lemmas.List.Kept.{AllPairs-from_increasing}
use Rattle.std.proofs.lemmas.List.Elements.{All-cons}
use Rattle.tqd_base.specs.declared.limits.TheConstants.{QTY_MAX, PRICE_MAX}
use Rattle.tqd_instance.specs.declared.supplier.Segment.{Segment}
use Rattle.tqd_instance.specs.declared.supplier.Supplier.{Supplier}
use Rattle.tqd_instance.specs.PartsData.{PartsData}
use Rattle.tqd_instance.specs.Offer.{no_segment}
use Rattle.tqd_instance.specs.JobFacts.{IsNothing, IsSegment, IsSupplier}
use Rattle.tqd_instance.specs.Parts.{AreFroms, IsWellFormed}
use Rattle.tqd_instance.specs.Built.{Interval, limits_of, end_before, segment_of, segments_of, nothing_segment, price_stated, offers, stock_of, table}
use Rattle.tqd_instance.specs.Rows.{cut_segments, IsBuilt}
use Rattle.tqd_instance.proofs.Rising.{Rises, rises_tail, rises_next, increasing_same}
use Rattle.tqd_instance.proofs.SegmentLemmas.{cut-cons, cut-nil, segments_are, froms_in_range}
use Rattle.tqd_instance.proofs.Tables.{length-table, get_or-table}

abbrev pub InRange : List ℕ → Type 0
InRange froms = All (λ from. (1 ≤ from) × (from ≤ QTY_MAX)) froms

in_range_tail : (from : ℕ) (rest : List ℕ) → InRange (from ∷ rest) → InRange rest
in_range_tail from rest range = λ k d below. range (suc k) d (omega arith)

-- the interval that begins at from, cut
abbrev first_cut : PartsData → ℕ → ℕ → List ℕ → Interval
first_cut parts i from rest = record { from = from; low = max (limits_of parts i).least from; high = min (limits_of parts i).most (end_before rest) }

segment_low : (parts : PartsData) (i : ℕ) (interval : Interval) → (segment_of parts i interval).low ≡ interval.low
unfolding segment_of
segment_low parts i interval = refl

segment_high : (parts : PartsData) (i : ℕ) (interval : Interval) → (segment_of parts i interval).high ≡ interval.high
unfolding segment_of
segment_high parts i interval = refl

end_within : (rest : List ℕ) → InRange rest → end_before rest ≤ QTY_MAX
end_within [] range = omega arith
end_within (next ∷ rest) range = let n = range 0 0 (omega arith) in omega (arith, n.1)

-- no segment is left of intervals that all begin above the most
cut_past : (parts : PartsData) (i : ℕ) (froms : List ℕ) → Rises froms → ((k : ℕ) → k < length froms → (limits_of parts i).most < get_or froms k 0) → cut_segments parts i froms ≡ []
cut_past parts i [] rises past = cut-nil parts i
cut_past parts i (from ∷ rest) rises past =
    let first = past 0 (omega arith) in
    let test : nat_le (max (limits_of parts i).least from) (min (limits_of parts i).most (end_before rest)) ≡ false = past_test (limits_of parts i).least from (limits_of parts i).most (end_before rest) first in
    cut-cons parts i from rest ∙ rw test (cut_past parts i rest (rises_tail from rest rises) (λ k below. past (suc k) (omega arith)))
  where
    past_test : (least from most end : ℕ) → most < from → nat_le (max least from) (min most end) ≡ false
    past_test least from most end past = grind (arith, nat_tests)

-- an interval ends no earlier than it begins
end_after : (from : ℕ) (rest : List ℕ) → Rises (from ∷ rest) → InRange (from ∷ rest) → from ≤ end_before rest
end_after from [] rises range = (range 0 0 (omega arith)).1
end_after from (next ∷ rest) rises range = let less = rises_next from next rest rises in omega arith

-- the first segment of intervals of which the first begins within the limits
cut_first : (parts : PartsData) (i from : ℕ) (rest : List ℕ) → Rises (from ∷ rest) → InRange (from ∷ rest) → (limits_of parts i).least ≤ from → from ≤ (limits_of parts i).most
    → (get_or (cut_segments parts i (from ∷ rest)) 0 no_segment).low ≡ from
cut_first parts i from rest rises range least most =
    let test : nat_le (max (limits_of parts i).least from) (min (limits_of parts i).most (end_before rest)) ≡ true =
    within_test (limits_of parts i).least from (limits_of parts i).most (end_before rest) least most (end_after from rest rises range) in
    let first : max (limits_of parts i).least from ≡ from = max_right (limits_of parts i).least from least in
    rw (cut-cons parts i from rest, test) (segment_low parts i (first_cut parts i from rest) ∙ first)
  where
    within_test : (least from most end : ℕ) → least ≤ from → from ≤ most → from ≤ end → nat_le (max least from) (min most end) ≡ true
    within_test least from most end a b c = grind (arith, nat_tests)

    max_right : (least from : ℕ) → least ≤ from → max least from ≡ from
    max_right least from le = omega arith

abbrev Chained : List Segment → Type 0
Chained xs = (j : ℕ) → suc j < length xs → (get_or xs (suc j) no_segment).low ≡ (get_or xs j no_segment).high + 1

chained_cons : (s : Segment) (xs : List Segment) → (0 < length xs → (get_or xs 0 no_segment).low ≡ s.high + 1) → Chained xs → Chained (s ∷ xs)
chained_cons s xs first rest zero below = first (omega arith)
chained_cons s xs first rest (suc j) below = rest j (omega arith)

-- after a segment that is left, the next that is left begins one above its end
next_begins : (parts : PartsData) (i from : ℕ) (rest : List ℕ) → Rises (from ∷ rest) → InRange (from ∷ rest)
    → max (limits_of parts i).least from ≤ min (limits_of parts i).most (end_before rest) → 0 < length (cut_segments parts i rest)
    → (get_or (cut_segments parts i rest) 0 no_segment).low ≡ min (limits_of parts i).most (end_before rest) + 1
next_begins parts i from [] rises range ordered some = absurd (omega (arith, ap length (cut-nil parts i)))
next_begins parts i from (next ∷ rest) rises range ordered some = elim (cases_lt (limits_of parts i).most next) [
  | inl past ↦ (let none = cut_past parts i (next ∷ rest) (rises_tail from (next ∷ rest) rises) (all_past next rest (limits_of parts i).most (rises_tail from (next ∷ rest) rises) past) in
      absurd (omega (arith, ap length none)))
  | inr within ↦ (let first = cut_first parts i next rest (rises_tail from (next ∷ rest) rises) (in_range_tail from (next ∷ rest) range)
      (least_within (limits_of parts i).least from (limits_of parts i).most next ordered) within in
      let one = (range 1 0 (omega arith)).0 in
      first ∙ meets (limits_of parts i).most next within one)
]
  where
    all_past : (next : ℕ) (rest : List ℕ) (most : ℕ) → Rises (next ∷ rest) → most < next → (k : ℕ) → k < length (next ∷ rest) → most < get_or (next ∷ rest) k 0
    all_past next rest most rises past zero below = past
    all_past next rest most rises past (suc k) below = let less = rises 0 (suc k) 0 (omega arith) below in omega (arith, less)

    least_within : (least from most next : ℕ) → max least from ≤ min most (next - 1) → least ≤ next
    least_within least from most next ordered = omega arith

    meets : (most next : ℕ) → next ≤ most → 1 ≤ next → next ≡ min most (next - 1) + 1
    meets most next within one = omega arith

pub cut_chained : (parts : PartsData) (i : ℕ) (froms : List ℕ) → Rises froms → InRange froms → Chained (cut_segments parts i froms)
cut_chained parts i [] rises range = λ j below. absurd (omega (arith, ap length (cut-nil parts i)))
cut_chained parts i (from ∷ rest) rises range =
    by_test parts i from rest rises range (nat_le (max (limits_of parts i).least from) (min (limits_of parts i).most (end_before rest))) refl
    (cut_chained parts i rest (rises_tail from rest rises) (in_range_tail from rest range))
  where
    by_test : (parts : PartsData) (i from : ℕ) (rest : List ℕ) → Rises (from ∷ rest) → InRange (from ∷ rest) → (b : Bool)
        → nat_le (max (limits_of parts i).least from) (min (limits_of parts i).most (end_before rest)) ≡ b → Chained (cut_segments parts i rest) → Chained (cut_segments parts i (from ∷ rest))
    by_test parts i from rest rises range true test chained =
        rw (cut-cons parts i from rest, test)
        (chained_cons (segment_of parts i (first_cut parts i from rest)) (cut_segments parts i rest)
        (λ some. next_begins parts i from rest rises range (grind (arith, nat_tests)) some ∙ ap (λ h. h + 1) (sym (segment_high parts i (first_cut parts i from rest)))) chained)
    by_test parts i from rest rises range false test chained = rw (cut-cons parts i from rest, test) chained

-- a property of each interval that is left
pub cut_all : (parts : PartsData) (i : ℕ) (P : Segment → Type 0) (froms : List ℕ) → InRange froms
    → ((from low high : ℕ) → 1 ≤ from → from ≤ low → low ≤ high → high ≤ QTY_MAX → P (segment_of parts i (record { from = from; low = low; high = high })))
    → All P (cut_segments parts i froms)
cut_all parts i P [] range holds = λ k d below. absurd (omega (arith, ap length (cut-nil parts i)))
cut_all parts i P (from ∷ rest) range holds =
    by_test parts i P from rest range holds (nat_le (max (limits_of parts i).least from) (min (limits_of parts i).most (end_before rest))) refl
    (cut_all parts i P rest (in_range_tail from rest range) holds)
  where
    by_test : (parts : PartsData) (i : ℕ) (P : Segment → Type 0) (from : ℕ) (rest : List ℕ) → InRange (from ∷ rest)
        → ((from low high : ℕ) → 1 ≤ from → from ≤ low → low ≤ high → high ≤ QTY_MAX → P (segment_of parts i (record { from = from; low = low; high = high })))
        → (b : Bool) → nat_le (max (limits_of parts i).least from) (min (limits_of parts i).most (end_before rest)) ≡ b → All P (cut_segments parts i rest)
        → All P (cut_segments parts i (from ∷ rest))
    by_test parts i P from rest range holds true test all =
        let one = (range 0 0 (omega arith)).0 in
        let end = end_within rest (in_range_tail from rest range) in
        let ordered : max (limits_of parts i).least from ≤ min (limits_of parts i).most (end_before rest) = grind (arith, nat_tests) in
        rw (cut-cons parts i from rest, test)
        (All-cons P (segment_of parts i (first_cut parts i from rest)) (cut_segments parts i rest)
        (holds from (max (limits_of parts i).least from) (min (limits_of parts i).most (end_before rest)) one (omega arith) ordered (omega arith)) all)
    by_test parts i P from rest range holds false test all = rw (cut-cons parts i from rest, test) all

pub length-cut : (parts : PartsData) (i : ℕ) (froms : List ℕ) → length (cut_segments parts i froms) ≤ length froms
length-cut parts i [] = omega (arith, ap length (cut-nil parts i))
length-cut parts i (from ∷ rest) =
    by_test parts i from rest (nat_le (max (limits_of parts i).least from) (min (limits_of parts i).most (end_before rest))) refl (length-cut parts i rest)
  where
    by_test : (parts : PartsData) (i from : ℕ) (rest : List ℕ) (b : Bool) → nat_le (max (limits_of parts i).least from) (min (limits_of parts i).most (end_before rest)) ≡ b
        → length (cut_segments parts i rest) ≤ length rest → length (cut_segments parts i (from ∷ rest)) ≤ length (from ∷ rest)
    by_test parts i from rest true test rest_fits = rw (cut-cons parts i from rest, test) (omega arith)
    by_test parts i from rest false test rest_fits = rw (cut-cons parts i from rest, test) (omega arith)

-- a value that is found, or a default, within a bound
pub found_within : {X : Type 0} (value : X → ℕ) (p : X → Bool) (xs : List X) (m default : ℕ) → All (λ x. value x ≤ m) xs → default ≤ m
    → unwrap_or (option_map value (find p xs)) default ≤ m
found_within value p [] m default all within = within
found_within value p (x ∷ xs) m default all within =
    at_head value p x xs m default (all 0 x (omega arith)) (p x) (found_within value p xs m default (λ k d below. all (suc k) d (omega arith)) within)
  where
    at_head : {X : Type 0} (value : X → ℕ) (p : X → Bool) (x : X) (xs : List X) (m default : ℕ) → value x ≤ m → (b : Bool)
        → unwrap_or (option_map value (find p xs)) default ≤ m → unwrap_or (option_map value (cond b (Some x) (find p xs))) default ≤ m
    at_head value p x xs m default here true rest = here
    at_head value p x xs m default here false rest = rest

-- every number of a table, and past its end
pub table_within : (n m : ℕ) (f : ℕ → ℕ) → ((k : ℕ) → f k ≤ m) → (k : ℕ) → get_or (table n f) k 0 ≤ m
table_within n m f within k = elim (cases_lt k n) [
  | inl below ↦ (let here = within k in omega (arith, get_or-table n f k 0 below))
  | inr past ↦ (let l = length-table n f in omega (arith, past_end (table n f) k (omega arith)))
]
  where
    past_end : (xs : List ℕ) (k : ℕ) → length xs ≤ k → get_or xs k 0 ≡ 0
    past_end xs k past = grind (arith, common_steps)

price_within : (parts : PartsData) (i from k : ℕ) → IsWellFormed parts → unwrap_or (price_stated parts i from k) 0 ≤ PRICE_MAX
unfolding price_stated
price_within parts i from k formed =
    found_within (λ r. r.price) (λ r. r.supplier == i && r.from == from && r.good == k) parts.prices PRICE_MAX 0 (λ j d below. (formed.prices j d below).price) (omega arith)

pub stock_within : (parts : PartsData) (i k : ℕ) → IsWellFormed parts → stock_of parts i k ≤ QTY_MAX
unfolding stock_of
stock_within parts i k formed = by_test (offers parts i k)
    (found_within (λ r. r.units) (λ r. r.supplier == i && r.good == k) parts.stocks QTY_MAX QTY_MAX (λ j d below. (formed.stocks j d below).units) (omega arith))
  where
    by_test : {n : ℕ} (b : Bool) → n ≤ QTY_MAX → cond b n 0 ≤ QTY_MAX
    by_test true within = within
    by_test false within = omega arith

segment_is : (parts : PartsData) (i : ℕ) → IsWellFormed parts → (from low high : ℕ) → 1 ≤ from → from ≤ low → low ≤ high → high ≤ QTY_MAX
    → IsSegment (length parts.needs) (segment_of parts i (record { from = from; low = low; high = high }))
unfolding segment_of
segment_is parts i formed from low high one after ordered within = record {
  from_one = omega arith;
  ordered = ordered;
  within = within;
  width = length-table (length parts.needs) (λ k. unwrap_or (price_stated parts i from k) 0);
  prices = table_within (length parts.needs) PRICE_MAX (λ k. unwrap_or (price_stated parts i from k) 0) (λ k. price_within parts i from k formed);
}

nothing_is : (parts : PartsData) → IsNothing (length parts.needs) (nothing_segment parts)
unfolding nothing_segment
nothing_is parts = record {
  low = refl;
  high = refl;
  width = length-replicate (length parts.needs) 0;
  prices = λ k. zeros (length parts.needs) k;
}
  where
    zeros : (n k : ℕ) → get_or {A = ℕ} (replicate n 0) k 0 ≡ 0
    zeros n k = grind (arith, common_steps)

-- the facts of a supplier with these fees, stocks and segments
pub supplier_facts : (parts : PartsData) (i : ℕ) (froms : List ℕ) (supplier : Supplier) → IsWellFormed parts → AreFroms parts i froms
    → supplier.fee ≡ unwrap_or (option_map (λ r. r.fee) (find (λ r. r.supplier == i) parts.fees)) 0
    → supplier.stocks ≡ table (length parts.needs) (stock_of parts i)
    → supplier.segments ≡ segments_of parts i froms
    → IsSupplier (length parts.needs) supplier
supplier_facts parts i froms supplier formed are fee_is stocks_are segments_is =
    let range = froms_in_range parts i froms formed are in
    let rises : Rises froms = AllPairs-from_increasing froms are.rising in
    let whole : supplier.segments ≡ nothing_segment parts ∷ cut_segments parts i froms = segments_is ∙ segments_are parts i froms in
    let all = cut_all parts i (IsSegment (length parts.needs)) froms range (segment_is parts i formed) in
    let chained = cut_chained parts i froms rises range in
    let fits = length-cut parts i froms in
    let few = formed.few_intervals i froms are in
    let size : length supplier.segments ≡ suc (length (cut_segments parts i froms)) = ap length whole in
    record {
      fee = rw fee_is (found_within (λ r. r.fee) (λ r. r.supplier == i) parts.fees PRICE_MAX 0 (λ j d below. (formed.fees j d below).fee) (omega arith));
      width = ap length stocks_are ∙ length-table (length parts.needs) (stock_of parts i);
      stocks = λ k. rw stocks_are (table_within (length parts.needs) QTY_MAX (stock_of parts i) (λ j. stock_within parts i j formed) k);
      some = omega arith;
      few = omega arith;
      first = rw whole (nothing_is parts);
      segments = λ j some below. at_place (nothing_segment parts) (cut_segments parts i froms) supplier.segments whole (IsSegment (length parts.needs)) all j some below;
      contiguous = λ j some below. meets (nothing_segment parts) (cut_segments parts i froms) supplier.segments whole chained j some below;
    }
  where
    at_place : (s : Segment) (xs ys : List Segment) → ys ≡ s ∷ xs → (P : Segment → Type 0) → All P xs → (j : ℕ) → 1 ≤ j → j < length ys → P (get_or ys j no_segment)
    at_place s xs ys is P all zero some below = absurd (omega arith)
    at_place s xs ys is P all (suc j) some below = rw is (all j no_segment (omega (arith, ap length is)))

    meets : (s : Segment) (xs ys : List Segment) → ys ≡ s ∷ xs → Chained xs → (j : ℕ) → 1 ≤ j → j + 1 < length ys
        → (get_or ys (j + 1) no_segment).low ≡ (get_or ys j no_segment).high + 1
    meets s xs ys is chained zero some below = absurd (omega arith)
    meets s xs ys is chained (suc j) some below = rw (is, add-one (suc j)) (chained j (omega (arith, ap length is)))

-- a supplier with these fees, stocks and segments is built
pub supplier_built : (parts : PartsData) (i : ℕ) (froms : List ℕ) (supplier : Supplier) → IsWellFormed parts → AreFroms parts i froms
    → supplier.fee ≡ unwrap_or (option_map (λ r. r.fee) (find (λ r. r.supplier == i) parts.fees)) 0
    → supplier.stocks ≡ table (length parts.needs) (stock_of parts i)
    → supplier.segments ≡ segments_of parts i froms
    → IsBuilt parts i supplier
supplier_built parts i froms supplier formed are fee_is stocks_are segments_is = record {
  described = record {
    fee = fee_is;
    stocks = stocks_are;
    segments = λ other others. segments_is ∙ ap (segments_of parts i)
        (increasing_same froms other are.rising others.rising
        (λ n has. (others.stated n).1 ((are.stated n).0 has)) (λ n has. (are.stated n).1 ((others.stated n).0 has)));
  };
  facts = supplier_facts parts i froms supplier formed are fee_is stocks_are segments_is;
}
