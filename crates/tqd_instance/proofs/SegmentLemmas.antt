-- The segments that are cut from intervals, one by one.
use Rattle.std.proofs.Common.{ℕ, suc, ◌≡◌, ◌+◌, ◌<◌, ◌≤◌, Bool, true, false, List, [], ◌∷◌, length, get_or, drop, map, filter, find, All, Some, min, max, arith, refl, ap, ◌∙◌, subst, cond}
use Rattle.std.specs.Prelude.{nat_le}
use Rattle.std.proofs.lemmas.Bool.Decides.{nat_tests}
use Rattle.std.proofs.lemmas.Grind.{common_steps}
use Rattle.std.proofs.lemmas.List.Elements.{All-contains, All-map, Contains-get_or}
use Rattle.tqd_base.specs.declared.limits.TheConstants.{QTY_MAX}
use Rattle.tqd_instance.specs.declared.parts.PriceRow.{PriceRow}
use Rattle.tqd_instance.specs.declared.supplier.Segment.{Segment}
use Rattle.tqd_instance.specs.PartsData.{PartsData}
use Rattle.tqd_instance.specs.Parts.{AreFroms, IsWellFormed, froms_stated}
use Rattle.tqd_instance.specs.Built.{Interval, limits_of, intervals, end_before, cut, has_total, segment_of, segments_of, nothing_segment, table}
use Rattle.tqd_instance.specs.Rows.{cut_segments, price_or_zero, rows_of}
use Rattle.tqd_instance.proofs.Rows.{rows_are}

-- what is found is one of the list
pub found_is : {X : Type 0} (P : X → Type 0) (p : X → Bool) (xs : List X) (x : X) → All P xs → find p xs ≡ Some x → P x
found_is P p [] x all is = cc
found_is P p (y ∷ ys) x all is = at_head P p y ys x all (p y) (found_is P p ys x (λ k d below. all (suc k) d (omega arith))) is
  where
    at_head : {X : Type 0} (P : X → Type 0) (p : X → Bool) (y : X) (ys : List X) (x : X) → All P (y ∷ ys) → (b : Bool) → (find p ys ≡ Some x → P x)
        → cond b (Some y) (find p ys) ≡ Some x → P x
    at_head P p y ys x all true rest is = let same : y ≡ x = cc in subst P same (all 0 y (omega arith))
    at_head P p y ys x all false rest is = rest is

-- the segment of an interval that has a total
pub segment_kept : (parts : PartsData) (i from low high : ℕ) (prices : List ℕ) → prices ≡ table (length parts.needs) (price_or_zero parts i from)
    → record { low = low; high = high; prices = prices } ≡ segment_of parts i (record { from = from; low = low; high = high })
unfolding segment_of price_or_zero
segment_kept parts i from low high prices is = ap (λ (ps : List ℕ). let s : Segment = record { low = low; high = high; prices = ps } in s) is

drop_at : (froms : List ℕ) (at : ℕ) → at < length froms → drop at froms ≡ get_or froms at 0 ∷ drop (at + 1) froms
drop_at froms at below = grind (arith, common_steps)

pub cut-cons : (parts : PartsData) (i from : ℕ) (rest : List ℕ)
    → cut_segments parts i (from ∷ rest) ≡ cond (nat_le (max (limits_of parts i).least from) (min (limits_of parts i).most (end_before rest)))
    (segment_of parts i (record { from = from; low = max (limits_of parts i).least from; high = min (limits_of parts i).most (end_before rest) }) ∷ cut_segments parts i rest)
    (cut_segments parts i rest)
unfolding cut_segments intervals
cut-cons parts i from rest = by_test (nat_le (max (limits_of parts i).least from) (min (limits_of parts i).most (end_before rest)))
    (record { from = from; low = max (limits_of parts i).least from; high = min (limits_of parts i).most (end_before rest) })
    (filter has_total (map (cut (limits_of parts i)) (intervals rest)))
  where
    by_test : (b : Bool) (x : Interval) (xs : List Interval) → map (segment_of parts i) (cond b (x ∷ xs) xs) ≡ cond b (segment_of parts i x ∷ map (segment_of parts i) xs) (map (segment_of parts i) xs)
    by_test true x xs = refl
    by_test false x xs = refl

pub cut_kept : (parts : PartsData) (i at low high : ℕ) (froms : List ℕ) → at < length froms
    → low ≡ max (limits_of parts i).least (get_or froms at 0) → high ≡ min (limits_of parts i).most (end_before (drop (at + 1) froms)) → low ≤ high
    → cut_segments parts i (drop at froms) ≡ segment_of parts i (record { from = get_or froms at 0; low = low; high = high }) ∷ cut_segments parts i (drop (at + 1) froms)
cut_kept parts i at low high froms below low_is high_is ordered =
    let test : nat_le low high ≡ true = grind (arith, nat_tests) in
    ap (cut_segments parts i) (drop_at froms at below) ∙ cut-cons parts i (get_or froms at 0) (drop (at + 1) froms) ∙ rw (← low_is, ← high_is, test) refl

pub cut_dropped : (parts : PartsData) (i at low high : ℕ) (froms : List ℕ) → at < length froms
    → low ≡ max (limits_of parts i).least (get_or froms at 0) → high ≡ min (limits_of parts i).most (end_before (drop (at + 1) froms)) → high < low
    → cut_segments parts i (drop at froms) ≡ cut_segments parts i (drop (at + 1) froms)
cut_dropped parts i at low high froms below low_is high_is empty =
    let test : nat_le low high ≡ false = grind (arith, nat_tests) in
    ap (cut_segments parts i) (drop_at froms at below) ∙ cut-cons parts i (get_or froms at 0) (drop (at + 1) froms) ∙ rw (← low_is, ← high_is, test) refl

pub cut-nil : (parts : PartsData) (i : ℕ) → cut_segments parts i [] ≡ []
unfolding cut_segments intervals
cut-nil parts i = refl

pub segments_are : (parts : PartsData) (i : ℕ) (froms : List ℕ) → segments_of parts i froms ≡ nothing_segment parts ∷ cut_segments parts i froms
unfolding segments_of cut_segments
segments_are parts i froms = refl

-- where intervals begin is in range
pub froms_in_range : (parts : PartsData) (i : ℕ) (froms : List ℕ) → IsWellFormed parts → AreFroms parts i froms → All (λ from. (1 ≤ from) × (from ≤ QTY_MAX)) froms
froms_in_range parts i froms formed are = λ k d below.
    let rows = rows_are parts i formed in
    let stated = All-map (λ (from : ℕ). (1 ≤ from) × (from ≤ QTY_MAX)) (λ (r : PriceRow). r.from) (rows_of parts i) (λ j e in_rows. ((rows j e in_rows).some, (rows j e in_rows).from)) in
    All-contains (λ (from : ℕ). (1 ≤ from) × (from ≤ QTY_MAX)) (froms_stated parts i) (get_or froms k d) stated ((are.stated (get_or froms k d)).0 (Contains-get_or froms k d below))
