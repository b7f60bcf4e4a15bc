-- The prices of a box's places, narrowed to a part of it, supplier by supplier.
use Rattle.std.proofs.Common.{ℕ, ◌≡◌, ◌+◌, ◌-◌, ◌<◌, ◌≤◌, ℤ, pos, List, [], ◌++◌, length, get_or, take, drop, refl, ap, subst, sym, ◌∙◌, arith, inl, inr}
use Rattle.std.specs.List.{All}
use Rattle.std.proofs.lemmas.Bool.{cases_lt}
use Rattle.std.proofs.Common.{length-append, length-drop}
use Rattle.std.proofs.Math.ListN.{get_or-append}
use Rattle.std.proofs.lemmas.List.{length-take, get_or-append-add, get_or-take, get_or-drop}
use Rattle.std.proofs.lemmas.List.Elements.{All-nil, All-append, All-take, All-drop}
use Rattle.interval_box.specs.declared.boxes.IntervalBox.{IntervalBox}
use Rattle.interval_box.specs.Ranges.{low_of, high_of, Admits}
use Rattle.bound_tree.specs.Prices.{first_of, count_of, places_to, place_of, price_at, IsPrice}
use Rattle.bound_tree.specs.Narrowed.{IsPartAt}
use Rattle.bound_tree.proofs.BoxPlaces.{places_to-zero, places_to-more, places_to-within, place_below}

-- the prices of the first n suppliers' places are narrowed
pub record AreNarrowedTo (area part : IntervalBox) (n : ℕ) (places narrowed : List ℤ) : Type 0 where
  pub count : length narrowed ≡ places_to part n
  pub same : (i j : ℕ) → i < n → 1 ≤ j → Admits part i j → price_at narrowed (place_of part i j) ≡ price_at places (place_of area i j)
  pub in_range : All IsPrice narrowed

pub narrowed_none : (area part : IntervalBox) (places narrowed : List ℤ) → narrowed ≡ [] → AreNarrowedTo area part 0 places narrowed
narrowed_none area part places narrowed e = record {
  count = ap length e ∙ sym (places_to-zero part);
  same = λ i j below. absurd (omega arith);
  in_range = rw e (All-nil IsPrice);
}

-- where the shared places of a supplier begin, among the places of the box
unfoldable pub from_of : IntervalBox → IntervalBox → ℕ → ℕ
from_of area part i = places_to area i + (first_of part i - first_of area i)

pub shared_within : (area part : IntervalBox) (i : ℕ) → low_of part i ≤ high_of part i → IsPartAt part area i → from_of area part i + count_of part i ≤ places_to area i + count_of area i
unfolding from_of count_of first_of
shared_within area part i ordered p = omega (arith, p.low, p.high)

shared_place : (area part : IntervalBox) (i j : ℕ) → 1 ≤ j → Admits part i j → IsPartAt part area i
    → from_of area part i + (j - first_of part i) ≡ place_of area i j
unfolding from_of place_of first_of
shared_place area part i j some a p = omega (arith, a.from_low, p.low)

shared_below : (part : IntervalBox) (i j : ℕ) → 1 ≤ j → Admits part i j → j - first_of part i < count_of part i
unfolding count_of first_of
shared_below part i j some a = omega (arith, a.from_low, a.to_high)

place_is : (area : IntervalBox) (i j : ℕ) → place_of area i j ≡ places_to area i + (j - first_of area i)
unfolding place_of
place_is area i j = refl

-- one supplier more
pub narrowed_more : (area part : IntervalBox) (n : ℕ) (places narrowed shared next : List ℤ) → low_of part n ≤ high_of part n → IsPartAt part area n
    → places_to area n + count_of area n ≤ length places → All IsPrice places
    → shared ≡ take (count_of part n) (drop (from_of area part n) places) → next ≡ narrowed ++ shared
    → AreNarrowedTo area part n places narrowed → AreNarrowedTo area part (n + 1) places next
unfolding price_at
narrowed_more area part n places narrowed shared next ordered p fits all is grown a =
    let within = shared_within area part n ordered p in
    let d = from_of area part n in
    let size : length shared ≡ count_of part n = ap length is ∙ length-take (count_of part n) (drop d places) ∙ (omega (arith, length-drop d places)) in
    record {
      count = ap length grown ∙ length-append narrowed shared ∙ omega (arith, a.count, places_to-more part n);
      same = λ i j below some admits. elim (cases_lt i n) [
        | inl before ↦
            (let low = place_below part i j some admits in
            let inside = places_to-within part i n before in
            ap (λ xs. get_or xs (place_of part i j) (pos 0)) grown
            ∙ get_or-append narrowed shared (pos 0) (place_of part i j) (omega (arith, a.count))
            ∙ a.same i j before some admits)
        | inr here ↦
            (let at : i ≡ n = omega arith in
            subst (λ i. get_or next (place_of part i j) (pos 0) ≡ get_or places (place_of area i j) (pos 0)) (sym at)
            (last j some (subst (λ i. Admits part i j) at admits)))
      ];
      in_range = rw grown (All-append IsPrice narrowed shared a.in_range (rw is (All-take IsPrice (count_of part n) (drop d places) (All-drop IsPrice d places all))));
    }
  where
    last : (j : ℕ) → 1 ≤ j → Admits part n j → get_or next (place_of part n j) (pos 0) ≡ get_or places (place_of area n j) (pos 0)
    last j some admits =
        let m = j - first_of part n in
        let at : place_of part n j ≡ length narrowed + m = omega (arith, place_is part n j, a.count) in
        ap (λ xs. get_or xs (place_of part n j) (pos 0)) grown
        ∙ ap (λ k. get_or (narrowed ++ shared) k (pos 0)) at
        ∙ get_or-append-add narrowed shared m (pos 0)
        ∙ ap (λ xs. get_or xs m (pos 0)) is
        ∙ get_or-take (count_of part n) (drop (from_of area part n) places) m (pos 0) (shared_below part n j some admits)
        ∙ get_or-drop (from_of area part n) places m (pos 0)
        ∙ ap (λ k. get_or places k (pos 0)) (shared_place area part n j some admits p)
