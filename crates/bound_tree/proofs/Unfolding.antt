-- A tree that is written with slots is sound, and its leaves name their rows.
use Rattle.std.proofs.Common.{ℕ, ◌≡◌, ◌<◌, ◌≤◌, Bool, true, false, ℤ, pos, List, [], length, Option, None, Some, IsSome, refl, ap, sym, ◌∙◌, subst, arith, true≢false}
use Rattle.std.proofs.Math.Nat.{mod-lt}
use Rattle.std.proofs.lemmas.Bool.{and_parts, le-leb}
use Rattle.std.proofs.lemmas.List.Quantifiers.{position-Some}
use Rattle.std.specs.Cmp.Rules.{signed_items}
use Rattle.std.specs.List.{All}
use Rattle.std.specs.Prelude.{unwrap_or, if◌then◌else◌}
use Rattle.tqd_instance.specs.declared.job.Job.{Job}
use Rattle.tqd_instance.specs.Job.{suppliers}
use Rattle.interval_box.specs.declared.boxes.IntervalBox.{IntervalBox}
use Rattle.interval_box.specs.Ranges.{Admits, IsBoxOf}
use Rattle.interval_box.specs.Halves.{low_half, high_half}
use Rattle.interval_box.proofs.Split.{low_is_box, high_is_box}
use Rattle.bound_tree.specs.declared.leaf.Leaf.{Leaf}
use Rattle.bound_tree.specs.declared.leaf.Leaf.TheVariants.{Bound, Empty, Winners}
use Rattle.bound_tree.specs.declared.slots.TheConstants.{SLOTS_MAX}
use Rattle.bound_tree.specs.Prices.{Prices, Fits, IsPrice, place_of, price_at, segment_price}
use Rattle.bound_tree.specs.Kills.{LeafFits}
use Rattle.bound_tree.specs.Root.{root_of}
use Rattle.bound_tree.specs.OtherBox.{places_by, narrowed, admits, price_or_zero, root_places, widened}
use Rattle.bound_tree.specs.BoxTree.{BoxTree, at_leaf, at_split}
use Rattle.bound_tree.specs.SlotTree.{SlotLeaf, bound_by, empty_by, SlotTree, Slots, row_in, with_row, slots_after, IsSoundLeaf, IsSoundIn, IsSound, unfolded, empty_row, row_for, leaf_for, unfolded_in}
use Rattle.bound_tree.specs.Shared.{Given, none_given, next_slot, with_next, same_rows, has_row, slot_with, slot_or_next, given_or_next, shared_leaf, given_leaf, given_after, shared_in, shared, IsTreeOf}
use Rattle.bound_tree.proofs.OtherBoxes.{length-places_by, places_by-at, places_by-same, places_by-all, places_by-all_of, segment_price-is}
use Rattle.bound_tree.proofs.PriceReads.{price_in}
use Rattle.bound_tree.proofs.Roots.{root_is}
use Rattle.bound_tree.proofs.SlotTrees.{length-no_rows, row_in-with_row, length-with_row}

pub same_prices : (row other : Prices) → row.goods ≡ other.goods → row.places ≡ other.places → row ≡ other
same_prices row other goods places = λ i. record { goods = goods i; places = places i }

rows_are : (row other : Prices) → same_rows row other ≡ true → row ≡ other
rows_are row other e =
    let p = and_parts _ _ e in
    same_prices row other ((signed_items row.goods other.goods).0 p.0) ((signed_items row.places other.places).0 p.1)

-- a box of a job is a part of its root
root_admits : (job : Job) (area : IntervalBox) (i j : ℕ) → IsBoxOf job area → i < suppliers job → Admits area i j → Admits (root_of job) i j
root_admits job area i j b below a =
    let whole = (root_is job).whole i below in
    record { from_low = omega (arith, whole.from_zero); to_high = omega (arith, whole.to_last, (b.ranges i below).within, a.to_high) }

pub admits_is : (area : IntervalBox) (i j : ℕ) → Admits area i j → admits area i j ≡ true
admits_is area i j a = rw (le-leb _ _ a.from_low, le-leb _ _ a.to_high) refl

pub price_where : (area : IntervalBox) (places : List ℤ) (i j : ℕ) → Admits area i j → price_or_zero area places i j ≡ price_at places (place_of area i j)
price_where area places i j a = rw (admits_is area i j a) refl

price_or_zero_in : (area : IntervalBox) (places : List ℤ) → All IsPrice places → (i j : ℕ) → IsPrice (price_or_zero area places i j)
unfolding price_at
price_or_zero_in area places all i j = test (admits area i j)
  where
    test : (b : Bool) → IsPrice (if b then price_at places (place_of area i j) else pos 0)
    test true = price_in places (place_of area i j) all
    test false = price_in [] 0 (λ k d below. absurd (omega arith))

pub widened_goods : (job : Job) (area : IntervalBox) (row : Prices) → (widened job area row).goods ≡ row.goods
unfolding widened
widened_goods job area row = refl

pub widened_places : (job : Job) (area : IntervalBox) (row : Prices) → (widened job area row).places ≡ root_places job area row.places
unfolding widened
widened_places job area row = refl

pub widened_fits : (job : Job) (area : IntervalBox) (row : Prices) → Fits job area row → Fits job (root_of job) (widened job area row)
widened_fits job area row f = record {
  goods = ap length (widened_goods job area row) ∙ f.goods;
  places = ap length (widened_places job area row) ∙ length-places_by (root_of job) (suppliers job) (price_or_zero area row.places);
  good_prices = subst (All IsPrice) (sym (widened_goods job area row)) f.good_prices;
  place_prices = subst (All IsPrice) (sym (widened_places job area row)) (places_by-all IsPrice (root_of job) (suppliers job) (price_or_zero area row.places) (price_or_zero_in area row.places f.place_prices));
}

-- the price of a segment of a box, in another box's row as a row of the root
pub widened_segment : (job : Job) (kept area : IntervalBox) (row : Prices) (i j : ℕ) → IsBoxOf job area → i < suppliers job → 1 ≤ j → Admits area i j
    → segment_price (root_of job) (widened job kept row) i j ≡ price_or_zero kept row.places i j
widened_segment job kept area row i j b below some a =
    segment_price-is (root_of job) (widened job kept row) i j
    ∙ (ap (λ (xs : List ℤ). price_at xs (place_of (root_of job) i j)) (widened_places job kept row)
    ∙ places_by-at (root_of job) (suppliers job) (price_or_zero kept row.places) i j below some (root_admits job area i j b below a))

narrowed_fields : (job : Job) (area part : IntervalBox) (row : Prices) → ((narrowed job area part row).goods ≡ row.goods) × ((narrowed job area part row).places ≡ places_by part (suppliers job) (segment_price area row))
unfolding narrowed
narrowed_fields job area part row = (refl, refl)

-- the row of a box as a row of the root, narrowed to another box
pub narrowed_widened : (job : Job) (kept area : IntervalBox) (row : Prices) → IsBoxOf job area
    → ((narrowed job (root_of job) area (widened job kept row)).goods ≡ row.goods)
    × ((narrowed job (root_of job) area (widened job kept row)).places ≡ places_by area (suppliers job) (price_or_zero kept row.places))
narrowed_widened job kept area row b =
    let f = narrowed_fields job (root_of job) area (widened job kept row) in (
      f.0 ∙ widened_goods job kept row,
      f.1 ∙ places_by-same area (suppliers job) (segment_price (root_of job) (widened job kept row)) (price_or_zero kept row.places)
          (λ i j below some a. widened_segment job kept area row i j b below some a),
    )

-- a row is the same after both
pub narrowed_back : (job : Job) (area : IntervalBox) (row : Prices) → IsBoxOf job area → Fits job area row → narrowed job (root_of job) area (widened job area row) ≡ row
narrowed_back job area row b f =
    let n = narrowed_widened job area area row b in
    same_prices (narrowed job (root_of job) area (widened job area row)) row n.0
    (n.1 ∙ (places_by-same area (suppliers job) (price_or_zero area row.places) (λ i j. price_at row.places (place_of area i j)) (λ i j below some a. price_where area row.places i j a)
    ∙ places_by-all_of area (suppliers job) row.places f.places))

-- what holds of a tree that is written with slots
pub record IsShared (job : Job) (area : IntervalBox) (given next : Given) (tree : BoxTree) (made : SlotTree) : Type 0 where
  pub sound : IsSoundIn job area given.slots made
  pub slots : slots_after given.slots made ≡ next.slots
  pub count : length next.slots ≡ SLOTS_MAX
  pub back : unfolded_in job area given.slots made ≡ tree

next_below : (given : Given) → next_slot given < SLOTS_MAX
unfolding next_slot
next_below given = mod-lt given.count (omega arith)

next_slots : (given : Given) (row : Prices) → (with_next given row).slots ≡ with_row given.slots (next_slot given) row
unfolding with_next
next_slots given row = refl

-- a leaf that names a slot by its number, as bound_by and empty_by do
record Names (leaf : ℕ → SlotLeaf) (of_row : Prices → Leaf) : Type 0 where
  sound : (slots : Slots) (n : ℕ) → IsSome (row_in slots n) → IsSoundLeaf slots (leaf n)
  row : (job : Job) (area : IntervalBox) (slots : Slots) (n : ℕ) → leaf_for job area slots (leaf n) ≡ of_row (row_for job area slots n)

bound_names : Names bound_by Bound
bound_names = record { sound = λ slots n some. some; row = λ job area slots n. refl }

empty_names : Names empty_by Empty
empty_names = record { sound = λ slots n some. some; row = λ job area slots n. refl }

kept_is : (job : Job) (area : IntervalBox) (row : Prices) (kept : Option Prices) → has_row job area row kept ≡ true
    → IsSome kept × (narrowed job (root_of job) area (unwrap_or kept empty_row) ≡ row)
kept_is job area row None e = absurd (true≢false (sym e))
kept_is job area row (Some kept) e = (refl, rows_are (narrowed job (root_of job) area kept) row e)

held : (job : Job) (area : IntervalBox) (slots : Slots) (row : Prices) (n : ℕ) → slot_with job area slots row ≡ Some n → has_row job area row (row_in slots n) ≡ true
unfolding slot_with row_in
held job area slots row n e = (position-Some (has_row job area row) slots n None e).1

share_row : (job : Job) (area : IntervalBox) (given : Given) (row : Prices) (leaf : ℕ → SlotLeaf) (of_row : Prices → Leaf) (o : Option ℕ) → Names leaf of_row → IsBoxOf job area → Fits job area row
    → length given.slots ≡ SLOTS_MAX → slot_with job area given.slots row ≡ o
    → IsShared job area given (given_or_next given (widened job area row) o) (at_leaf (of_row row)) (slot_or_next given (widened job area row) leaf o)
unfolding IsSoundIn slots_after unfolded_in
share_row job area given row leaf of_row (Some n) names b f count is =
    let kept = kept_is job area row (row_in given.slots n) (held job area given.slots row n is) in
    record {
      sound = names.sound given.slots n kept.0;
      slots = refl;
      count = count;
      back = ap (λ (l : Leaf). at_leaf l) (names.row job area given.slots n ∙ ap of_row kept.1);
    }
share_row job area given row leaf of_row None names b f count is =
    let n = next_slot given in
    let below = next_below given in
    let wide = widened job area row in
    let here = row_in-with_row given.slots n wide (omega (arith, below, count)) in
    record {
      sound = (below, widened_fits job area row f, names.sound (with_row given.slots n wide) n (subst IsSome (sym here) refl));
      slots = sym (next_slots given wide);
      count = ap length (next_slots given wide) ∙ (length-with_row given.slots n wide ∙ count);
      back = ap (λ (l : Leaf). at_leaf l) (names.row job area (with_row given.slots n wide) n
          ∙ ap of_row (ap (λ (o : Option Prices). narrowed job (root_of job) area (unwrap_or o empty_row)) here ∙ narrowed_back job area row b f));
    }

share_leaf : (job : Job) (area : IntervalBox) (given : Given) (leaf : Leaf) → IsBoxOf job area → LeafFits job area leaf → length given.slots ≡ SLOTS_MAX
    → IsShared job area given (given_leaf job area given leaf) (at_leaf leaf) (shared_leaf job area given leaf)
unfolding IsSoundIn slots_after unfolded_in
share_leaf job area given (Bound row) b f count = share_row job area given row bound_by Bound (slot_with job area given.slots row) bound_names b f count refl
share_leaf job area given (Empty row) b f count = share_row job area given row empty_by Empty (slot_with job area given.slots row) empty_names b f count refl
share_leaf job area given Winners b f count = record { sound = tt; slots = refl; count = count; back = refl }

pub share_tree : (job : Job) (area : IntervalBox) (given : Given) (tree : BoxTree) → IsBoxOf job area → IsTreeOf job area tree → length given.slots ≡ SLOTS_MAX
    → IsShared job area given (given_after job area given tree) tree (shared_in job area given tree)
unfolding IsTreeOf given_after shared_in IsSoundIn slots_after unfolded_in
share_tree job area given (at_leaf leaf) b fits count = share_leaf job area given leaf b fits count
share_tree job area given (at_split i s low high) b fits count =
    let below = low_half area i s in
    let above = high_half area i s in
    let middle = given_after job below given low in
    let l = share_tree job below given low (low_is_box job area i s b fits.0) fits.1 count in
    let h = share_tree job above middle high (high_is_box job area i s b fits.0) fits.2 l.count in
    record {
      sound = (fits.0, l.sound, subst (λ (slots : Slots). IsSoundIn job above slots (shared_in job above middle high)) (sym l.slots) h.sound);
      slots = ap (λ (slots : Slots). slots_after slots (shared_in job above middle high)) l.slots ∙ h.slots;
      count = h.count;
      back = ap (λ (t : BoxTree). at_split i s t (unfolded_in job above (slots_after given.slots (shared_in job below given low)) (shared_in job above middle high))) l.back
          ∙ ap (λ (t : BoxTree). at_split i s low t) (ap (λ (slots : Slots). unfolded_in job above slots (shared_in job above middle high)) l.slots ∙ h.back);
    }

pub share_root : (job : Job) (tree : BoxTree) → IsTreeOf job (root_of job) tree → IsSound job (shared job tree) × (unfolded job (shared job tree) ≡ tree)
unfolding none_given
share_root job tree fits =
    let s = share_tree job (root_of job) none_given tree (root_is job).of_job fits length-no_rows in (s.sound, s.back)
