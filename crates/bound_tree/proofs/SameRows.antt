-- When a row of a box, as a row of the root narrowed to another box, is a row of that; and the first slot that has it.
use Rattle.std.proofs.Common.{ℕ, ◌≡◌, ◌↔◌, ◌<◌, ◌≤◌, ◌&&◌, Bool, true, false, IsTrue, ℤ, List, length, get_or, map, Option, None, Some, refl, ap, sym, ◌∙◌, arith, true≢false}
use Rattle.std.proofs.lemmas.Bool.{lt-ltb, le-ltb}
use Rattle.std.proofs.lemmas.List.{get_or-map}
use Rattle.std.proofs.lemmas.List.Sums.{position_or_len_is}
use Rattle.std.specs.Cmp.Lexicographic.{pointwise}
use Rattle.std.specs.Cmp.Rules.{signed_items}
use Rattle.std.specs.Ordering.{int_eq}
use Rattle.tqd_instance.specs.declared.job.Job.{Job}
use Rattle.tqd_instance.specs.Job.{suppliers}
use Rattle.interval_box.specs.declared.boxes.IntervalBox.{IntervalBox}
use Rattle.interval_box.specs.Ranges.{IsBoxOf}
use Rattle.bound_tree.specs.declared.slots.KeptRow.{KeptRow}
use Rattle.bound_tree.specs.Prices.{Prices, Fits, place_of, places_to, price_at}
use Rattle.bound_tree.specs.Root.{root_of}
use Rattle.bound_tree.specs.OtherBox.{places_by, narrowed, price_or_zero, widened}
use Rattle.bound_tree.specs.OtherPlaces.{price_from, price_from_or_zero, SamePlaces}
use Rattle.bound_tree.specs.SlotTree.{Slots, row_in}
use Rattle.bound_tree.specs.Shared.{has_row, slot_with}
use Rattle.bound_tree.specs.SlotTable.{kept_row}
use Rattle.bound_tree.proofs.OtherBoxes.{places_by-at, places_by-same, places_by-all_of}
use Rattle.bound_tree.proofs.Unfolding.{narrowed_widened}

-- a test of the same thing
same_test : {P : Type 0} (a b : Bool) → (IsTrue a ↔ P) → (b ≡ true → P) → (P → b ≡ true) → a ≡ b
same_test true true is to from = refl
same_test true false is to from = absurd (true≢false (sym (from (is.0 refl))))
same_test false true is to from = absurd (true≢false (sym (is.1 (to refl))))
same_test false false is to from = refl

from_is : (area : IntervalBox) (places : List ℤ) (i j : ℕ) → price_from area places (places_to area i) i j ≡ price_at places (place_of area i j)
unfolding place_of
from_is area places i j = refl

from_or_zero_is : (area : IntervalBox) (places : List ℤ) (i j : ℕ) → price_from_or_zero area places (places_to area i) i j ≡ price_or_zero area places i j
unfolding place_of
from_or_zero_is area places i j = refl

to_same : (job : Job) (kept area : IntervalBox) (prices places : List ℤ) → places_by area (suppliers job) (price_or_zero kept prices) ≡ places → SamePlaces job kept prices area places
to_same job kept area prices places e i below j some a =
    from_is area places i j
    ∙ (ap (λ (xs : List ℤ). price_at xs (place_of area i j)) (sym e) ∙ (places_by-at area (suppliers job) (price_or_zero kept prices) i j below some a ∙ sym (from_or_zero_is kept prices i j)))

from_same : (job : Job) (kept area : IntervalBox) (prices places : List ℤ) → length places ≡ places_to area (suppliers job) → SamePlaces job kept prices area places
    → places_by area (suppliers job) (price_or_zero kept prices) ≡ places
from_same job kept area prices places fits same =
    places_by-same area (suppliers job) (price_or_zero kept prices) (λ i j. price_at places (place_of area i j))
    (λ i j below some a. sym (from_or_zero_is kept prices i j) ∙ (sym (same i below j some a) ∙ from_is area places i j))
    ∙ places_by-all_of area (suppliers job) places fits

same_places_test : (job : Job) (kept area : IntervalBox) (prices places : List ℤ) (b : Bool) → length places ≡ places_to area (suppliers job) → (IsTrue b ↔ SamePlaces job kept prices area places)
    → b ≡ pointwise int_eq (places_by area (suppliers job) (price_or_zero kept prices)) places
same_places_test job kept area prices places b fits is =
    let decides = signed_items (places_by area (suppliers job) (price_or_zero kept prices)) places in
    same_test b (pointwise int_eq (places_by area (suppliers job) (price_or_zero kept prices)) places) is
    (λ e. to_same job kept area prices places (decides.0 e)) (λ same. decides.1 (from_same job kept area prices places fits same))

has_is : (job : Job) (kept area : IntervalBox) (row other : Prices) → IsBoxOf job area
    → has_row job area other (Some (widened job kept row)) ≡ (pointwise int_eq row.goods other.goods && pointwise int_eq (places_by area (suppliers job) (price_or_zero kept row.places)) other.places)
has_is job kept area row other b =
    let n = narrowed_widened job kept area row b in
    ap (λ (xs : List ℤ). pointwise int_eq xs other.goods && pointwise int_eq (narrowed job (root_of job) area (widened job kept row)).places other.places) n.0
    ∙ ap (λ (xs : List ℤ). pointwise int_eq row.goods other.goods && pointwise int_eq xs other.places) n.1

-- both tests
pub has_both : (job : Job) (kept area : IntervalBox) (row other : Prices) (goods places : Bool) → IsBoxOf job area → Fits job area other → goods ≡ pointwise int_eq row.goods other.goods → goods ≡ true
    → (IsTrue places ↔ SamePlaces job kept row.places area other.places) → places ≡ has_row job area other (Some (widened job kept row))
has_both job kept area row other goods places b f g is p =
    same_places_test job kept area row.places other.places places f.places p
    ∙ (ap (λ (t : Bool). t && pointwise int_eq (places_by area (suppliers job) (price_or_zero kept row.places)) other.places) (sym is ∙ g) ∙ sym (has_is job kept area row other b))

-- the prices of the goods differ
pub has_not : (job : Job) (kept area : IntervalBox) (row other : Prices) (goods : Bool) → IsBoxOf job area → goods ≡ pointwise int_eq row.goods other.goods → goods ≡ false
    → false ≡ has_row job area other (Some (widened job kept row))
has_not job kept area row other goods b g is =
    ap (λ (t : Bool). t && pointwise int_eq (places_by area (suppliers job) (price_or_zero kept row.places)) other.places) (sym is ∙ g) ∙ sym (has_is job kept area row other b)

-- the row of a slot
pub row_at : (job : Job) (table : List (Option KeptRow)) (n : ℕ) (kept : Option KeptRow) → n < length table → kept ≡ get_or table n kept → row_in (map (kept_row job) table) n ≡ kept_row job kept
unfolding row_in
row_at job table n kept below is = get_or-map (kept_row job) table n kept None below ∙ ap (kept_row job) (sym is)

-- the first slot that has a row, and none
pub first_slot : (job : Job) (area : IntervalBox) (row : Prices) (slots : Slots) (n : ℕ) → n < length slots → ((k : ℕ) → k < n → has_row job area row (row_in slots k) ≡ false)
    → has_row job area row (row_in slots n) ≡ true → Some n ≡ slot_with job area slots row
unfolding slot_with row_in
first_slot job area row slots n below none here =
    let at = position_or_len_is (has_row job area row) slots n None (omega arith) none (λ _. here) in
    rw (at, lt-ltb n (length slots) below) refl

pub no_slot : (job : Job) (area : IntervalBox) (row : Prices) (slots : Slots) (n : ℕ) → length slots ≤ n → ((k : ℕ) → k < n → has_row job area row (row_in slots k) ≡ false)
    → None ≡ slot_with job area slots row
unfolding slot_with row_in
no_slot job area row slots n past none =
    let at = position_or_len_is (has_row job area row) slots (length slots) None (omega arith) (λ k below. none k (omega arith)) (λ below. absurd (omega arith)) in
    rw (at, le-ltb (length slots) (length slots) (omega arith)) refl
