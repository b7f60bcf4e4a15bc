-- Slots, and what sound trees keep within.
use Rattle.std.proofs.Common.{ℕ, ◌≡◌, ◌<◌, ◌≤◌, ℤ, length, replicate, Option, None, Some, IsSome, refl, sym, ◌∙◌, subst, arith, inl, inr, length-set, true≢false}
use Rattle.std.proofs.lemmas.Bool.{cases_lt}
use Rattle.std.proofs.lemmas.List.{length-replicate, get_or-replicate, get_or_past, get_or-set_same}
use Rattle.std.proofs.lemmas.List.Elements.{All-weaker}
use Rattle.std.specs.Prelude.{unsigned_abs}
use Rattle.tqd_instance.specs.declared.job.Job.{Job}
use Rattle.tqd_instance.specs.Job.{suppliers}
use Rattle.tqd_instance.proofs.Jobs.{job_in_range}
use Rattle.interval_box.specs.declared.boxes.IntervalBox.{IntervalBox}
use Rattle.interval_box.specs.Ranges.{IsBoxOf}
use Rattle.interval_box.specs.Halves.{IsProper, low_half, high_half}
use Rattle.interval_box.proofs.Split.{low_is_box, high_is_box}
use Rattle.bound_tree.specs.declared.slots.TheConstants.{SLOTS_MAX}
use Rattle.bound_tree.specs.Prices.{Prices, Fits, IsPrice}
use Rattle.bound_tree.specs.Root.{root_of}
use Rattle.bound_tree.specs.SlotTree.{SlotLeaf, bound_by, empty_by, by_winners, SlotTree, row_then, slot_split, slot_leaf, Slots, no_rows, row_in, with_row, slots_after, IsSoundLeaf, IsSoundIn}
use Rattle.bound_tree.specs.TextLaws.{HasDigits, IsRowFor, HasSlot, HasSlotRows}
use Rattle.bound_tree.proofs.Signed.{abs_le}

pub length-no_rows : length no_rows ≡ SLOTS_MAX
unfolding no_rows
length-no_rows = length-replicate {A = Option Prices} SLOTS_MAX None

pub row_in-no_rows : (n : ℕ) → row_in no_rows n ≡ None
unfolding row_in no_rows
row_in-no_rows n = elim (cases_lt n SLOTS_MAX) [
  | inl below ↦ get_or-replicate SLOTS_MAX n None None below
  | inr past ↦ get_or_past {X = Option Prices} (replicate SLOTS_MAX None) n None (omega (arith, length-replicate {A = Option Prices} SLOTS_MAX None))
]

pub length-with_row : (slots : Slots) (n : ℕ) (row : Prices) → length (with_row slots n row) ≡ length slots
unfolding with_row
length-with_row slots n row = length-set slots n (Some row)

pub row_in-with_row : (slots : Slots) (n : ℕ) (row : Prices) → n < length slots → row_in (with_row slots n row) n ≡ Some row
unfolding row_in with_row
row_in-with_row slots n row below = get_or-set_same slots n (Some row) None below

pub row_in-past : (slots : Slots) (n : ℕ) → length slots ≤ n → row_in slots n ≡ None
unfolding row_in
row_in-past slots n past = get_or_past slots n None past

pub length-slots_after : (slots : Slots) (tree : SlotTree) → length (slots_after slots tree) ≡ length slots
unfolding slots_after
length-slots_after slots (row_then n row tree) = length-slots_after (with_row slots n row) tree ∙ length-with_row slots n row
length-slots_after slots (slot_split i s low high) = length-slots_after (slots_after slots low) high ∙ length-slots_after slots low
length-slots_after slots (slot_leaf leaf) = refl

-- a slot that has a row is one of the slots
slot_below : (slots : Slots) (n : ℕ) → length slots ≡ SLOTS_MAX → IsSome (row_in slots n) → n < SLOTS_MAX
slot_below slots n count some = elim (cases_lt n SLOTS_MAX) [
  | inl below ↦ below
  | inr past ↦ absurd (true≢false (sym (subst IsSome (row_in-past slots n (omega arith)) some)))
]

price_digits : (z : ℤ) → IsPrice z → HasDigits z
price_digits z p = let most : unsigned_abs z ≤ 4000000000000000 = abs_le z 4000000000000000 p.not_less p.not_more in omega arith

fits_digits : (job : Job) (row : Prices) → Fits job (root_of job) row → IsRowFor job row
fits_digits job row f = record {
  goods = f.goods;
  good_prices = All-weaker IsPrice HasDigits price_digits row.goods f.good_prices;
  place_prices = All-weaker IsPrice HasDigits price_digits row.places f.place_prices;
}

-- the supplier and the segment of a proper split
pub proper_small : (job : Job) (area : IntervalBox) (i s : ℕ) → IsBoxOf job area → IsProper area i s → (i < suppliers job) × (s < 16)
proper_small job area i s b p = elim (cases_lt i (suppliers job)) [
  | inl below ↦ (let few = ((job_in_range job).each_supplier i below).few in (below, omega (arith, few, (b.ranges i below).within, p.below_high)))
  | inr past ↦ absurd (let none = (b.others i past).high in omega (arith, p.below_high))
]

sound_slot : (slots : Slots) (leaf : SlotLeaf) → length slots ≡ SLOTS_MAX → IsSoundLeaf slots leaf → HasSlot leaf
sound_slot slots (bound_by n) count some = let below = slot_below slots n count some in omega arith
sound_slot slots (empty_by n) count some = let below = slot_below slots n count some in omega arith
sound_slot slots by_winners count some = tt

-- the numbers of a sound tree are short
pub sound_rows : (job : Job) (area : IntervalBox) (slots : Slots) (tree : SlotTree) → IsBoxOf job area → length slots ≡ SLOTS_MAX → IsSoundIn job area slots tree → HasSlotRows job tree
unfolding IsSoundIn HasSlotRows
sound_rows job area slots (row_then n row tree) b count sound =
    (omega (arith, sound.0), fits_digits job row sound.1, sound_rows job area (with_row slots n row) tree b (length-with_row slots n row ∙ count) sound.2)
sound_rows job area slots (slot_split i s low high) b count sound =
    let small = proper_small job area i s b sound.0 in
    let few = (job_in_range job).few_suppliers in (
      omega (arith, small.0, few),
      omega (arith, small.1),
      sound_rows job (low_half area i s) slots low (low_is_box job area i s b sound.0) count sound.1,
      sound_rows job (high_half area i s) (slots_after slots low) high (high_is_box job area i s b sound.0) (length-slots_after slots low ∙ count) sound.2,
    )
sound_rows job area slots (slot_leaf leaf) b count sound = sound_slot slots leaf count sound
