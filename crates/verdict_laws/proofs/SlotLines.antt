-- The lines of a tree with slots are read back, and the slots are 64.
use Rattle.std.proofs.Common.{ℕ, ◌≡◌, ◌<◌, length, Some, IsSome, true≢false, sym, ◌∙◌, subst, arith, inl, inr}
use Rattle.std.proofs.lemmas.Bool.{cases_lt}
use Rattle.tqd_instance.specs.declared.job.Job.{Job}
use Rattle.interval_box.specs.declared.boxes.IntervalBox.{IntervalBox}
use Rattle.interval_box.specs.Ranges.{IsBoxOf}
use Rattle.bound_tree.specs.declared.slots.TheConstants.{SLOTS_MAX}
use Rattle.bound_tree.specs.declared.line.TreeLine.TheVariants.{Row}
use Rattle.bound_tree.specs.Root.{root_of}
use Rattle.bound_tree.specs.Prices.{Prices, Fits}
use Rattle.bound_tree.specs.Narrowed.{IsPartOf}
use Rattle.bound_tree.specs.OtherBox.{narrowed}
use Rattle.bound_tree.specs.SlotTree.{SlotLeaf, bound_by, empty_by, by_winners, row_item, leaf_item, SlotTree, Slots, no_rows, row_in, with_row, slots_after, IsSoundLeaf}
use Rattle.bound_tree.specs.SlotText.{slot_leaf_line}
use Rattle.bound_tree.specs.LineText.{line_text}
use Rattle.bound_tree.specs.ReadLine.{read_line}
use Rattle.bound_tree.specs.TreeText.{all_prices}
use Rattle.bound_tree.proofs.Roots.{root_is}
use Rattle.bound_tree.proofs.LineLaws.{item_is_read}
use Rattle.bound_tree.proofs.OtherBoxes.{narrowed_is}
use Rattle.bound_tree.proofs.SlotTrees.{length-no_rows, length-with_row, length-slots_after, row_in-past}

-- there are 64 slots
abbrev pub HasSlots : Slots → Type 0
HasSlots slots = length slots ≡ SLOTS_MAX

pub slots_first : HasSlots no_rows
slots_first = length-no_rows

pub slots_more : (slots : Slots) (n : ℕ) (row : Prices) → HasSlots slots → HasSlots (with_row slots n row)
slots_more slots n row has = length-with_row slots n row ∙ has

pub slots_kept : (slots : Slots) (tree : SlotTree) → HasSlots slots → HasSlots (slots_after slots tree)
slots_kept slots tree has = length-slots_after slots tree ∙ has

-- a slot that has a row is one of them
is_slot : (slots : Slots) (n : ℕ) → HasSlots slots → IsSome (row_in slots n) → n < SLOTS_MAX
is_slot slots n has some = elim (cases_lt n SLOTS_MAX) [
  | inl below ↦ below
  | inr past ↦ absurd (true≢false (sym (subst IsSome (row_in-past slots n (omega (arith, has, past))) some)))
]

pub row_is_read : (job : Job) (n : ℕ) (row : Prices) → n < SLOTS_MAX → Fits job (root_of job) row → read_line (line_text (Row n (all_prices row))) ≡ Some (Row n (all_prices row))
row_is_read job n row below fits = item_is_read job (row_item n row) (below, fits)

pub slot_leaf_is_read : (job : Job) (slots : Slots) (leaf : SlotLeaf) → HasSlots slots → IsSoundLeaf slots leaf → read_line (line_text (slot_leaf_line leaf)) ≡ Some (slot_leaf_line leaf)
slot_leaf_is_read job slots (bound_by n) has sound = let below = is_slot slots n has sound in item_is_read job (leaf_item (bound_by n)) (omega (arith, below))
slot_leaf_is_read job slots (empty_by n) has sound = let below = is_slot slots n has sound in item_is_read job (leaf_item (empty_by n)) (omega (arith, below))
slot_leaf_is_read job slots by_winners has sound = item_is_read job (leaf_item by_winners) tt

-- each box is a part of the root
part_of_root : (job : Job) (area : IntervalBox) → IsBoxOf job area → IsPartOf job area (root_of job)
part_of_root job area b = λ i below.
    let whole = (root_is job).whole i below in
    record { low = omega (arith, whole.from_zero); high = omega (arith, whole.to_last, (b.ranges i below).within) }

-- a row of the root, narrowed to a box, fits it
pub root_fits_in : (job : Job) (area : IntervalBox) (row : Prices) → IsBoxOf job area → Fits job (root_of job) row → Fits job area (narrowed job (root_of job) area row)
root_fits_in job area row b fits = (narrowed_is job (root_of job) area row b (part_of_root job area b) fits).fits
