-- What a line of an old tree says of a box.
use Rattle.std.specs.Prelude.{ℕ, ℤ, pos, ◌||◌, Bool, false, nat_lt, int_le, int_lt, is_none, if◌then◌else◌, List, Option, None, Some}
use Rattle.std.specs.Option.{option_map, option_and_then}
use Rattle.tqd_instance.specs.declared.job.Job.{Job}
use Rattle.tqd_instance.specs.Job.{least_winners, most_winners}
use Rattle.interval_box.specs.declared.boxes.IntervalBox.{IntervalBox}
use Rattle.interval_box.specs.Winners.{sure_winners, possible_winners}
use Rattle.bound_tree.specs.declared.leaf.Leaf.{Leaf}
use Rattle.bound_tree.specs.declared.leaf.Leaf.TheVariants.{Bound, Empty, Winners}
use Rattle.bound_tree.specs.declared.line.LineHead.{LineHead}
use Rattle.bound_tree.specs.declared.line.LineHead.TheVariants.{Split as SplitHead, Row as RowHead, Bound as BoundHead, Empty as EmptyHead, Winners as WinnersHead}
use Rattle.bound_tree.specs.Root.{root_of}
use Rattle.bound_tree.specs.Prices.{Prices, row_of}
use Rattle.bound_tree.specs.OtherBox.{narrowed}
use Rattle.bound_tree.specs.SlotTree.{row_in, with_row}
use Rattle.bound_tree.specs.Value.{value, free_value}
use Rattle.tree_checker.specs.Verdict.{RowStore, in_leaves, in_slots, is_split, row_fault, slot_row_fault, named_slot}
use Rattle.requote.specs.declared.said.Said.{Said}
use Rattle.requote.specs.declared.said.Said.TheVariants.{Splits, Kills, FallsShort, Nothing}

-- the row of a leaf, where it fits the box: in format 1 its own prices, in format 2 the row in the slot that it names,
-- narrowed to the box
abbrev pub leaf_row : Job → RowStore → IntervalBox → List ℤ → Option Prices
leaf_row job in_leaves area prices = if is_none (row_fault job area prices) then Some (row_of job prices) else None
leaf_row job (in_slots slots) area prices =
    option_map (narrowed job (root_of job) area) (option_and_then (row_in slots) (named_slot prices))

-- the value of the row is at least the cost of the best plan
abbrev pub bound_kills : Job → Option ℕ → IntervalBox → Prices → Bool
bound_kills job None area row = false
bound_kills job (Some best) area row = int_le (pos best) (value job area row)

-- the free value of the row is above 0
abbrev pub empty_kills : Job → IntervalBox → Prices → Bool
empty_kills job area row = int_lt (pos 0) (free_value job area row)

-- no purchase in the box can meet the winner limits
abbrev pub winners_kill : Job → IntervalBox → Bool
winners_kill job area =
    nat_lt (most_winners job) (sure_winners job area) || nat_lt (possible_winners job area) (least_winners job)

-- a leaf with a row, where it has one that fits
abbrev pub leaf_said : (Prices → Bool) → (Prices → Leaf) → Option Prices → Said
leaf_said kills leaf None = Nothing
leaf_said kills leaf (Some row) = if kills row then Kills (leaf row) else FallsShort

-- a split, where it is proper for the box
abbrev pub split_said : Job → IntervalBox → ℕ → ℕ → Said
split_said job area i s = if is_split job area i s then Splits i s else Nothing

-- a leaf by the winner limits
abbrev pub winners_said : Job → IntervalBox → Said
winners_said job area = if winners_kill job area then Kills Winners else FallsShort

-- a line that is no `row` line, by the line without its prices, and its prices
abbrev pub said : Job → RowStore → Option ℕ → IntervalBox → Option LineHead → List ℤ → Said
said job store best area (Some (SplitHead i s)) prices = split_said job area i s
said job store best area (Some (BoundHead count)) prices =
    leaf_said (bound_kills job best area) Bound (leaf_row job store area prices)
said job store best area (Some (EmptyHead count)) prices =
    leaf_said (empty_kills job area) Empty (leaf_row job store area prices)
said job store best area (Some WinnersHead) prices = winners_said job area
said job store best area _ prices = Nothing

-- the slots after a right `row` line of format 2; any other line gives none
abbrev pub row_said : Job → RowStore → Option LineHead → List ℤ → Option RowStore
row_said job (in_slots slots) (Some (RowHead n count)) prices = if is_none (slot_row_fault job n prices)
    then Some (in_slots (with_row slots n (row_of job prices)))
    else None
row_said job store head prices = None
