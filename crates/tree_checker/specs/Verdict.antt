-- What a text of a tree shows of a job. The text is read line by line, and the first cause ends the reading. Line 1 names
-- its format: in format 1 each leaf has its row in its own line, in format 2 a leaf names a slot, and lines before it give
-- the rows of the slots.
use Rattle.std.specs.Prelude.{ℕ, ℤ, ◌≡◌, ◌≢◌, ◌+◌, ◌-◌, ◌*◌, ◌==◌, ◌&&◌, ◌||◌, Bool, true, false, nat_lt, nat_le, int_le, int_lt, pos, unsigned_abs, if◌then◌else◌, List, [], ◌∷◌, ◌++◌, length, find, Option, None, Some, Result, Ok, Err}
use Rattle.std.specs.Option.{option_map}
use Rattle.std.specs.List.{fold}
use Rattle.tqd_base.specs.World.{Bytes}
use Rattle.tqd_base.specs.declared.limits.TheConstants.{QTY_MAX}
use Rattle.tqd_instance.specs.declared.job.Job.{Job}
use Rattle.tqd_instance.specs.declared.standing.Standing.{Standing}
use Rattle.tqd_instance.specs.declared.standing.Standing.TheVariants.{Feasible}
use Rattle.tqd_instance.specs.Job.{goods, suppliers, least_winners, most_winners}
use Rattle.tqd_instance.specs.Purchase.{Purchase}
use Rattle.interval_box.specs.declared.boxes.IntervalBox.{IntervalBox}
use Rattle.interval_box.specs.Ranges.{low_of, high_of}
use Rattle.interval_box.specs.Halves.{low_half, high_half}
use Rattle.interval_box.specs.Winners.{sure_winners, possible_winners}
use Rattle.bound_tree.specs.declared.line.TreeLine.{TreeLine}
use Rattle.bound_tree.specs.declared.line.TreeLine.TheVariants.{Header as HeaderLine, Header2 as Header2Line, NoPlan as NoPlanLine, Plan as PlanLine, Buy as BuyLine, Split as SplitLine, Row as RowLine, Bound as BoundLine, Empty as EmptyLine, Winners as WinnersLine}
use Rattle.bound_tree.specs.declared.slots.TheConstants.{SLOTS_MAX}
use Rattle.bound_tree.specs.Root.{root_of}
use Rattle.bound_tree.specs.Prices.{Prices, places_to, row_of}
use Rattle.bound_tree.specs.OtherBox.{narrowed}
use Rattle.bound_tree.specs.SlotTree.{Slots, no_rows, row_in, with_row}
use Rattle.bound_tree.specs.Value.{value, free_value}
use Rattle.bound_tree.specs.ReadLine.{read_line}
use Rattle.bound_tree.specs.LineHead.{is_beyond}
use Rattle.tree_checker.specs.declared.rejection.Why.{Why}
use Rattle.tree_checker.specs.declared.rejection.Why.TheVariants.{Header, PlanForm, PlanStanding, PlanCost, Line, SplitRange, RowSlot, RowLength, PriceRange, BoundWithoutPlan, BoundShort, EmptyFails, WinnersFit, EarlyEnd, Trailing}
use Rattle.tree_checker.specs.declared.rejection.Rejection.{Rejection}
use Rattle.tree_checker.specs.declared.rejection.Verdict.{Verdict}
use Rattle.tree_checker.specs.declared.rejection.Verdict.TheVariants.{Optimal, NoPurchase, Rejected}
use Rattle.tree_checker.specs.Standing.{standing_of}
use Rattle.tree_checker.specs.LineEnd.{ends_line}

-- where the rows of the leaves are: in format 1 in their own lines, in format 2 in slots
pub data RowStore : Type 0 where
  in_leaves : RowStore
  in_slots : Slots → RowStore

-- a plan before its last `buy` line: its cost as the plan line says it, how many `buy` lines are due, the least place
-- that the next one may have, and what is bought so far
pub record PlanSoFar : Type 0 where
  pub cost : ℕ
  pub left : ℕ
  pub next : ℕ
  pub bought : Purchase

-- which line is due: the header, the plan line, a `buy` line, or a node of the first of the boxes that are due, where
-- `best` is the plan's cost or none. Where no box is due, the tree is whole
pub data Phase : Type 0 where
  at_header : Phase
  at_plan : RowStore → Phase
  at_buys : RowStore → PlanSoFar → Phase
  at_nodes : RowStore → Option ℕ → List IntervalBox → Phase

-- what a whole line leads to: the next phase, or the cause that ends the reading
abbrev pub Step : Type 0
Step = Result Phase Rejection

abbrev pub rejects : ℕ → Why → Step
rejects line why = Err (record { line = line; why = why })

-- the tree of the root comes next
abbrev pub from_root : Job → RowStore → Option ℕ → Step
from_root job store best = Ok (at_nodes store best (root_of job ∷ []))

-- the plan is known, and is judged as a whole: its causes stand in line 2
abbrev pub judged : Job → RowStore → ℕ → Standing → Step
judged job store said (Feasible real) = if said == real then from_root job store (Some said) else rejects 2 (PlanCost said real)
judged job store said standing = rejects 2 (PlanStanding standing)

abbrev pub when_bought : Job → RowStore → PlanSoFar → Step
when_bought job store plan = if plan.left == 0 then judged job store plan.cost (standing_of job plan.bought) else Ok (at_buys store plan)

-- the place of a supplier and a good in the order of `buy` lines
abbrev pub place : Job → ℕ → ℕ → ℕ
place job i k = i * goods job + k

abbrev pub nothing_bought : Purchase
nothing_bought i k = 0

-- x with n units of good k from supplier i
abbrev pub with_units : Purchase → ℕ → ℕ → ℕ → Purchase
with_units x i k n a b = if (a == i) && (b == k) then n else x a b

-- a plan with one `buy` line more
abbrev pub with_buy : Job → PlanSoFar → ℕ → ℕ → ℕ → PlanSoFar
with_buy job plan i k n = record {
  cost = plan.cost;
  left = plan.left - 1;
  next = place job i k + 1;
  bought = with_units plan.bought i k n;
}

-- the numbers of a `buy` line are in range, and it stands after the one before it in the order
abbrev pub is_next : Job → ℕ → ℕ → ℕ → ℕ → Bool
is_next job next i k n = nat_lt i (suppliers job) && nat_lt k (goods job) && nat_le 1 n && nat_le n QTY_MAX && nat_le next (place job i k)

-- how many prices a row of the box has
abbrev pub prices_wanted : Job → IntervalBox → ℕ
prices_wanted job area = goods job + places_to area (suppliers job)

-- what is wrong with the prices of a row: their number, or the first one beyond the limit
abbrev pub row_fault : Job → IntervalBox → List ℤ → Option Why
row_fault job area prices = if length prices == prices_wanted job area
    then option_map PriceRange (find is_beyond prices)
    else Some (RowLength (length prices) (prices_wanted job area))

-- the first of two faults
abbrev pub or_fault : Option Why → Option Why → Option Why
or_fault (Some why) later = Some why
or_fault None later = later

abbrev pub short_fault : Option ℕ → ℤ → Option Why
short_fault None v = Some BoundWithoutPlan
short_fault (Some c) v = if int_le (pos c) v then None else Some (BoundShort v c)

-- why a leaf does not kill the box, where it does not
abbrev pub bound_fault : Job → Option ℕ → IntervalBox → List ℤ → Option Why
bound_fault job best area prices = or_fault (row_fault job area prices) (short_fault best (value job area (row_of job prices)))

abbrev pub free_fault : ℤ → Option Why
free_fault v = if int_lt (pos 0) v then None else Some (EmptyFails v)

abbrev pub empty_fault : Job → IntervalBox → List ℤ → Option Why
empty_fault job area prices = or_fault (row_fault job area prices) (free_fault (free_value job area (row_of job prices)))

abbrev pub winners_fault : Job → IntervalBox → Option Why
winners_fault job area = if nat_lt (most_winners job) (sure_winners job area) || nat_lt (possible_winners job area) (least_winners job)
    then None else Some WinnersFit

-- after a leaf the next box is due
abbrev pub after_leaf : ℕ → RowStore → Option ℕ → List IntervalBox → Option Why → Step
after_leaf line store best due None = Ok (at_nodes store best due)
after_leaf line store best due (Some why) = rejects line why

-- the number s is in the range of supplier i, below the last
abbrev pub is_split : Job → IntervalBox → ℕ → ℕ → Bool
is_split job area i s = nat_lt i (suppliers job) && nat_le (low_of area i) s && nat_lt s (high_of area i)

-- the line of this number, by what is due
abbrev pub after_header : ℕ → Option TreeLine → Step
after_header line (Some HeaderLine) = Ok (at_plan in_leaves)
after_header line (Some Header2Line) = Ok (at_plan (in_slots no_rows))
after_header line _ = rejects line Header

abbrev pub after_plan : Job → ℕ → RowStore → Option TreeLine → Step
after_plan job line store (Some NoPlanLine) = from_root job store None
after_plan job line store (Some (PlanLine cost count)) = if nat_le count (suppliers job * goods job)
    then when_bought job store (record { cost = cost; left = count; next = 0; bought = nothing_bought })
    else rejects line PlanForm
after_plan job line store _ = rejects line PlanForm

abbrev pub after_buy : Job → ℕ → RowStore → PlanSoFar → Option TreeLine → Step
after_buy job line store plan (Some (BuyLine i k n)) = if is_next job plan.next i k n then when_bought job store (with_buy job plan i k n) else rejects line PlanForm
after_buy job line store plan _ = rejects line PlanForm

abbrev pub after_split : Job → ℕ → RowStore → Option ℕ → IntervalBox → List IntervalBox → ℕ → ℕ → Step
after_split job line store best area due i s = if is_split job area i s
    then Ok (at_nodes store best (low_half area i s ∷ high_half area i s ∷ due))
    else rejects line SplitRange

-- why a line of format 1 is no leaf that kills the box
abbrev pub leaf_fault : Job → Option ℕ → IntervalBox → Option TreeLine → Option Why
leaf_fault job best area (Some (BoundLine prices)) = bound_fault job best area prices
leaf_fault job best area (Some (EmptyLine prices)) = empty_fault job area prices
leaf_fault job best area (Some WinnersLine) = winners_fault job area
leaf_fault job best area _ = Some Line

-- the number that stands alone after the word of a leaf of format 2, where it is at least 0
abbrev pub named_slot : List ℤ → Option ℕ
named_slot (n ∷ []) = if int_le (pos 0) n then Some (unsigned_abs n) else None
named_slot _ = None

-- the fault of the row in a slot, or that the slot has none
abbrev pub held_fault : ℕ → (Prices → Option Why) → Option Prices → Option Why
held_fault n fault None = Some (RowSlot n)
held_fault n fault (Some row) = fault row

abbrev pub named_fault : Slots → (Prices → Option Why) → Option ℕ → Option Why
named_fault slots fault None = Some Line
named_fault slots fault (Some n) = held_fault n fault (row_in slots n)

-- why a row of the root, narrowed to the box, does not kill it
abbrev pub bound_row_fault : Job → Option ℕ → IntervalBox → Prices → Option Why
bound_row_fault job best area row = short_fault best (value job area (narrowed job (root_of job) area row))

abbrev pub empty_row_fault : Job → IntervalBox → Prices → Option Why
empty_row_fault job area row = free_fault (free_value job area (narrowed job (root_of job) area row))

-- why a line of format 2 is no leaf that kills the box
abbrev pub slot_leaf_fault : Job → Slots → Option ℕ → IntervalBox → Option TreeLine → Option Why
slot_leaf_fault job slots best area (Some (BoundLine numbers)) = named_fault slots (bound_row_fault job best area) (named_slot numbers)
slot_leaf_fault job slots best area (Some (EmptyLine numbers)) = named_fault slots (empty_row_fault job area) (named_slot numbers)
slot_leaf_fault job slots best area (Some WinnersLine) = winners_fault job area
slot_leaf_fault job slots best area _ = Some Line

-- what is wrong with a `row` line: its slot, or its prices, which are those of a row of the root
abbrev pub slot_row_fault : Job → ℕ → List ℤ → Option Why
slot_row_fault job n prices = if nat_lt n SLOTS_MAX then row_fault job (root_of job) prices else Some (RowSlot n)

-- after a `row` line its slot has the row, and the node is still due
abbrev pub after_row : Job → ℕ → Slots → Option ℕ → List IntervalBox → ℕ → List ℤ → Option Why → Step
after_row job line slots best due n prices None = Ok (at_nodes (in_slots (with_row slots n (row_of job prices))) best due)
after_row job line slots best due n prices (Some why) = rejects line why

-- a node of format 1, and one of format 2
abbrev pub after_node : Job → ℕ → Option ℕ → IntervalBox → List IntervalBox → Option TreeLine → Step
after_node job line best area due (Some (SplitLine i s)) = after_split job line in_leaves best area due i s
after_node job line best area due read = after_leaf line in_leaves best due (leaf_fault job best area read)

abbrev pub after_slot_node : Job → ℕ → Slots → Option ℕ → IntervalBox → List IntervalBox → Option TreeLine → Step
after_slot_node job line slots best area due (Some (SplitLine i s)) = after_split job line (in_slots slots) best area due i s
after_slot_node job line slots best area due (Some (RowLine n prices)) = after_row job line slots best (area ∷ due) n prices (slot_row_fault job n prices)
after_slot_node job line slots best area due read = after_leaf line (in_slots slots) best due (slot_leaf_fault job slots best area read)

unfoldable pub after_line : Job → ℕ → Phase → Option TreeLine → Step
after_line job line at_header read = after_header line read
after_line job line (at_plan store) read = after_plan job line store read
after_line job line (at_buys store plan) read = after_buy job line store plan read
after_line job line (at_nodes store best []) read = rejects line Trailing
after_line job line (at_nodes in_leaves best (area ∷ due)) read = after_node job line best area due read
after_line job line (at_nodes (in_slots slots) best (area ∷ due)) read = after_slot_node job line slots best area due read

-- what reading a text has come to: the number of lines that have ended, the bytes of the line that has not, and what is
-- due; or the cause that ended the reading
pub data Progress : Type 0 where
  reading : ℕ → Bytes → Phase → Progress
  stopped : Rejection → Progress

abbrev pub is_whole : Phase → Bool
is_whole (at_nodes store best []) = true
is_whole _ = false

abbrev pub line_ended : ℕ → Step → Progress
line_ended lines (Ok phase) = reading lines [] phase
line_ended lines (Err rejection) = stopped rejection

-- one byte more
unfoldable pub after_byte : Job → Progress → ℕ → Progress
after_byte job (stopped rejection) byte = stopped rejection
after_byte job (reading lines line phase) byte =
    if is_whole phase then stopped (record { line = lines + 1; why = Trailing }) else
    if ends_line byte then line_ended (lines + 1) (after_line job (lines + 1) phase (read_line line)) else
    reading lines (line ++ byte ∷ []) phase

abbrev pub after_bytes : Job → Progress → Bytes → Progress
after_bytes job = fold (after_byte job)

abbrev pub at_first : Progress
at_first = reading 0 [] at_header

abbrev pub verdict_at : ℕ → Phase → Verdict
verdict_at lines (at_nodes store (Some cost) []) = Optimal cost
verdict_at lines (at_nodes store None []) = NoPurchase
verdict_at lines _ = Rejected (record { line = lines + 1; why = EarlyEnd })

abbrev pub verdict_of : Progress → Verdict
verdict_of (reading lines line phase) = verdict_at lines phase
verdict_of (stopped rejection) = Rejected rejection

-- the verdict of a text: it is all that there is, so a line that is still due makes it end early
unfoldable pub verdict : Job → Bytes → Verdict
verdict job text = verdict_of (after_bytes job at_first text)

-- a rejection that more bytes cannot mend
pub record IsRejectedFor (job : Job) (text : Bytes) (rejection : Rejection) : Type 0 where
  pub rejected : verdict job text ≡ Rejected rejection
  pub not_early : rejection.why ≢ EarlyEnd
