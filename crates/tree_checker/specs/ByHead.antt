-- The steps of the verdict by the head of a line and its prices, which is how a run reads it.
use Rattle.std.specs.Prelude.{ℕ, ℤ, ◌*◌, nat_le, if◌then◌else◌, List, [], ◌∷◌, Option, None, Some, Ok}
use Rattle.tqd_instance.specs.declared.job.Job.{Job}
use Rattle.tqd_instance.specs.Job.{goods, suppliers}
use Rattle.interval_box.specs.declared.boxes.IntervalBox.{IntervalBox}
use Rattle.bound_tree.specs.declared.line.LineHead.{LineHead}
use Rattle.bound_tree.specs.declared.line.LineHead.TheVariants.{Header as HeaderHead, Header2 as Header2Head, NoPlan as NoPlanHead, Plan as PlanHead, Buy as BuyHead, Split as SplitHead, Row as RowHead, Bound as BoundHead, Empty as EmptyHead, Winners as WinnersHead}
use Rattle.bound_tree.specs.SlotTree.{Slots, no_rows}
use Rattle.tree_checker.specs.declared.rejection.Why.{Why}
use Rattle.tree_checker.specs.declared.rejection.Why.TheVariants.{Header, PlanForm, Line, Trailing}
use Rattle.tree_checker.specs.Verdict.{RowStore, in_leaves, in_slots, PlanSoFar, at_plan, Step, rejects, from_root, when_bought, with_buy, is_next, nothing_bought, bound_fault, empty_fault, winners_fault, after_leaf, after_split, named_slot, named_fault, bound_row_fault, empty_row_fault, slot_row_fault, after_row}

abbrev pub header_by_head : ℕ → Option LineHead → Step
header_by_head line (Some HeaderHead) = Ok (at_plan in_leaves)
header_by_head line (Some Header2Head) = Ok (at_plan (in_slots no_rows))
header_by_head line _ = rejects line Header

abbrev pub plan_by_head : Job → ℕ → RowStore → Option LineHead → Step
plan_by_head job line store (Some NoPlanHead) = from_root job store None
plan_by_head job line store (Some (PlanHead cost count)) = if nat_le count (suppliers job * goods job)
    then when_bought job store (record { cost = cost; left = count; next = 0; bought = nothing_bought })
    else rejects line PlanForm
plan_by_head job line store _ = rejects line PlanForm

abbrev pub buy_by_head : Job → ℕ → RowStore → PlanSoFar → Option LineHead → Step
buy_by_head job line store plan (Some (BuyHead i k n)) = if is_next job plan.next i k n then when_bought job store (with_buy job plan i k n) else rejects line PlanForm
buy_by_head job line store plan _ = rejects line PlanForm

-- a line of format 1
abbrev pub leaf_by_head : Job → Option ℕ → IntervalBox → Option LineHead → List ℤ → Option Why
leaf_by_head job best area (Some (BoundHead count)) prices = bound_fault job best area prices
leaf_by_head job best area (Some (EmptyHead count)) prices = empty_fault job area prices
leaf_by_head job best area (Some WinnersHead) prices = winners_fault job area
leaf_by_head job best area _ prices = Some Line

-- a line of format 2
abbrev pub slot_leaf_by_head : Job → Slots → Option ℕ → IntervalBox → Option LineHead → List ℤ → Option Why
slot_leaf_by_head job slots best area (Some (BoundHead count)) numbers = named_fault slots (bound_row_fault job best area) (named_slot numbers)
slot_leaf_by_head job slots best area (Some (EmptyHead count)) numbers = named_fault slots (empty_row_fault job area) (named_slot numbers)
slot_leaf_by_head job slots best area (Some WinnersHead) numbers = winners_fault job area
slot_leaf_by_head job slots best area _ numbers = Some Line

-- a node of format 2 that is no split
abbrev pub slot_node_by_head : Job → ℕ → Slots → Option ℕ → IntervalBox → List IntervalBox → Option LineHead → List ℤ → Step
slot_node_by_head job line slots best area due (Some (RowHead n count)) prices = after_row job line slots best (area ∷ due) n prices (slot_row_fault job n prices)
slot_node_by_head job line slots best area due head prices = after_leaf line (in_slots slots) best due (slot_leaf_by_head job slots best area head prices)

-- a node that is no split
abbrev pub other_by_head : Job → ℕ → RowStore → Option ℕ → IntervalBox → List IntervalBox → Option LineHead → List ℤ → Step
other_by_head job line in_leaves best area due head prices = after_leaf line in_leaves best due (leaf_by_head job best area head prices)
other_by_head job line (in_slots slots) best area due head prices = slot_node_by_head job line slots best area due head prices

abbrev pub node_by_head : Job → ℕ → RowStore → Option ℕ → List IntervalBox → Option LineHead → List ℤ → Step
node_by_head job line store best [] head prices = rejects line Trailing
node_by_head job line store best (area ∷ due) (Some (SplitHead i s)) prices = after_split job line store best area due i s
node_by_head job line store best (area ∷ due) head prices = other_by_head job line store best area due head prices
