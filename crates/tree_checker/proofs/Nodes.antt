-- Lines of format 2 that are no row.
use Rattle.std.proofs.Common.{ℕ, ℤ, ◌≡◌, List, Option, Some, None, refl}
use Rattle.tqd_instance.specs.declared.job.Job.{Job}
use Rattle.interval_box.specs.declared.boxes.IntervalBox.{IntervalBox}
use Rattle.bound_tree.specs.declared.line.LineHead.{LineHead}
use Rattle.bound_tree.specs.declared.line.LineHead.TheVariants.{Header, Header2, NoPlan, Plan, Buy, Split, Row, Bound, Empty, Winners}
use Rattle.bound_tree.specs.SlotTree.{Slots}
use Rattle.tree_checker.specs.Verdict.{in_slots, after_leaf}
use Rattle.tree_checker.specs.ByHead.{slot_leaf_by_head, slot_node_by_head}

-- such a line is judged as a leaf
pub no_row : (job : Job) (line : ℕ) (slots : Slots) (best : Option ℕ) (area : IntervalBox) (due : List IntervalBox) (head : Option LineHead) (prices : List ℤ)
    → ((n count : ℕ) → head ≡ Some (Row n count) → ⊥)
    → slot_node_by_head job line slots best area due head prices ≡ after_leaf line (in_slots slots) best due (slot_leaf_by_head job slots best area head prices)
no_row job line slots best area due None prices other = refl
no_row job line slots best area due (Some Header) prices other = refl
no_row job line slots best area due (Some Header2) prices other = refl
no_row job line slots best area due (Some NoPlan) prices other = refl
no_row job line slots best area due (Some (Plan cost count)) prices other = refl
no_row job line slots best area due (Some (Buy i k n)) prices other = refl
no_row job line slots best area due (Some (Split i s)) prices other = refl
no_row job line slots best area due (Some (Row n count)) prices other = absurd (other n count refl)
no_row job line slots best area due (Some (Bound count)) prices other = refl
no_row job line slots best area due (Some (Empty count)) prices other = refl
no_row job line slots best area due (Some Winners) prices other = refl
