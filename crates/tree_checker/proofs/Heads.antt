-- The steps by the head of a line are those by the line.
use Rattle.std.proofs.Common.{ℕ, ◌≡◌, List, [], ◌∷◌, Option, Some, None, refl}
use Rattle.std.specs.Option.{option_map}
use Rattle.tqd_instance.specs.declared.job.Job.{Job}
use Rattle.interval_box.specs.declared.boxes.IntervalBox.{IntervalBox}
use Rattle.bound_tree.specs.declared.line.TreeLine.{TreeLine}
use Rattle.bound_tree.specs.declared.line.TreeLine.TheVariants.{Header, Header2, NoPlan, Plan, Buy, Split, Row, Bound, Empty, Winners}
use Rattle.bound_tree.specs.LineHead.{without_prices, prices_in}
use Rattle.tree_checker.specs.Verdict.{RowStore, in_leaves, in_slots, PlanSoFar, at_header, at_plan, at_buys, at_nodes, after_line}
use Rattle.tree_checker.specs.ByHead.{header_by_head, plan_by_head, buy_by_head, node_by_head}

pub header_heads : (job : Job) (line : ℕ) (read : Option TreeLine) → after_line job line at_header read ≡ header_by_head line (option_map without_prices read)
unfolding after_line
header_heads job line None = refl
header_heads job line (Some Header) = refl
header_heads job line (Some Header2) = refl
header_heads job line (Some NoPlan) = refl
header_heads job line (Some (Plan cost count)) = refl
header_heads job line (Some (Buy i k n)) = refl
header_heads job line (Some (Split i s)) = refl
header_heads job line (Some (Row n prices)) = refl
header_heads job line (Some (Bound prices)) = refl
header_heads job line (Some (Empty prices)) = refl
header_heads job line (Some Winners) = refl

pub plan_heads : (job : Job) (line : ℕ) (store : RowStore) (read : Option TreeLine) → after_line job line (at_plan store) read ≡ plan_by_head job line store (option_map without_prices read)
unfolding after_line
plan_heads job line store None = refl
plan_heads job line store (Some Header) = refl
plan_heads job line store (Some Header2) = refl
plan_heads job line store (Some NoPlan) = refl
plan_heads job line store (Some (Plan cost count)) = refl
plan_heads job line store (Some (Buy i k n)) = refl
plan_heads job line store (Some (Split i s)) = refl
plan_heads job line store (Some (Row n prices)) = refl
plan_heads job line store (Some (Bound prices)) = refl
plan_heads job line store (Some (Empty prices)) = refl
plan_heads job line store (Some Winners) = refl

pub buy_heads : (job : Job) (line : ℕ) (store : RowStore) (plan : PlanSoFar) (read : Option TreeLine) → after_line job line (at_buys store plan) read ≡ buy_by_head job line store plan (option_map without_prices read)
unfolding after_line
buy_heads job line store plan None = refl
buy_heads job line store plan (Some Header) = refl
buy_heads job line store plan (Some Header2) = refl
buy_heads job line store plan (Some NoPlan) = refl
buy_heads job line store plan (Some (Plan cost count)) = refl
buy_heads job line store plan (Some (Buy i k n)) = refl
buy_heads job line store plan (Some (Split i s)) = refl
buy_heads job line store plan (Some (Row n prices)) = refl
buy_heads job line store plan (Some (Bound prices)) = refl
buy_heads job line store plan (Some (Empty prices)) = refl
buy_heads job line store plan (Some Winners) = refl

pub node_heads : (job : Job) (line : ℕ) (store : RowStore) (best : Option ℕ) (due : List IntervalBox) (read : Option TreeLine)
    → after_line job line (at_nodes store best due) read ≡ node_by_head job line store best due (option_map without_prices read) (prices_in read)
unfolding after_line
node_heads job line store best [] read = refl
node_heads job line in_leaves best (area ∷ due) None = refl
node_heads job line in_leaves best (area ∷ due) (Some Header) = refl
node_heads job line in_leaves best (area ∷ due) (Some Header2) = refl
node_heads job line in_leaves best (area ∷ due) (Some NoPlan) = refl
node_heads job line in_leaves best (area ∷ due) (Some (Plan cost count)) = refl
node_heads job line in_leaves best (area ∷ due) (Some (Buy i k n)) = refl
node_heads job line in_leaves best (area ∷ due) (Some (Split i s)) = refl
node_heads job line in_leaves best (area ∷ due) (Some (Row n prices)) = refl
node_heads job line in_leaves best (area ∷ due) (Some (Bound prices)) = refl
node_heads job line in_leaves best (area ∷ due) (Some (Empty prices)) = refl
node_heads job line in_leaves best (area ∷ due) (Some Winners) = refl
node_heads job line (in_slots slots) best (area ∷ due) None = refl
node_heads job line (in_slots slots) best (area ∷ due) (Some Header) = refl
node_heads job line (in_slots slots) best (area ∷ due) (Some Header2) = refl
node_heads job line (in_slots slots) best (area ∷ due) (Some NoPlan) = refl
node_heads job line (in_slots slots) best (area ∷ due) (Some (Plan cost count)) = refl
node_heads job line (in_slots slots) best (area ∷ due) (Some (Buy i k n)) = refl
node_heads job line (in_slots slots) best (area ∷ due) (Some (Split i s)) = refl
node_heads job line (in_slots slots) best (area ∷ due) (Some (Row n prices)) = refl
node_heads job line (in_slots slots) best (area ∷ due) (Some (Bound prices)) = refl
node_heads job line (in_slots slots) best (area ∷ due) (Some (Empty prices)) = refl
node_heads job line (in_slots slots) best (area ∷ due) (Some Winners) = refl
