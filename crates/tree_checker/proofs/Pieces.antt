-- A rejection, but for an early end, is one that reading stopped at, and it stays.
use Rattle.std.proofs.Common.{ℕ, ℤ, ◌≡◌, ◌≢◌, ◌+◌, ◌==◌, Bool, true, false, List, [], ◌∷◌, ◌++◌, Option, Some, None, Ok, Err, find, if◌then◌else◌, refl, ap, sym, ◌∙◌, subst, length}
use Rattle.std.specs.Prelude.{int_le, int_lt, pos, nat_lt, nat_le, ◌*◌, ◌||◌}
use Rattle.std.specs.Option.{option_map}
use Rattle.std.proofs.lemmas.List.Sums.{fold-append}
use Rattle.tqd_base.specs.World.{Bytes}
use Rattle.tqd_instance.specs.declared.job.Job.{Job}
use Rattle.tqd_instance.specs.declared.standing.Standing.{Standing}
use Rattle.tqd_instance.specs.declared.standing.Standing.TheVariants.{Feasible, Need, Stock, Gap, Winners}
use Rattle.tqd_instance.specs.Job.{goods, suppliers, least_winners, most_winners}
use Rattle.interval_box.specs.Halves.{low_half, high_half}
use Rattle.interval_box.specs.Winners.{sure_winners, possible_winners}
use Rattle.bound_tree.specs.declared.slots.TheConstants.{SLOTS_MAX}
use Rattle.bound_tree.specs.Root.{root_of}
use Rattle.bound_tree.specs.OtherBox.{narrowed}
use Rattle.bound_tree.specs.SlotTree.{Slots, row_in}
use Rattle.bound_tree.specs.Prices.{Prices, row_of}
use Rattle.bound_tree.specs.Value.{value, free_value}
use Rattle.interval_box.specs.declared.boxes.IntervalBox.{IntervalBox}
use Rattle.bound_tree.specs.declared.line.TreeLine.{TreeLine}
use Rattle.bound_tree.specs.declared.line.TreeLine.TheVariants.{Header as HeaderLine, Header2 as Header2Line, NoPlan, Plan, Buy, Split, Row, Bound, Empty, Winners as WinnersLine}
use Rattle.bound_tree.specs.LineHead.{is_beyond}
use Rattle.bound_tree.specs.ReadLine.{read_line}
use Rattle.tree_checker.specs.declared.rejection.Why.{Why}
use Rattle.tree_checker.specs.declared.rejection.Why.TheVariants.{PlanForm, PlanCost, SplitRange, RowSlot, RowLength, PriceRange, BoundShort, EmptyFails, WinnersFit, EarlyEnd, Trailing}
use Rattle.tree_checker.specs.declared.rejection.Rejection.{Rejection}
use Rattle.tree_checker.specs.declared.rejection.Verdict.{Verdict}
use Rattle.tree_checker.specs.declared.rejection.Verdict.TheVariants.{Rejected}
use Rattle.tree_checker.specs.Standing.{standing_of}
use Rattle.tree_checker.specs.Verdict.{RowStore, in_leaves, in_slots, PlanSoFar, Phase, at_header, at_plan, at_buys, at_nodes, Step, rejects, from_root, judged, when_bought, with_buy, is_next, is_split, nothing_bought, prices_wanted, after_line, after_leaf, leaf_fault, row_fault, winners_fault, named_slot, held_fault, named_fault, bound_row_fault, empty_row_fault, slot_leaf_fault, slot_row_fault, after_row, or_fault, short_fault, free_fault, Progress, reading, stopped, at_first, is_whole, line_ended, after_byte, after_bytes, verdict_at, verdict_of, verdict, IsRejectedFor}
use Rattle.tree_checker.proofs.Bytewise.{stopped_stays}

is_early : Why → Bool
is_early EarlyEnd = true
is_early _ = false

-- a cause, a step and a progress that are no early end
abbrev LateFault : Option Why → Type 0
LateFault None = Unit {0}
LateFault (Some why) = is_early why ≡ false

abbrev LateStep : Step → Type 0
LateStep (Ok phase) = Unit {0}
LateStep (Err rejection) = is_early rejection.why ≡ false

abbrev LateProgress : Progress → Type 0
LateProgress (reading lines line phase) = Unit {0}
LateProgress (stopped rejection) = is_early rejection.why ≡ false

either_step : (b : Bool) (s t : Step) → LateStep s → LateStep t → LateStep (if b then s else t)
either_step true s t a c = a
either_step false s t a c = c

either_fault : (b : Bool) (s t : Option Why) → LateFault s → LateFault t → LateFault (if b then s else t)
either_fault true s t a c = a
either_fault false s t a c = c

or_late : (a b : Option Why) → LateFault a → LateFault b → LateFault (or_fault a b)
or_late (Some why) b l m = l
or_late None b l m = m

range_late : (found : Option ℤ) → LateFault (option_map PriceRange found)
unfolding is_early
range_late None = tt
range_late (Some z) = refl

row_late : (job : Job) (area : IntervalBox) (prices : List ℤ) → LateFault (row_fault job area prices)
unfolding is_early
row_late job area prices =
    either_fault (length prices == prices_wanted job area) (option_map PriceRange (find is_beyond prices)) (Some (RowLength (length prices) (prices_wanted job area)))
    (range_late (find is_beyond prices)) refl

short_late : (best : Option ℕ) (v : ℤ) → LateFault (short_fault best v)
unfolding is_early
short_late None v = refl
short_late (Some c) v = either_fault (int_le (pos c) v) None (Some (BoundShort v c)) tt refl

free_late : (v : ℤ) → LateFault (free_fault v)
unfolding is_early
free_late v = either_fault (int_lt (pos 0) v) None (Some (EmptyFails v)) tt refl

leaf_late : (job : Job) (best : Option ℕ) (area : IntervalBox) (read : Option TreeLine) → LateFault (leaf_fault job best area read)
unfolding is_early
leaf_late job best area None = refl
leaf_late job best area (Some HeaderLine) = refl
leaf_late job best area (Some Header2Line) = refl
leaf_late job best area (Some NoPlan) = refl
leaf_late job best area (Some (Plan cost count)) = refl
leaf_late job best area (Some (Buy i k n)) = refl
leaf_late job best area (Some (Split i s)) = refl
leaf_late job best area (Some (Row n prices)) = refl
leaf_late job best area (Some (Bound prices)) =
    or_late (row_fault job area prices) (short_fault best (value job area (row_of job prices))) (row_late job area prices) (short_late best (value job area (row_of job prices)))
leaf_late job best area (Some (Empty prices)) =
    or_late (row_fault job area prices) (free_fault (free_value job area (row_of job prices))) (row_late job area prices) (free_late (free_value job area (row_of job prices)))
leaf_late job best area (Some WinnersLine) =
    either_fault (nat_lt (most_winners job) (sure_winners job area) || nat_lt (possible_winners job area) (least_winners job)) None (Some WinnersFit) tt refl

held_late : (n : ℕ) (fault : Prices → Option Why) (held : Option Prices) → ((row : Prices) → LateFault (fault row)) → LateFault (held_fault n fault held)
unfolding is_early
held_late n fault None late = refl
held_late n fault (Some row) late = late row

named_late : (slots : Slots) (fault : Prices → Option Why) (named : Option ℕ) → ((row : Prices) → LateFault (fault row)) → LateFault (named_fault slots fault named)
unfolding is_early
named_late slots fault None late = refl
named_late slots fault (Some n) late = held_late n fault (row_in slots n) late

winners_late : (job : Job) (area : IntervalBox) → LateFault (winners_fault job area)
unfolding is_early
winners_late job area =
    either_fault (nat_lt (most_winners job) (sure_winners job area) || nat_lt (possible_winners job area) (least_winners job)) None (Some WinnersFit) tt refl

slot_leaf_late : (job : Job) (slots : Slots) (best : Option ℕ) (area : IntervalBox) (read : Option TreeLine) → LateFault (slot_leaf_fault job slots best area read)
unfolding is_early
slot_leaf_late job slots best area None = refl
slot_leaf_late job slots best area (Some HeaderLine) = refl
slot_leaf_late job slots best area (Some Header2Line) = refl
slot_leaf_late job slots best area (Some NoPlan) = refl
slot_leaf_late job slots best area (Some (Plan cost count)) = refl
slot_leaf_late job slots best area (Some (Buy i k n)) = refl
slot_leaf_late job slots best area (Some (Split i s)) = refl
slot_leaf_late job slots best area (Some (Row n prices)) = refl
slot_leaf_late job slots best area (Some (Bound numbers)) =
    named_late slots (bound_row_fault job best area) (named_slot numbers) (λ row. short_late best (value job area (narrowed job (root_of job) area row)))
slot_leaf_late job slots best area (Some (Empty numbers)) =
    named_late slots (empty_row_fault job area) (named_slot numbers) (λ row. free_late (free_value job area (narrowed job (root_of job) area row)))
slot_leaf_late job slots best area (Some WinnersLine) = winners_late job area

slot_row_late : (job : Job) (n : ℕ) (prices : List ℤ) → LateFault (slot_row_fault job n prices)
unfolding is_early
slot_row_late job n prices = either_fault (nat_lt n SLOTS_MAX) (row_fault job (root_of job) prices) (Some (RowSlot n)) (row_late job (root_of job) prices) refl

after_row_late : (job : Job) (line : ℕ) (slots : Slots) (best : Option ℕ) (due : List IntervalBox) (n : ℕ) (prices : List ℤ) (fault : Option Why) → LateFault fault
    → LateStep (after_row job line slots best due n prices fault)
after_row_late job line slots best due n prices None late = tt
after_row_late job line slots best due n prices (Some why) late = late

after_leaf_late : (line : ℕ) (store : RowStore) (best : Option ℕ) (due : List IntervalBox) (fault : Option Why) → LateFault fault → LateStep (after_leaf line store best due fault)
after_leaf_late line store best due None late = tt
after_leaf_late line store best due (Some why) late = late

judged_late : (job : Job) (store : RowStore) (said : ℕ) (s : Standing) → LateStep (judged job store said s)
unfolding is_early
judged_late job store said (Feasible real) = either_step (said == real) (from_root job store (Some said)) (rejects 2 (PlanCost said real)) tt refl
judged_late job store said (Need good sum) = refl
judged_late job store said (Stock i k) = refl
judged_late job store said (Gap i units) = refl
judged_late job store said (Winners number) = refl

bought_late : (job : Job) (store : RowStore) (plan : PlanSoFar) → LateStep (when_bought job store plan)
bought_late job store plan =
    either_step (plan.left == 0) (judged job store plan.cost (standing_of job plan.bought)) (Ok (at_buys store plan)) (judged_late job store plan.cost (standing_of job plan.bought)) tt

header_late : (job : Job) (line : ℕ) (read : Option TreeLine) → LateStep (after_line job line at_header read)
unfolding is_early after_line
header_late job line None = refl
header_late job line (Some HeaderLine) = tt
header_late job line (Some Header2Line) = tt
header_late job line (Some NoPlan) = refl
header_late job line (Some (Plan cost count)) = refl
header_late job line (Some (Buy i k n)) = refl
header_late job line (Some (Split i s)) = refl
header_late job line (Some (Row n prices)) = refl
header_late job line (Some (Bound prices)) = refl
header_late job line (Some (Empty prices)) = refl
header_late job line (Some WinnersLine) = refl

plan_late : (job : Job) (line : ℕ) (store : RowStore) (read : Option TreeLine) → LateStep (after_line job line (at_plan store) read)
unfolding is_early after_line
plan_late job line store None = refl
plan_late job line store (Some HeaderLine) = refl
plan_late job line store (Some Header2Line) = refl
plan_late job line store (Some NoPlan) = tt
plan_late job line store (Some (Plan cost count)) =
    let plan : PlanSoFar = record { cost = cost; left = count; next = 0; bought = nothing_bought } in
    either_step (nat_le count (suppliers job * goods job)) (when_bought job store plan) (rejects line PlanForm) (bought_late job store plan) refl
plan_late job line store (Some (Buy i k n)) = refl
plan_late job line store (Some (Split i s)) = refl
plan_late job line store (Some (Row n prices)) = refl
plan_late job line store (Some (Bound prices)) = refl
plan_late job line store (Some (Empty prices)) = refl
plan_late job line store (Some WinnersLine) = refl

buy_late : (job : Job) (line : ℕ) (store : RowStore) (plan : PlanSoFar) (read : Option TreeLine) → LateStep (after_line job line (at_buys store plan) read)
unfolding is_early after_line
buy_late job line store plan None = refl
buy_late job line store plan (Some HeaderLine) = refl
buy_late job line store plan (Some Header2Line) = refl
buy_late job line store plan (Some NoPlan) = refl
buy_late job line store plan (Some (Plan cost count)) = refl
buy_late job line store plan (Some (Buy i k n)) =
    either_step (is_next job plan.next i k n) (when_bought job store (with_buy job plan i k n)) (rejects line PlanForm) (bought_late job store (with_buy job plan i k n)) refl
buy_late job line store plan (Some (Split i s)) = refl
buy_late job line store plan (Some (Row n prices)) = refl
buy_late job line store plan (Some (Bound prices)) = refl
buy_late job line store plan (Some (Empty prices)) = refl
buy_late job line store plan (Some WinnersLine) = refl

node_late : (job : Job) (line : ℕ) (store : RowStore) (best : Option ℕ) (due : List IntervalBox) (read : Option TreeLine) → LateStep (after_line job line (at_nodes store best due) read)
unfolding is_early after_line
node_late job line store best [] read = refl
node_late job line in_leaves best (area ∷ due) None = refl
node_late job line in_leaves best (area ∷ due) (Some HeaderLine) = refl
node_late job line in_leaves best (area ∷ due) (Some Header2Line) = refl
node_late job line in_leaves best (area ∷ due) (Some NoPlan) = refl
node_late job line in_leaves best (area ∷ due) (Some (Plan cost count)) = refl
node_late job line in_leaves best (area ∷ due) (Some (Buy i k n)) = refl
node_late job line in_leaves best (area ∷ due) (Some (Split i s)) =
    either_step (is_split job area i s) (Ok (at_nodes in_leaves best (low_half area i s ∷ high_half area i s ∷ due))) (rejects line SplitRange) tt refl
node_late job line in_leaves best (area ∷ due) (Some (Row n prices)) = refl
node_late job line in_leaves best (area ∷ due) (Some (Bound prices)) = after_leaf_late line in_leaves best due (leaf_fault job best area (Some (Bound prices))) (leaf_late job best area (Some (Bound prices)))
node_late job line in_leaves best (area ∷ due) (Some (Empty prices)) = after_leaf_late line in_leaves best due (leaf_fault job best area (Some (Empty prices))) (leaf_late job best area (Some (Empty prices)))
node_late job line in_leaves best (area ∷ due) (Some WinnersLine) = after_leaf_late line in_leaves best due (leaf_fault job best area (Some WinnersLine)) (leaf_late job best area (Some WinnersLine))
node_late job line (in_slots slots) best (area ∷ due) None = refl
node_late job line (in_slots slots) best (area ∷ due) (Some HeaderLine) = refl
node_late job line (in_slots slots) best (area ∷ due) (Some Header2Line) = refl
node_late job line (in_slots slots) best (area ∷ due) (Some NoPlan) = refl
node_late job line (in_slots slots) best (area ∷ due) (Some (Plan cost count)) = refl
node_late job line (in_slots slots) best (area ∷ due) (Some (Buy i k n)) = refl
node_late job line (in_slots slots) best (area ∷ due) (Some (Split i s)) =
    either_step (is_split job area i s) (Ok (at_nodes (in_slots slots) best (low_half area i s ∷ high_half area i s ∷ due))) (rejects line SplitRange) tt refl
node_late job line (in_slots slots) best (area ∷ due) (Some (Row n prices)) = after_row_late job line slots best (area ∷ due) n prices (slot_row_fault job n prices) (slot_row_late job n prices)
node_late job line (in_slots slots) best (area ∷ due) (Some (Bound prices)) = after_leaf_late line (in_slots slots) best due (slot_leaf_fault job slots best area (Some (Bound prices))) (slot_leaf_late job slots best area (Some (Bound prices)))
node_late job line (in_slots slots) best (area ∷ due) (Some (Empty prices)) = after_leaf_late line (in_slots slots) best due (slot_leaf_fault job slots best area (Some (Empty prices))) (slot_leaf_late job slots best area (Some (Empty prices)))
node_late job line (in_slots slots) best (area ∷ due) (Some WinnersLine) = after_leaf_late line (in_slots slots) best due (slot_leaf_fault job slots best area (Some WinnersLine)) (slot_leaf_late job slots best area (Some WinnersLine))

line_late : (job : Job) (line : ℕ) (phase : Phase) (read : Option TreeLine) → LateStep (after_line job line phase read)
line_late job line at_header read = header_late job line read
line_late job line (at_plan store) read = plan_late job line store read
line_late job line (at_buys store plan) read = buy_late job line store plan read
line_late job line (at_nodes store best due) read = node_late job line store best due read

ended_late : (lines : ℕ) (step : Step) → LateStep step → LateProgress (line_ended lines step)
ended_late lines (Ok phase) late = tt
ended_late lines (Err rejection) late = late

either_progress : (b : Bool) (s t : Progress) → LateProgress s → LateProgress t → LateProgress (if b then s else t)
either_progress true s t a c = a
either_progress false s t a c = c

byte_late : (job : Job) (p : Progress) (byte : ℕ) → LateProgress p → LateProgress (after_byte job p byte)
unfolding is_early after_byte
byte_late job (stopped rejection) byte late = late
byte_late job (reading lines line phase) byte late =
    let step = after_line job (lines + 1) phase (read_line line) in
    let next = if byte == 10 then line_ended (lines + 1) step else reading lines (line ++ byte ∷ []) phase in
    either_progress (is_whole phase) (stopped (record { line = lines + 1; why = Trailing })) next refl
    (either_progress (byte == 10) (line_ended (lines + 1) step) (reading lines (line ++ byte ∷ []) phase) (ended_late (lines + 1) step (line_late job (lines + 1) phase (read_line line))) tt)

bytes_late : (job : Job) (p : Progress) (bytes : Bytes) → LateProgress p → LateProgress (after_bytes job p bytes)
bytes_late job p [] late = late
bytes_late job p (byte ∷ bytes) late = bytes_late job (after_byte job p byte) bytes (byte_late job p byte late)

-- a rejection that is no early end is where reading stopped
not_early : (why : Why) → is_early why ≡ false → why ≢ EarlyEnd
unfolding is_early
not_early why late is = let early = ap is_early (sym is) ∙ late in cc

rejection_or : Rejection → Verdict → Rejection
rejection_or other (Rejected rejection) = rejection
rejection_or other _ = other

same_rejected : (a b : Rejection) → Rejected a ≡ Rejected b → a ≡ b
unfolding rejection_or
same_rejected a b e = ap (rejection_or a) e

reading_early : (lines : ℕ) (phase : Phase) (rejection : Rejection) → verdict_at lines phase ≡ Rejected rejection → rejection.why ≢ EarlyEnd → ⊥
reading_early lines at_header rejection e late = late (sym (ap (λ (r : Rejection). r.why) (same_rejected (record { line = lines + 1; why = EarlyEnd }) rejection e)))
reading_early lines (at_plan store) rejection e late = late (sym (ap (λ (r : Rejection). r.why) (same_rejected (record { line = lines + 1; why = EarlyEnd }) rejection e)))
reading_early lines (at_buys store plan) rejection e late = late (sym (ap (λ (r : Rejection). r.why) (same_rejected (record { line = lines + 1; why = EarlyEnd }) rejection e)))
reading_early lines (at_nodes store (Some cost) []) rejection e late = cc
reading_early lines (at_nodes store None []) rejection e late = cc
reading_early lines (at_nodes store None (area ∷ due)) rejection e late = late (sym (ap (λ (r : Rejection). r.why) (same_rejected (record { line = lines + 1; why = EarlyEnd }) rejection e)))
reading_early lines (at_nodes store (Some cost) (area ∷ due)) rejection e late = late (sym (ap (λ (r : Rejection). r.why) (same_rejected (record { line = lines + 1; why = EarlyEnd }) rejection e)))

stopped_from : (p : Progress) (rejection : Rejection) → verdict_of p ≡ Rejected rejection → rejection.why ≢ EarlyEnd → p ≡ stopped rejection
stopped_from (reading lines line phase) rejection e late = absurd (reading_early lines phase rejection e late)
stopped_from (stopped other) rejection e late = ap stopped (same_rejected other rejection e)

pub rejected_stops : (job : Job) (text : Bytes) (rejection : Rejection) → IsRejectedFor job text rejection → after_bytes job at_first text ≡ stopped rejection
unfolding verdict
rejected_stops job text rejection r = stopped_from (after_bytes job at_first text) rejection r.rejected r.not_early

pub stops_rejected : (job : Job) (text : Bytes) (rejection : Rejection) → after_bytes job at_first text ≡ stopped rejection → IsRejectedFor job text rejection
unfolding verdict
stops_rejected job text rejection e = record {
  rejected = ap verdict_of e;
  not_early = not_early rejection.why (subst LateProgress e (bytes_late job at_first text tt));
}

pub rejection_stays : (job : Job) (text more : Bytes) (rejection : Rejection) → IsRejectedFor job text rejection → IsRejectedFor job (text ++ more) rejection
rejection_stays job text more rejection r =
    stops_rejected job (text ++ more) rejection (
    fold-append (after_byte job) at_first text more
    ∙ ap (λ (p : Progress). after_bytes job p more) (rejected_stops job text rejection r)
    ∙ stopped_stays job rejection more)
