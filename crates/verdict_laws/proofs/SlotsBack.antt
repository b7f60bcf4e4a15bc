-- From a text of format 2 that comes to a whole tree back to the trees with slots of the boxes that are due.
use Rattle.std.proofs.Common.{ℕ, ℤ, zero, suc, ◌≡◌, ◌+◌, ◌<◌, ◌≤◌, Bool, true, false, List, [], ◌∷◌, ◌++◌, length, Option, Some, None, Ok, refl, ap, sym, ◌∙◌, subst, arith, append_assoc, inl, inr}
use Rattle.std.specs.Prelude.{pos, negsuc, int_le, nat_lt, ◌≤ℤ◌, ◌<ℤ◌, IsSome, IsSomeAnd, unwrap_or}
use Rattle.std.specs.List.{All}
use Rattle.std.proofs.lemmas.Bool.{ltb-true, cases_eq}
use Rattle.std.proofs.lemmas.Int.{ints}
use Rattle.std.proofs.lemmas.List.{get_or-set_other}
use Rattle.std.proofs.lemmas.List.Elements.{All-head, All-tail, All-cons}
use Rattle.tqd_base.specs.World.{Bytes}
use Rattle.tqd_instance.specs.declared.job.Job.{Job}
use Rattle.interval_box.specs.declared.boxes.IntervalBox.{IntervalBox}
use Rattle.interval_box.specs.Ranges.{IsBoxOf}
use Rattle.interval_box.specs.Halves.{IsProper, low_half, high_half}
use Rattle.interval_box.proofs.Split.{low_is_box, high_is_box}
use Rattle.bound_tree.specs.declared.slots.TheConstants.{SLOTS_MAX}
use Rattle.bound_tree.specs.declared.line.TreeLine.{TreeLine}
use Rattle.bound_tree.specs.declared.line.TreeLine.TheVariants.{Header, Header2, NoPlan, Plan, Buy, Split, Row, Bound, Empty, Winners}
use Rattle.bound_tree.specs.Root.{root_of}
use Rattle.bound_tree.specs.Prices.{Prices, Fits, row_of}
use Rattle.bound_tree.specs.Value.{value, free_value}
use Rattle.bound_tree.specs.BoxTree.{IsValid}
use Rattle.bound_tree.specs.Kills.{Kills}
use Rattle.bound_tree.specs.OtherBox.{narrowed}
use Rattle.bound_tree.specs.SlotTree.{SlotLeaf, bound_by, empty_by, by_winners, SlotTree, row_then, slot_split, slot_leaf, Slots, no_rows, row_in, with_row, slots_after, IsSoundLeaf, IsSoundIn, leaf_for, unfolded_in}
use Rattle.bound_tree.specs.SlotText.{slot_leaf_line}
use Rattle.bound_tree.specs.TreeText.{all_prices, ended}
use Rattle.tree_checker.specs.declared.rejection.Why.{Why}
use Rattle.tree_checker.specs.Verdict.{Phase, in_slots, at_nodes, reading, is_split, row_fault, winners_fault, named_slot, held_fault, named_fault, bound_row_fault, empty_row_fault, slot_leaf_fault, slot_row_fault, after_row, after_line}
use Rattle.tree_checker.proofs.Bytewise.{whole_trails}
use Rattle.verdict_laws.proofs.Ends.{IsWholeAt}
use Rattle.verdict_laws.proofs.NextLines.{next_line, shorter}
use Rattle.verdict_laws.proofs.RowsFit.{row_fits}
use Rattle.verdict_laws.proofs.TreesBack.{reaching, above, winners_fail, one_list, leaf_next, split_next, proper_from, leaf_valid, split_valid}
use Rattle.bound_tree.proofs.SlotTrees.{length-no_rows, row_in-no_rows, row_in-with_row}
use Rattle.verdict_laws.proofs.SlotLines.{HasSlots, slots_more, root_fits_in}
use Rattle.verdict_laws.proofs.SlotReads.{items_text, row_text, slot_leaf_text, slot_split_text}

-- 64 slots, whose rows are rows of the root
pub record AreSlots (job : Job) (slots : Slots) : Type 0 where
  pub has : HasSlots slots
  pub fits : (n : ℕ) (row : Prices) → row_in slots n ≡ Some row → Fits job (root_of job) row

same_row : (a b : Prices) → ◌≡◌ {A = Option Prices} (Some a) (Some b) → a ≡ b
same_row a b e = ap (λ (o : Option Prices). unwrap_or o a) e

pub slots_none : (job : Job) → AreSlots job no_rows
slots_none job = record { has = length-no_rows; fits = λ n row is. absurd (let none = row_in-no_rows n in cc) }

with_fits : (job : Job) (slots : Slots) (n : ℕ) (row : Prices) → AreSlots job slots → n < SLOTS_MAX → Fits job (root_of job) row → AreSlots job (with_row slots n row)
unfolding with_row row_in
with_fits job slots n row are below fits = record {
  has = slots_more slots n row are.has;
  fits = λ m other is. elim (cases_eq m n) [
    | inl here ↦ (
        let at = ap (λ (k : ℕ). row_in (with_row slots n row) k) here in
        let put = row_in-with_row slots n row (omega (arith, are.has, below)) in
        subst (Fits job (root_of job)) (same_row row other (sym put ∙ (sym at ∙ is))) fits)
    | inr elsewhere ↦ are.fits m other (sym (get_or-set_other slots n m (Some row) None elsewhere) ∙ is)
  ];
}

-- a leaf that its line is the line of, and whose row, narrowed to the box, kills it
record IsKilling (job : Job) (slots : Slots) (best : Option ℕ) (area : IntervalBox) (line : TreeLine) : Type 0 where
  leaf : SlotLeaf
  line_is : line ≡ slot_leaf_line leaf
  sound : IsSoundLeaf slots leaf
  kills : Kills job area best (leaf_for job area slots leaf)

named_from : (numbers : List ℤ) (n : ℕ) → named_slot numbers ≡ Some n → numbers ≡ pos n ∷ []
named_from [] n e = absurd (cc)
named_from (pos m ∷ []) n e =
    let least : int_le (pos 0) (pos m) ≡ true = grind (arith, ints) in
    let same : m ≡ n = same_some m n (rw least at e) in
    ap (λ (k : ℕ). pos k ∷ []) same
  where
    same_some : (a b : ℕ) → ◌≡◌ {A = Option ℕ} (Some a) (Some b) → a ≡ b
    same_some a b e = ap (λ (o : Option ℕ). unwrap_or o a) e
named_from (negsuc m ∷ []) n e =
    absurd (cc)
named_from (x ∷ y ∷ rest) n e = absurd (cc)

-- the row of a slot that has no fault
record IsHeld (slots : Slots) (fault : Prices → Option Why) (numbers : List ℤ) : Type 0 where
  n : ℕ
  row : Prices
  numbers_are : numbers ≡ pos n ∷ []
  row_is : row_in slots n ≡ Some row
  no_fault : fault row ≡ None

held_from : (slots : Slots) (fault : Prices → Option Why) (numbers : List ℤ) (n : ℕ) (held : Option Prices) → numbers ≡ pos n ∷ [] → row_in slots n ≡ held
    → held_fault n fault held ≡ None → IsHeld slots fault numbers
held_from slots fault numbers n None are is e = absurd (cc)
held_from slots fault numbers n (Some row) are is e = record { n = n; row = row; numbers_are = are; row_is = is; no_fault = e }

named_held : (slots : Slots) (fault : Prices → Option Why) (numbers : List ℤ) (named : Option ℕ) → named_slot numbers ≡ named → named_fault slots fault named ≡ None → IsHeld slots fault numbers
named_held slots fault numbers None is e = absurd (cc)
named_held slots fault numbers (Some n) is e = held_from slots fault numbers n (row_in slots n) (named_from numbers n is) refl e

is_some : (o : Option Prices) (row : Prices) → o ≡ Some row → IsSome o
is_some o row e = subst IsSome (sym e) refl

bound_kills : (job : Job) (slots : Slots) (best : Option ℕ) (area : IntervalBox) (numbers : List ℤ) → AreSlots job slots → IsBoxOf job area
    → slot_leaf_fault job slots best area (Some (Bound numbers)) ≡ None → IsKilling job slots best area (Bound numbers)
bound_kills job slots best area numbers are b e =
    let held = named_held slots (bound_row_fault job best area) numbers (named_slot numbers) refl e in
    let row_is : unwrap_or (row_in slots held.n) (record { goods = []; places = [] }) ≡ held.row = ap (λ (o : Option Prices). unwrap_or o (record { goods = []; places = [] })) held.row_is in
    record {
      leaf = bound_by held.n;
      line_is = ap Bound held.numbers_are;
      sound = is_some (row_in slots held.n) held.row held.row_is;
      kills = subst (λ (r : Prices). Fits job area (narrowed job (root_of job) area r) × IsSomeAnd best (λ c. pos c ≤ℤ value job area (narrowed job (root_of job) area r))) (sym row_is)
          (root_fits_in job area held.row b (are.fits held.n held.row held.row_is), reaching best (value job area (narrowed job (root_of job) area held.row)) held.no_fault);
    }

empty_kills : (job : Job) (slots : Slots) (best : Option ℕ) (area : IntervalBox) (numbers : List ℤ) → AreSlots job slots → IsBoxOf job area
    → slot_leaf_fault job slots best area (Some (Empty numbers)) ≡ None → IsKilling job slots best area (Empty numbers)
empty_kills job slots best area numbers are b e =
    let held = named_held slots (empty_row_fault job area) numbers (named_slot numbers) refl e in
    let row_is : unwrap_or (row_in slots held.n) (record { goods = []; places = [] }) ≡ held.row = ap (λ (o : Option Prices). unwrap_or o (record { goods = []; places = [] })) held.row_is in
    record {
      leaf = empty_by held.n;
      line_is = ap Empty held.numbers_are;
      sound = is_some (row_in slots held.n) held.row held.row_is;
      kills = subst (λ (r : Prices). Fits job area (narrowed job (root_of job) area r) × (pos 0 <ℤ free_value job area (narrowed job (root_of job) area r))) (sym row_is)
          (root_fits_in job area held.row b (are.fits held.n held.row held.row_is), above (free_value job area (narrowed job (root_of job) area held.row)) held.no_fault);
    }

winners_kill : (job : Job) (slots : Slots) (best : Option ℕ) (area : IntervalBox) → winners_fault job area ≡ None → IsKilling job slots best area Winners
winners_kill job slots best area e = record { leaf = by_winners; line_is = refl; sound = tt; kills = winners_fail job area e }

-- what a line was, where it led on
data IsNodeLine (job : Job) (slots : Slots) (best : Option ℕ) (area : IntervalBox) (due : List IntervalBox) : TreeLine → Phase → Type 0 where
  leaf_led : {line : TreeLine} {next : Phase} → IsKilling job slots best area line → next ≡ at_nodes (in_slots slots) best due → IsNodeLine job slots best area due line next
  split_led : {line : TreeLine} {next : Phase} (i s : ℕ) → line ≡ Split i s → is_split job area i s ≡ true → next ≡ at_nodes (in_slots slots) best (low_half area i s ∷ high_half area i s ∷ due)
      → IsNodeLine job slots best area due line next
  row_led : {line : TreeLine} {next : Phase} (n : ℕ) (row : Prices) → line ≡ Row n (all_prices row) → n < SLOTS_MAX → Fits job (root_of job) row
      → next ≡ at_nodes (in_slots (with_row slots n row)) best (area ∷ due) → IsNodeLine job slots best area due line next

row_next : (job : Job) (line : ℕ) (slots : Slots) (best : Option ℕ) (area : IntervalBox) (due : List IntervalBox) (n : ℕ) (prices : List ℤ) (fault : Option Why) (next : Phase)
    → after_row job line slots best (area ∷ due) n prices fault ≡ Ok next → (fault ≡ None) × (next ≡ at_nodes (in_slots (with_row slots n (row_of job prices))) best (area ∷ due))
row_next job line slots best area due n prices None next e =
    let same : at_nodes (in_slots (with_row slots n (row_of job prices))) best (area ∷ due) ≡ next = cc in
    (refl, sym same)
row_next job line slots best area due n prices (Some why) next e = absurd (cc)

right_row : (job : Job) (n : ℕ) (prices : List ℤ) (b : Bool) → nat_lt n SLOTS_MAX ≡ b → slot_row_fault job n prices ≡ None → (n < SLOTS_MAX) × (row_fault job (root_of job) prices ≡ None)
right_row job n prices true is e = (ltb-true n SLOTS_MAX is, rw is at e)
right_row job n prices false is e = absurd (let some = rw is at e in cc)

row_line_is : (job : Job) (line : ℕ) (slots : Slots) (best : Option ℕ) (area : IntervalBox) (due : List IntervalBox) (n : ℕ) (prices : List ℤ) (next : Phase)
    → after_row job line slots best (area ∷ due) n prices (slot_row_fault job n prices) ≡ Ok next → IsNodeLine job slots best area due (Row n prices) next
row_line_is job line slots best area due n prices next e =
    let led = row_next job line slots best area due n prices (slot_row_fault job n prices) next e in
    let right = right_row job n prices (nat_lt n SLOTS_MAX) refl led.0 in
    row_led n (row_of job prices) (ap (Row n) (one_list job prices)) right.0 (row_fits job (root_of job) prices right.1) led.1

node_line_is : (job : Job) (line : ℕ) (slots : Slots) (best : Option ℕ) (area : IntervalBox) (due : List IntervalBox) (read : TreeLine) (next : Phase) → AreSlots job slots → IsBoxOf job area
    → after_line job line (at_nodes (in_slots slots) best (area ∷ due)) (Some read) ≡ Ok next → IsNodeLine job slots best area due read next
unfolding after_line
node_line_is job line slots best area due Header next are b e = absurd (cc)
node_line_is job line slots best area due Header2 next are b e = absurd (cc)
node_line_is job line slots best area due NoPlan next are b e = absurd (cc)
node_line_is job line slots best area due (Plan cost count) next are b e = absurd (cc)
node_line_is job line slots best area due (Buy i k u) next are b e = absurd (cc)
node_line_is job line slots best area due (Split i s) next are b e =
    let led = split_next job line (in_slots slots) best area due i s (is_split job area i s) next refl e in split_led i s refl led.0 led.1
node_line_is job line slots best area due (Row n prices) next are b e = row_line_is job line slots best area due n prices next e
node_line_is job line slots best area due (Bound numbers) next are b e =
    let led = leaf_next line (in_slots slots) best due (slot_leaf_fault job slots best area (Some (Bound numbers))) next e in leaf_led (bound_kills job slots best area numbers are b led.0) led.1
node_line_is job line slots best area due (Empty numbers) next are b e =
    let led = leaf_next line (in_slots slots) best due (slot_leaf_fault job slots best area (Some (Empty numbers))) next e in leaf_led (empty_kills job slots best area numbers are b led.0) led.1
node_line_is job line slots best area due Winners next are b e =
    let led = leaf_next line (in_slots slots) best due (winners_fault job area) next e in leaf_led (winners_kill job slots best area led.0) led.1

-- a text is that of the items of sound trees, one for each box, which unfold to valid ones
abbrev pub AreSlotTrees : Job → Option ℕ → Slots → List IntervalBox → Bytes → Type 0
AreSlotTrees job best slots [] text = text ≡ []
AreSlotTrees job best slots (area ∷ due) text = (tree : SlotTree) × (rest : Bytes) × IsSoundIn job area slots tree × IsValid job best area (unfolded_in job area slots tree)
    × (text ≡ items_text tree ++ rest) × AreSlotTrees job best (slots_after slots tree) due rest

trees_of_leaf : (job : Job) (best : Option ℕ) (slots : Slots) (area : IntervalBox) (due : List IntervalBox) (line : TreeLine) (text rest : Bytes) → IsKilling job slots best area line
    → text ≡ ended line ++ rest → AreSlotTrees job best slots due rest → AreSlotTrees job best slots (area ∷ due) text
unfolding IsSoundIn unfolded_in slots_after
trees_of_leaf job best slots area due line text rest killing e trees = (
  slot_leaf killing.leaf,
  rest,
  killing.sound,
  leaf_valid job best area (leaf_for job area slots killing.leaf) killing.kills,
  e ∙ (ap (λ (l : TreeLine). ended l ++ rest) killing.line_is ∙ ap (λ (t : Bytes). t ++ rest) (sym (slot_leaf_text killing.leaf))),
  trees,
)

trees_of_row : (job : Job) (best : Option ℕ) (slots : Slots) (area : IntervalBox) (due : List IntervalBox) (n : ℕ) (row : Prices) (text rest : Bytes) → n < SLOTS_MAX → Fits job (root_of job) row
    → text ≡ ended (Row n (all_prices row)) ++ rest → AreSlotTrees job best (with_row slots n row) (area ∷ due) rest → AreSlotTrees job best slots (area ∷ due) text
unfolding IsSoundIn unfolded_in slots_after
trees_of_row job best slots area due n row text rest below fits e trees = (
  row_then n row trees.0,
  trees.1,
  (below, fits, trees.2),
  trees.3,
  e ∙ (ap (λ (t : Bytes). ended (Row n (all_prices row)) ++ t) trees.4
      ∙ (sym (append_assoc (ended (Row n (all_prices row))) (items_text trees.0) trees.1) ∙ ap (λ (t : Bytes). t ++ trees.1) (sym (row_text n row trees.0)))),
  trees.5,
)

trees_of_split : (job : Job) (best : Option ℕ) (slots : Slots) (area : IntervalBox) (due : List IntervalBox) (i s : ℕ) (text rest : Bytes) → IsProper area i s
    → text ≡ ended (Split i s) ++ rest → AreSlotTrees job best slots (low_half area i s ∷ high_half area i s ∷ due) rest → AreSlotTrees job best slots (area ∷ due) text
unfolding IsSoundIn unfolded_in slots_after
trees_of_split job best slots area due i s text rest proper e trees =
    let low = trees.0 in
    let after_low = trees.1 in
    let high = trees.5.0 in
    let after_high = trees.5.1 in (
      slot_split i s low high,
      after_high,
      (proper, trees.2, trees.5.2),
      split_valid job best area i s (unfolded_in job (low_half area i s) slots low) (unfolded_in job (high_half area i s) (slots_after slots low) high) proper trees.3 trees.5.3,
      e ∙ (ap (λ (t : Bytes). ended (Split i s) ++ t) (trees.4 ∙ ap (λ (t : Bytes). items_text low ++ t) trees.5.4)
          ∙ (sym (ap (λ (t : Bytes). ended (Split i s) ++ t) (append_assoc (items_text low) (items_text high) after_high))
          ∙ (sym (append_assoc (ended (Split i s)) (items_text low ++ items_text high) after_high) ∙ ap (λ (t : Bytes). t ++ after_high) (sym (slot_split_text i s low high))))),
      trees.5.5,
    )

-- where all boxes have been read, nothing is left
pub record IsSlotRead (job : Job) (best found : Option ℕ) (slots : Slots) (due : List IntervalBox) (text : Bytes) : Type 0 where
  pub best_is : found ≡ best
  pub trees : AreSlotTrees job best slots due text

none_due : (job : Job) (n : ℕ) (slots : Slots) (best found : Option ℕ) (text : Bytes) → IsWholeAt job (reading n [] (at_nodes (in_slots slots) best [])) text found → IsSlotRead job best found slots [] text
none_due job n slots best found [] whole =
    let read = whole.read in
    let same : at_nodes (in_slots slots) best [] ≡ at_nodes whole.store found [] = cc in
    let is : best ≡ found = cc in
    record { best_is = sym is; trees = refl }
none_due job n slots best found (x ∷ xs) whole = let trails = whole_trails job n [] (at_nodes (in_slots slots) best []) x xs refl in let read = whole.read in absurd (cc)

step_back : (job : Job) (n : ℕ) (slots : Slots) (best found : Option ℕ) (area : IntervalBox) (due : List IntervalBox) (text rest : Bytes) (line : TreeLine) (next : Phase) → AreSlots job slots
    → IsBoxOf job area → All (IsBoxOf job) due → IsNodeLine job slots best area due line next → text ≡ ended line ++ rest → IsWholeAt job (reading (n + 1) [] next) rest found
    → ((later : Slots) (boxes : List IntervalBox) → AreSlots job later → All (IsBoxOf job) boxes → IsWholeAt job (reading (n + 1) [] (at_nodes (in_slots later) best boxes)) rest found
    → IsSlotRead job best found later boxes rest)
    → IsSlotRead job best found slots (area ∷ due) text
step_back job n slots best found area due text rest line next are b others (leaf_led killing is) e whole back =
    let later = back slots due are others (subst (λ (p : Phase). IsWholeAt job (reading (n + 1) [] p) rest found) is whole) in
    record { best_is = later.best_is; trees = trees_of_leaf job best slots area due line text rest killing e later.trees }
step_back job n slots best found area due text rest line next are b others (split_led i s line_is fits is) e whole back =
    let proper = proper_from job area i s fits in
    let boxes = low_half area i s ∷ high_half area i s ∷ due in
    let all = All-cons (IsBoxOf job) (low_half area i s) (high_half area i s ∷ due) (low_is_box job area i s b proper) (All-cons (IsBoxOf job) (high_half area i s) due (high_is_box job area i s b proper) others) in
    let later = back slots boxes are all (subst (λ (p : Phase). IsWholeAt job (reading (n + 1) [] p) rest found) is whole) in
    record { best_is = later.best_is; trees = trees_of_split job best slots area due i s text rest proper (e ∙ ap (λ (l : TreeLine). ended l ++ rest) line_is) later.trees }
step_back job n slots best found area due text rest line next are b others (row_led slot row line_is below fits is) e whole back =
    let later = back (with_row slots slot row) (area ∷ due) (with_fits job slots slot row are below fits) (All-cons (IsBoxOf job) area due b others)
    (subst (λ (p : Phase). IsWholeAt job (reading (n + 1) [] p) rest found) is whole) in
    record { best_is = later.best_is; trees = trees_of_row job best slots area due slot row text rest below fits (e ∙ ap (λ (l : TreeLine). ended l ++ rest) line_is) later.trees }

-- what is left is the items of sound trees of the boxes that are due
pub slot_trees_back : (fuel : ℕ) (job : Job) (slots : Slots) (best found : Option ℕ) (due : List IntervalBox) (n : ℕ) (text : Bytes) → AreSlots job slots → All (IsBoxOf job) due → length text ≤ fuel
    → IsWholeAt job (reading n [] (at_nodes (in_slots slots) best due)) text found → IsSlotRead job best found slots due text
slot_trees_back fuel job slots best found [] n text are all short whole = none_due job n slots best found text whole
slot_trees_back zero job slots best found (area ∷ due) n text are all short whole =
    let next = next_line job n (at_nodes (in_slots slots) best (area ∷ due)) text found refl whole in
    absurd (let less = shorter text next.rest next.line next.text_is in omega arith)
slot_trees_back (suc fuel) job slots best found (area ∷ due) n text are all short whole =
    let next = next_line job n (at_nodes (in_slots slots) best (area ∷ due)) text found refl whole in
    let less = shorter text next.rest next.line next.text_is in
    step_back job n slots best found area due text next.rest next.line next.next are (All-head (IsBoxOf job) area due all) (All-tail (IsBoxOf job) area due all)
    (node_line_is job (n + 1) slots best area due next.line next.next are (All-head (IsBoxOf job) area due all) next.step) next.text_is next.whole
    (λ later boxes still each more. slot_trees_back fuel job later best found boxes (n + 1) next.rest still each (omega arith) more)
