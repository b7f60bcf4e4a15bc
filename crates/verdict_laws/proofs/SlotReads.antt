-- Reading the items of a sound tree with slots that unfolds to a tree which is valid for its box.
use Rattle.std.proofs.Common.{ℕ, ◌≡◌, ◌+◌, ◌<◌, true, true≢false, List, [], ◌∷◌, ◌++◌, map, length, Option, None, Some, Ok, refl, ap, sym, ◌∙◌, subst, arith, append_assoc, length-append}
use Rattle.std.specs.Prelude.{pos, int_le, nat_lt, unwrap_or, IsSome}
use Rattle.std.proofs.lemmas.Int.{ints}
use Rattle.std.proofs.lemmas.Bool.{lt-ltb}
use Rattle.tqd_base.specs.World.{Bytes}
use Rattle.tqd_instance.specs.declared.job.Job.{Job}
use Rattle.interval_box.specs.declared.boxes.IntervalBox.{IntervalBox}
use Rattle.interval_box.specs.Ranges.{IsBoxOf}
use Rattle.interval_box.specs.Halves.{low_half, high_half}
use Rattle.interval_box.proofs.Split.{low_is_box, high_is_box}
use Rattle.bound_tree.specs.declared.slots.TheConstants.{SLOTS_MAX}
use Rattle.bound_tree.specs.declared.line.TreeLine.TheVariants.{Split, Row, Bound, Empty}
use Rattle.bound_tree.specs.Root.{root_of}
use Rattle.bound_tree.specs.Prices.{Prices, Fits}
use Rattle.bound_tree.specs.Value.{value, free_value}
use Rattle.bound_tree.specs.BoxTree.{IsValid}
use Rattle.bound_tree.specs.Kills.{Kills}
use Rattle.bound_tree.specs.OtherBox.{narrowed}
use Rattle.bound_tree.specs.SlotTree.{SlotLeaf, bound_by, empty_by, by_winners, SlotTree, row_then, slot_split, slot_leaf, items_of, Slots, row_in, with_row, slots_after, IsSoundLeaf, IsSoundIn, leaf_for, unfolded_in}
use Rattle.bound_tree.specs.SlotText.{slot_leaf_line, item_line}
use Rattle.bound_tree.specs.TreeText.{all_prices, ended, lines_text}
use Rattle.bound_tree.proofs.Texts.{map_append}
use Rattle.bound_tree.proofs.TreeLines.{lines_append, lines_first, one_piece}
use Rattle.tree_checker.specs.Verdict.{in_slots, reading, at_nodes, named_slot, held_fault, bound_row_fault, empty_row_fault, slot_leaf_fault, slot_row_fault, after_leaf, after_row, line_ended, after_line, after_bytes}
use Rattle.verdict_laws.proofs.OneLine.{line_step}
use Rattle.verdict_laws.proofs.LeafFaults.{no_row_fault, one_list, reaches, above, fail}
use Rattle.verdict_laws.proofs.TreeReads.{split_goes, split_is_read}
use Rattle.verdict_laws.proofs.SlotLines.{row_is_read, slot_leaf_is_read, HasSlots, slots_more, slots_kept}

-- the text of the items of a tree with slots
unfoldable pub items_text : SlotTree → Bytes
items_text tree = lines_text (map item_line (items_of tree))

unfoldable pub items_count : SlotTree → ℕ
items_count tree = length (items_of tree)

-- reading a tree with slots whose box is due, before other boxes
abbrev pub SlotReads : Job → Option ℕ → IntervalBox → Slots → SlotTree → Type 0
SlotReads job best area slots tree = (due : List IntervalBox) (n : ℕ) (after : Bytes)
    → after_bytes job (reading n [] (at_nodes (in_slots slots) best (area ∷ due))) (items_text tree ++ after)
    ≡ after_bytes job (reading (n + items_count tree) [] (at_nodes (in_slots (slots_after slots tree)) best due)) after

pub row_text : (n : ℕ) (row : Prices) (tree : SlotTree) → items_text (row_then n row tree) ≡ ended (Row n (all_prices row)) ++ items_text tree
unfolding items_text items_of
row_text n row tree = lines_first (Row n (all_prices row)) (map item_line (items_of tree))

pub slot_leaf_text : (leaf : SlotLeaf) → items_text (slot_leaf leaf) ≡ ended (slot_leaf_line leaf)
unfolding items_text items_of
slot_leaf_text leaf = one_piece (slot_leaf_line leaf)

pub slot_split_text : (i s : ℕ) (low high : SlotTree) → items_text (slot_split i s low high) ≡ ended (Split i s) ++ (items_text low ++ items_text high)
unfolding items_text items_of
slot_split_text i s low high = lines_first (Split i s) (map item_line (items_of low ++ items_of high))
    ∙ ap (λ (t : Bytes). ended (Split i s) ++ t) (ap lines_text (map_append item_line (items_of low) (items_of high)) ∙ lines_append (map item_line (items_of low)) (map item_line (items_of high)))

row_count : (n : ℕ) (row : Prices) (tree : SlotTree) → items_count (row_then n row tree) ≡ 1 + items_count tree
unfolding items_count items_of
row_count n row tree = omega arith

leaf_count : (leaf : SlotLeaf) → items_count (slot_leaf leaf) ≡ 1
unfolding items_count items_of
leaf_count leaf = refl

split_count : (i s : ℕ) (low high : SlotTree) → items_count (slot_split i s low high) ≡ 1 + (items_count low + items_count high)
unfolding items_count items_of
split_count i s low high = omega (arith, length-append (items_of low) (items_of high))

-- a row of the root in a slot leads to the same node with the row in its slot
row_goes : (job : Job) (n : ℕ) (slots : Slots) (best : Option ℕ) (area : IntervalBox) (due : List IntervalBox) (slot : ℕ) (row : Prices) → slot < SLOTS_MAX → Fits job (root_of job) row
    → after_line job n (at_nodes (in_slots slots) best (area ∷ due)) (Some (Row slot (all_prices row))) ≡ Ok (at_nodes (in_slots (with_row slots slot row)) best (area ∷ due))
unfolding after_line
row_goes job n slots best area due slot row few fits =
    let below : nat_lt slot SLOTS_MAX ≡ true = lt-ltb _ _ few in
    let none : slot_row_fault job slot (all_prices row) ≡ None = rw below (no_row_fault job (root_of job) row fits) in
    ap (after_row job n slots best (area ∷ due) slot (all_prices row)) none
    ∙ ap (λ (r : Prices). Ok (at_nodes (in_slots (with_row slots slot r)) best (area ∷ due))) (one_list job (root_of job) row fits)

at_least_zero : (n : ℕ) → int_le (pos 0) (pos n) ≡ true
at_least_zero n = grind (arith, ints)

pub names : (n : ℕ) → named_slot (pos n ∷ []) ≡ Some n
names n = rw (at_least_zero n) refl

-- a leaf whose row, narrowed to its box, kills the box has no fault
bound_goes : (job : Job) (best : Option ℕ) (area : IntervalBox) (slots : Slots) (n : ℕ) (row : Option Prices) → row_in slots n ≡ row → IsSome (row_in slots n)
    → Kills job area best (leaf_for job area slots (bound_by n)) → held_fault n (bound_row_fault job best area) (row_in slots n) ≡ None
bound_goes job best area slots n None is some kills = absurd (true≢false (sym (subst IsSome is some)))
bound_goes job best area slots n (Some row) is some kills =
    let same = ap (λ (o : Option Prices). value job area (narrowed job (root_of job) area (unwrap_or o (record { goods = []; places = [] })))) is in
    ap (held_fault n (bound_row_fault job best area)) is ∙ reaches best (value job area (narrowed job (root_of job) area row)) (let least = kills.1 in rw same at least)

empty_goes : (job : Job) (best : Option ℕ) (area : IntervalBox) (slots : Slots) (n : ℕ) (row : Option Prices) → row_in slots n ≡ row → IsSome (row_in slots n)
    → Kills job area best (leaf_for job area slots (empty_by n)) → held_fault n (empty_row_fault job area) (row_in slots n) ≡ None
empty_goes job best area slots n None is some kills = absurd (true≢false (sym (subst IsSome is some)))
empty_goes job best area slots n (Some row) is some kills =
    let same = ap (λ (o : Option Prices). free_value job area (narrowed job (root_of job) area (unwrap_or o (record { goods = []; places = [] })))) is in
    ap (held_fault n (empty_row_fault job area)) is ∙ above (free_value job area (narrowed job (root_of job) area row)) (let least = kills.1 in rw same at least)

slot_leaf_goes : (job : Job) (n : ℕ) (slots : Slots) (best : Option ℕ) (area : IntervalBox) (due : List IntervalBox) (leaf : SlotLeaf) → IsSoundLeaf slots leaf
    → Kills job area best (leaf_for job area slots leaf)
    → after_line job n (at_nodes (in_slots slots) best (area ∷ due)) (Some (slot_leaf_line leaf)) ≡ Ok (at_nodes (in_slots slots) best due)
unfolding after_line
slot_leaf_goes job n slots best area due (bound_by slot) sound kills =
    let none : slot_leaf_fault job slots best area (Some (Bound (pos slot ∷ []))) ≡ None = rw (names slot) (bound_goes job best area slots slot (row_in slots slot) refl sound kills) in
    ap (after_leaf n (in_slots slots) best due) none
slot_leaf_goes job n slots best area due (empty_by slot) sound kills =
    let none : slot_leaf_fault job slots best area (Some (Empty (pos slot ∷ []))) ≡ None = rw (names slot) (empty_goes job best area slots slot (row_in slots slot) refl sound kills) in
    ap (after_leaf n (in_slots slots) best due) none
slot_leaf_goes job n slots best area due by_winners sound kills = ap (after_leaf n (in_slots slots) best due) (fail job area kills)

pub slot_tree_reads : (job : Job) (best : Option ℕ) (tree : SlotTree) (area : IntervalBox) (slots : Slots) → HasSlots slots → IsBoxOf job area → IsSoundIn job area slots tree
    → IsValid job best area (unfolded_in job area slots tree) → SlotReads job best area slots tree
unfolding IsValid IsSoundIn unfolded_in slots_after
slot_tree_reads job best (row_then slot row tree) area slots has b sound valid due n after =
    ap (λ (t : Bytes). after_bytes job (reading n [] (at_nodes (in_slots slots) best (area ∷ due))) t)
    (ap (λ (t : Bytes). t ++ after) (row_text slot row tree) ∙ append_assoc (ended (Row slot (all_prices row))) (items_text tree) after)
    ∙ (line_step job n (at_nodes (in_slots slots) best (area ∷ due)) (Row slot (all_prices row)) (items_text tree ++ after) refl (row_is_read job slot row (sound.0) (sound.1))
    ∙ (ap (λ r. after_bytes job (line_ended (n + 1) r) (items_text tree ++ after)) (row_goes job (n + 1) slots best area due slot row (sound.0) (sound.1))
    ∙ (slot_tree_reads job best tree area (with_row slots slot row) (slots_more slots slot row has) b (sound.2) valid due (n + 1) after
    ∙ ap (λ (m : ℕ). after_bytes job (reading m [] (at_nodes (in_slots (slots_after (with_row slots slot row) tree)) best due)) after)
    (let e = row_count slot row tree in let f : n + 1 + items_count tree ≡ n + items_count (row_then slot row tree) = omega arith in f))))
slot_tree_reads job best (slot_split i s low high) area slots has b sound valid due n after =
    let lower = low_half area i s in
    let upper = high_half area i s in
    let between = slots_after slots low in
    ap (λ (t : Bytes). after_bytes job (reading n [] (at_nodes (in_slots slots) best (area ∷ due))) t)
    (ap (λ (t : Bytes). t ++ after) (slot_split_text i s low high) ∙ (append_assoc (ended (Split i s)) (items_text low ++ items_text high) after ∙ ap (λ (t : Bytes). ended (Split i s) ++ t) (append_assoc (items_text low) (items_text high) after)))
    ∙ (line_step job n (at_nodes (in_slots slots) best (area ∷ due)) (Split i s) (items_text low ++ (items_text high ++ after)) refl (split_is_read job area i s b (sound.0))
    ∙ (ap (λ r. after_bytes job (line_ended (n + 1) r) (items_text low ++ (items_text high ++ after))) (split_goes job (n + 1) (in_slots slots) best area due i s b (sound.0))
    ∙ (slot_tree_reads job best low lower slots has (low_is_box job area i s b (sound.0)) (sound.1) (valid.1) (upper ∷ due) (n + 1) (items_text high ++ after)
    ∙ (slot_tree_reads job best high upper between (slots_kept slots low has) (high_is_box job area i s b (sound.0)) (sound.2) (valid.2) due (n + 1 + items_count low) after
    ∙ ap (λ (m : ℕ). after_bytes job (reading m [] (at_nodes (in_slots (slots_after between high)) best due)) after)
    (let e = split_count i s low high in let f : n + 1 + items_count low + items_count high ≡ n + items_count (slot_split i s low high) = omega arith in f)))))
slot_tree_reads job best (slot_leaf leaf) area slots has b sound valid due n after =
    ap (λ (t : Bytes). after_bytes job (reading n [] (at_nodes (in_slots slots) best (area ∷ due))) (t ++ after)) (slot_leaf_text leaf)
    ∙ (line_step job n (at_nodes (in_slots slots) best (area ∷ due)) (slot_leaf_line leaf) after refl (slot_leaf_is_read job slots leaf has sound)
    ∙ (ap (λ r. after_bytes job (line_ended (n + 1) r) after) (slot_leaf_goes job (n + 1) slots best area due leaf sound valid)
    ∙ ap (λ (m : ℕ). after_bytes job (reading m [] (at_nodes (in_slots slots) best due)) after) (let e = leaf_count leaf in let f : n + 1 ≡ n + items_count (slot_leaf leaf) = omega arith in f)))
