-- Trees with slots are told apart by their texts, and no text of a tree, with or without slots, begins another.
use Rattle.std.proofs.Common.{◌≡◌, ℕ, ◌^◌, ◌<◌, ℤ, pos, List, [], ◌∷◌, ◌++◌, map, Option, refl, sym, ◌∙◌, ap, append_assoc, append-nil, lit<}
use Rattle.std.proofs.lemmas.List.Elements.{All-nil, All-cons}
use Rattle.std.specs.List.{All}
use Rattle.std.specs.Prelude.{unsigned_abs}
use Rattle.tqd_base.specs.World.{Bytes}
use Rattle.tqd_instance.specs.declared.job.Job.{Job}
use Rattle.tqd_instance.specs.Purchase.{Purchase}
use Rattle.bound_tree.specs.declared.line.TreeLine.{TreeLine}
use Rattle.bound_tree.specs.declared.line.TreeLine.TheVariants.{Header, Header2, Split, Row}
use Rattle.bound_tree.specs.Prices.{Prices}
use Rattle.bound_tree.specs.BoxTree.{BoxTree, nodes_of}
use Rattle.bound_tree.specs.SlotTree.{SlotLeaf, bound_by, empty_by, by_winners, SlotTree, row_then, slot_split, slot_leaf, items_of, no_rows, IsSound}
use Rattle.bound_tree.specs.SlotText.{slot_leaf_line, item_line, slot_text}
use Rattle.bound_tree.specs.TreeText.{all_prices, plan_lines, ended, lines_text, tree_text}
use Rattle.bound_tree.specs.TextLaws.{HasQuantities, IsRowFor, HasSlot, HasSlotRows, AreSame, IsTreeText, with_rows, with_slots}
use Rattle.bound_tree.specs.Root.{root_of}
use Rattle.bound_tree.proofs.Roots.{root_is}
use Rattle.bound_tree.proofs.SlotTrees.{length-no_rows, sound_rows}
use Rattle.bound_tree.proofs.Texts.{map_append}
use Rattle.bound_tree.proofs.TreeLines.{lines_append, lines_none}
use Rattle.bound_tree.proofs.Unique.{first_line}
use Rattle.bound_tree.proofs.PlanTexts.{two_small}
use Rattle.bound_tree.proofs.TreeTexts.{Small, row_small, same_row, same_plan, first_text, header_small, parts_text, same_texts}

one_small : (n : ℕ) → n < 10 ^ 64 → All (λ z. unsigned_abs z < 10 ^ 64) (pos n ∷ [])
one_small n small = All-cons (λ z. unsigned_abs z < 10 ^ 64) (pos n) [] small (All-nil (λ z. unsigned_abs z < 10 ^ 64))

leaf_small : (leaf : SlotLeaf) → HasSlot leaf → Small (slot_leaf_line leaf)
leaf_small (bound_by n) small = one_small n small
leaf_small (empty_by n) small = one_small n small
leaf_small by_winners small = All-nil (λ z. unsigned_abs z < 10 ^ 64)

same_leaf : (leaf other : SlotLeaf) → slot_leaf_line leaf ≡ slot_leaf_line other → leaf ≡ other
same_leaf (bound_by n) (bound_by m) e = let same : n ≡ m = cc in ap (λ (k : ℕ). bound_by k) same
same_leaf (bound_by n) (empty_by m) e = absurd (cc)
same_leaf (bound_by n) by_winners e = absurd (cc)
same_leaf (empty_by n) (bound_by m) e = absurd (cc)
same_leaf (empty_by n) (empty_by m) e = let same : n ≡ m = cc in ap (λ (k : ℕ). empty_by k) same
same_leaf (empty_by n) by_winners e = absurd (cc)
same_leaf by_winners (bound_by m) e = absurd (cc)
same_leaf by_winners (empty_by m) e = absurd (cc)
same_leaf by_winners by_winners e = refl

no_row : (leaf : SlotLeaf) (n : ℕ) (prices : List ℤ) → slot_leaf_line leaf ≡ Row n prices → ⊥
no_row (bound_by m) n prices e = cc
no_row (empty_by m) n prices e = cc
no_row by_winners n prices e = cc

no_split : (leaf : SlotLeaf) (i s : ℕ) → slot_leaf_line leaf ≡ Split i s → ⊥
no_split (bound_by m) i s e = cc
no_split (empty_by m) i s e = cc
no_split by_winners i s e = cc

-- the text of the items of a tree
abbrev items_text : SlotTree → Bytes
items_text tree = lines_text (map item_line (items_of tree))

-- its first line, and the text after it
abbrev head_line : SlotTree → TreeLine
head_line (row_then n row tree) = Row n (all_prices row)
head_line (slot_split i s low high) = Split i s
head_line (slot_leaf leaf) = slot_leaf_line leaf

abbrev tail_text : SlotTree → Bytes → Bytes
tail_text (row_then n row tree) after = items_text tree ++ after
tail_text (slot_split i s low high) after = items_text low ++ (items_text high ++ after)
tail_text (slot_leaf leaf) after = after

text_is : (tree : SlotTree) (after : Bytes) → items_text tree ++ after ≡ ended (head_line tree) ++ tail_text tree after
unfolding items_of
text_is (row_then n row tree) after = first_text (Row n (all_prices row)) (map item_line (items_of tree)) after
text_is (slot_split i s low high) after =
    first_text (Split i s) (map item_line (items_of low ++ items_of high)) after
    ∙ ap (λ (t : Bytes). ended (Split i s) ++ t) (ap (λ (t : Bytes). t ++ after) (ap lines_text (map_append item_line (items_of low) (items_of high)) ∙ lines_append (map item_line (items_of low)) (map item_line (items_of high)))
    ∙ append_assoc (items_text low) (items_text high) after)
text_is (slot_leaf leaf) after = first_text (slot_leaf_line leaf) [] after ∙ ap (λ (t : Bytes). ended (slot_leaf_line leaf) ++ (t ++ after)) lines_none

head_small : (job : Job) (tree : SlotTree) → HasSlotRows job tree → Small (head_line tree)
unfolding HasSlotRows
head_small job (row_then n row tree) has = All-cons (λ z. unsigned_abs z < 10 ^ 64) (pos n) (all_prices row) has.0 (row_small job row has.1)
head_small job (slot_split i s low high) has = two_small i s has.0 has.1
head_small job (slot_leaf leaf) has = leaf_small leaf has

heads : (job : Job) (tree other : SlotTree) (after after' : Bytes) → HasSlotRows job tree → HasSlotRows job other → items_text tree ++ after ≡ items_text other ++ after'
    → (head_line tree ≡ head_line other) × (tail_text tree after ≡ tail_text other after')
heads job tree other after after' has has' e =
    first_line (head_line tree) (head_line other) (tail_text tree after) (tail_text other after') (head_small job tree has) (head_small job other has')
    (sym (text_is tree after) ∙ (e ∙ text_is other after'))

row_parts : (job : Job) (n : ℕ) (row : Prices) (tree : SlotTree) → HasSlotRows job (row_then n row tree) → IsRowFor job row × HasSlotRows job tree
unfolding HasSlotRows
row_parts job n row tree has = (has.1, has.2)

split_parts : (job : Job) (i s : ℕ) (low high : SlotTree) → HasSlotRows job (slot_split i s low high) → HasSlotRows job low × HasSlotRows job high
unfolding HasSlotRows
split_parts job i s low high has = (has.2, has.3)

-- two trees whose texts begin the same text
pub same_slot_tree : (job : Job) (tree other : SlotTree) (after after' : Bytes) → HasSlotRows job tree → HasSlotRows job other
    → items_text tree ++ after ≡ items_text other ++ after' → (tree ≡ other) × (after ≡ after')
same_slot_tree job (row_then n row tree) (row_then m row' other) after after' has has' e =
    let first = heads job (row_then n row tree) (row_then m row' other) after after' has has' e in
    let head : Row n (all_prices row) ≡ Row m (all_prices row') = first.0 in
    let slot : n ≡ m = cc in
    let prices : all_prices row ≡ all_prices row' = cc in
    let p = row_parts job n row tree has in
    let p' = row_parts job m row' other has' in
    let rows = same_row job row row' p.0 p'.0 prices in
    let rest = same_slot_tree job tree other after after' p.1 p'.1 first.1 in
    (λ j. row_then (slot j) (rows j) (rest.0 j), rest.1)
same_slot_tree job (row_then n row tree) (slot_split i s low high) after after' has has' e =
    let first = (heads job (row_then n row tree) (slot_split i s low high) after after' has has' e).0 in absurd (cc)
same_slot_tree job (row_then n row tree) (slot_leaf leaf) after after' has has' e =
    absurd (no_row leaf n (all_prices row) (sym (heads job (row_then n row tree) (slot_leaf leaf) after after' has has' e).0))
same_slot_tree job (slot_split i s low high) (row_then m row' other) after after' has has' e =
    let first = (heads job (slot_split i s low high) (row_then m row' other) after after' has has' e).0 in absurd (cc)
same_slot_tree job (slot_split i s low high) (slot_split i' s' low' high') after after' has has' e =
    let first = heads job (slot_split i s low high) (slot_split i' s' low' high') after after' has has' e in
    let head : Split i s ≡ Split i' s' = first.0 in
    let supplier : i ≡ i' = cc in
    let segment : s ≡ s' = cc in
    let p = split_parts job i s low high has in
    let p' = split_parts job i' s' low' high' has' in
    let lows = same_slot_tree job low low' (items_text high ++ after) (items_text high' ++ after') p.0 p'.0 first.1 in
    let highs = same_slot_tree job high high' after after' p.1 p'.1 lows.1 in
    (λ j. slot_split (supplier j) (segment j) (lows.0 j) (highs.0 j), highs.1)
same_slot_tree job (slot_split i s low high) (slot_leaf leaf) after after' has has' e =
    absurd (no_split leaf i s (sym (heads job (slot_split i s low high) (slot_leaf leaf) after after' has has' e).0))
same_slot_tree job (slot_leaf leaf) (row_then m row' other) after after' has has' e =
    absurd (no_row leaf m (all_prices row') (heads job (slot_leaf leaf) (row_then m row' other) after after' has has' e).0)
same_slot_tree job (slot_leaf leaf) (slot_split i s low high) after after' has has' e =
    absurd (no_split leaf i s (heads job (slot_leaf leaf) (slot_split i s low high) after after' has has' e).0)
same_slot_tree job (slot_leaf leaf) (slot_leaf other) after after' has has' e =
    let first = heads job (slot_leaf leaf) (slot_leaf other) after after' has has' e in
    (ap (λ (l : SlotLeaf). slot_leaf l) (same_leaf leaf other first.0), first.1)

header2_small : Small Header2
header2_small = All-cons (λ z. unsigned_abs z < 10 ^ 64) (pos 2) [] (lit< tt) (All-nil (λ z. unsigned_abs z < 10 ^ 64))

slot_parts : (job : Job) (plan : Option Purchase) (tree : SlotTree) (after : Bytes)
    → slot_text job plan (items_of tree) ++ after ≡ ended Header2 ++ (lines_text (plan_lines job plan) ++ (items_text tree ++ after))
unfolding slot_text
slot_parts job plan tree after =
    first_text Header2 (plan_lines job plan ++ map item_line (items_of tree)) after
    ∙ ap (λ (t : Bytes). ended Header2 ++ t) (ap (λ (t : Bytes). t ++ after) (lines_append (plan_lines job plan) (map item_line (items_of tree))) ∙ append_assoc (lines_text (plan_lines job plan)) (items_text tree) after)

-- two texts of trees with slots that begin the same text
pub same_slot_texts : (job : Job) (plan other : Option Purchase) (tree tree' : SlotTree) (after after' : Bytes) → HasQuantities job plan → HasQuantities job other → HasSlotRows job tree → HasSlotRows job tree'
    → slot_text job plan (items_of tree) ++ after ≡ slot_text job other (items_of tree') ++ after' → AreSame job plan other × (tree ≡ tree') × (after ≡ after')
same_slot_texts job plan other tree tree' after after' within within' has has' e =
    let first = first_line Header2 Header2 (lines_text (plan_lines job plan) ++ (items_text tree ++ after)) (lines_text (plan_lines job other) ++ (items_text tree' ++ after')) header2_small header2_small
    (sym (slot_parts job plan tree after) ∙ (e ∙ slot_parts job other tree' after')) in
    let plans = same_plan job plan other (items_text tree ++ after) (items_text tree' ++ after') within within' first.1 in
    let trees = same_slot_tree job tree tree' after after' has has' plans.1 in
    (plans.0, trees.0, trees.1)

pub slot_texts_apart : (job : Job) (plan other : Option Purchase) (tree tree' : SlotTree) → HasQuantities job plan → HasQuantities job other → HasSlotRows job tree → HasSlotRows job tree'
    → slot_text job plan (items_of tree) ≡ slot_text job other (items_of tree') → AreSame job plan other × (tree ≡ tree')
slot_texts_apart job plan other tree tree' within within' has has' e =
    let same = same_slot_texts job plan other tree tree' [] [] within within' has has' (ap (λ (t : Bytes). t ++ []) e) in (same.0, same.1)

-- a text of each format
pub formats_apart : (job : Job) (plan other : Option Purchase) (tree : BoxTree) (tree' : SlotTree) (after after' : Bytes)
    → tree_text job plan (nodes_of tree) ++ after ≡ slot_text job other (items_of tree') ++ after' → ⊥
formats_apart job plan other tree tree' after after' e =
    let first = (first_line Header Header2 _ _ header_small header2_small (sym (parts_text job plan tree after) ∙ (e ∙ slot_parts job other tree' after'))).0 in cc

sound_short : (job : Job) (tree : SlotTree) → IsSound job tree → HasSlotRows job tree
sound_short job tree sound = sound_rows job (root_of job) no_rows tree (root_is job).of_job length-no_rows sound

-- no text of a tree begins another
pub none_begins : (job : Job) (text after : Bytes) → IsTreeText job text → IsTreeText job (text ++ after) → after ≡ []
none_begins job text after (with_rows plan tree within has e) (with_rows plan' tree' within' has' e') =
    (same_texts job plan plan' tree tree' after [] within within' has has' (ap (λ (t : Bytes). t ++ after) (sym e) ∙ (e' ∙ sym (append-nil (tree_text job plan' (nodes_of tree')))))).2
none_begins job text after (with_rows plan tree within has e) (with_slots plan' tree' within' sound e') =
    absurd (formats_apart job plan plan' tree tree' after [] (ap (λ (t : Bytes). t ++ after) (sym e) ∙ (e' ∙ sym (append-nil (slot_text job plan' (items_of tree'))))))
none_begins job text after (with_slots plan tree within sound e) (with_rows plan' tree' within' has' e') =
    absurd (formats_apart job plan' plan tree' tree [] after (append-nil (tree_text job plan' (nodes_of tree')) ∙ (sym e' ∙ ap (λ (t : Bytes). t ++ after) e)))
none_begins job text after (with_slots plan tree within sound e) (with_slots plan' tree' within' sound' e') =
    (same_slot_texts job plan plan' tree tree' after [] within within' (sound_short job tree sound) (sound_short job tree' sound')
    (ap (λ (t : Bytes). t ++ after) (sym e) ∙ (e' ∙ sym (append-nil (slot_text job plan' (items_of tree')))))).2
