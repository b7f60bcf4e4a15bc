-- Trees are told apart by their texts, and none of these begins another.
use Rattle.std.proofs.Common.{◌≡◌, ℕ, ◌^◌, ◌<◌, ℤ, pos, List, [], ◌∷◌, ◌++◌, map, length, Option, None, Some, refl, sym, ◌∙◌, ap, arith, append_assoc, append-nil, lit<}
use Rattle.std.proofs.lemmas.List.Elements.{All-nil, All-cons, All-append}
use Rattle.std.specs.List.{All}
use Rattle.std.specs.Prelude.{unsigned_abs}
use Rattle.tqd_base.specs.World.{Bytes}
use Rattle.tqd_instance.specs.declared.job.Job.{Job}
use Rattle.tqd_instance.specs.Purchase.{Purchase}
use Rattle.tqd_instance.specs.Cost.{cost}
use Rattle.bound_tree.specs.declared.leaf.Leaf.{Leaf}
use Rattle.bound_tree.specs.declared.leaf.Leaf.TheVariants.{Bound as BoundLeaf, Empty as EmptyLeaf, Winners as WinnersLeaf}
use Rattle.bound_tree.specs.declared.line.TreeLine.{TreeLine}
use Rattle.bound_tree.specs.declared.line.TreeLine.TheVariants.{Header, NoPlan, Plan, Split}
use Rattle.bound_tree.specs.Prices.{Prices}
use Rattle.bound_tree.specs.BoxTree.{BoxTree, at_leaf, at_split, nodes_of}
use Rattle.bound_tree.specs.LineText.{HasNumbersBelow}
use Rattle.bound_tree.specs.TreeText.{all_prices, leaf_line, node_line, plan_lines, buy_lines, ended, lines_text, tree_text}
use Rattle.bound_tree.specs.TextLaws.{HasQuantities, IsRowFor, IsLeafFor, HasRows, AreSame}
use Rattle.bound_tree.proofs.Texts.{map_append}
use Rattle.bound_tree.proofs.TreeLines.{lines_append, lines_first}
use Rattle.bound_tree.proofs.Unique.{first_line, same_lines}
use Rattle.bound_tree.proofs.PlanTexts.{two_small, small_buys, few_buys, cost_small, same_units}

abbrev pub Small : TreeLine → Type 0
Small = HasNumbersBelow (10 ^ 64)

pub row_small : (job : Job) (row : Prices) → IsRowFor job row → All (λ z. unsigned_abs z < 10 ^ 64) (all_prices row)
row_small job row is = All-append (λ z. unsigned_abs z < 10 ^ 64) row.goods row.places is.good_prices is.place_prices

leaf_small : (job : Job) (leaf : Leaf) → IsLeafFor job leaf → Small (leaf_line leaf)
leaf_small job (BoundLeaf row) is = row_small job row is
leaf_small job (EmptyLeaf row) is = row_small job row is
leaf_small job WinnersLeaf is = All-nil (λ z. unsigned_abs z < 10 ^ 64)

-- two lists that are joined from parts, the first parts being as long as each other
same_front : (xs ys vs ws : List ℤ) → length xs ≡ length ys → xs ++ vs ≡ ys ++ ws → (xs ≡ ys) × (vs ≡ ws)
same_front [] [] vs ws count e = (refl, e)
same_front [] (y ∷ ys) vs ws count e = absurd (omega arith)
same_front (x ∷ xs) [] vs ws count e = absurd (omega arith)
same_front (x ∷ xs) (y ∷ ys) vs ws count e =
    let same : x ≡ y = cc in
    let others : xs ++ vs ≡ ys ++ ws = cc in
    let rest = same_front xs ys vs ws (omega arith) others in
    (ap (λ (z : ℤ). z ∷ xs) same ∙ ap (λ (zs : List ℤ). y ∷ zs) rest.0, rest.1)

pub same_row : (job : Job) (row other : Prices) → IsRowFor job row → IsRowFor job other → all_prices row ≡ all_prices other → row ≡ other
same_row job row other is also e =
    let parts = same_front row.goods other.goods row.places other.places (is.goods ∙ sym also.goods) e in
    λ i. record { goods = parts.0 i; places = parts.1 i }

same_leaf : (job : Job) (leaf other : Leaf) → IsLeafFor job leaf → IsLeafFor job other → leaf_line leaf ≡ leaf_line other → leaf ≡ other
same_leaf job (BoundLeaf row) (BoundLeaf other) is also e = let prices : all_prices row ≡ all_prices other = cc in ap (λ (r : Prices). BoundLeaf r) (same_row job row other is also prices)
same_leaf job (BoundLeaf row) (EmptyLeaf other) is also e = absurd (cc)
same_leaf job (BoundLeaf row) WinnersLeaf is also e = absurd (cc)
same_leaf job (EmptyLeaf row) (BoundLeaf other) is also e = absurd (cc)
same_leaf job (EmptyLeaf row) (EmptyLeaf other) is also e = let prices : all_prices row ≡ all_prices other = cc in ap (λ (r : Prices). EmptyLeaf r) (same_row job row other is also prices)
same_leaf job (EmptyLeaf row) WinnersLeaf is also e = absurd (cc)
same_leaf job WinnersLeaf (BoundLeaf other) is also e = absurd (cc)
same_leaf job WinnersLeaf (EmptyLeaf other) is also e = absurd (cc)
same_leaf job WinnersLeaf WinnersLeaf is also e = refl

no_split : (leaf : Leaf) (i s : ℕ) → leaf_line leaf ≡ Split i s → ⊥
no_split (BoundLeaf row) i s e = cc
no_split (EmptyLeaf row) i s e = cc
no_split WinnersLeaf i s e = cc

-- the text of the nodes of a tree
abbrev nodes_text : BoxTree → Bytes
nodes_text tree = lines_text (map node_line (nodes_of tree))

leaf_text : (leaf : Leaf) (after : Bytes) → nodes_text (at_leaf leaf) ++ after ≡ ended (leaf_line leaf) ++ after
unfolding nodes_of lines_text
leaf_text leaf after = ap (λ (t : Bytes). t ++ after) (append-nil (ended (leaf_line leaf)))

split_text : (i s : ℕ) (low high : BoxTree) (after : Bytes) → nodes_text (at_split i s low high) ++ after ≡ ended (Split i s) ++ (nodes_text low ++ (nodes_text high ++ after))
unfolding nodes_of
split_text i s low high after =
    ap (λ (t : Bytes). t ++ after) (lines_first (Split i s) (map node_line (nodes_of low ++ nodes_of high))
    ∙ ap (λ (t : Bytes). ended (Split i s) ++ t) (ap lines_text (map_append node_line (nodes_of low) (nodes_of high)) ∙ lines_append (map node_line (nodes_of low)) (map node_line (nodes_of high))))
    ∙ (append_assoc (ended (Split i s)) (nodes_text low ++ nodes_text high) after ∙ ap (λ (t : Bytes). ended (Split i s) ++ t) (append_assoc (nodes_text low) (nodes_text high) after))

split_small : (job : Job) (i s : ℕ) (low high : BoxTree) → HasRows job (at_split i s low high) → Small (Split i s)
unfolding HasRows
split_small job i s low high has = two_small i s has.0 has.1

leaf_rows : (job : Job) (leaf : Leaf) → HasRows job (at_leaf leaf) → IsLeafFor job leaf
unfolding HasRows
leaf_rows job leaf has = has

low_rows : (job : Job) (i s : ℕ) (low high : BoxTree) → HasRows job (at_split i s low high) → HasRows job low
unfolding HasRows
low_rows job i s low high has = has.2

high_rows : (job : Job) (i s : ℕ) (low high : BoxTree) → HasRows job (at_split i s low high) → HasRows job high
unfolding HasRows
high_rows job i s low high has = has.3

split_apart : {P : Type 0} (job : Job) (leaf : Leaf) (i s : ℕ) (low high : BoxTree) (after after' : Bytes) → HasRows job (at_leaf leaf) → HasRows job (at_split i s low high)
    → nodes_text (at_leaf leaf) ++ after ≡ nodes_text (at_split i s low high) ++ after' → P
split_apart job leaf i s low high after after' has has' e =
    absurd (no_split leaf i s (first_line (leaf_line leaf) (Split i s) after (nodes_text low ++ (nodes_text high ++ after')) (leaf_small job leaf (leaf_rows job leaf has)) (split_small job i s low high has')
    (sym (leaf_text leaf after) ∙ (e ∙ split_text i s low high after'))).0)

-- two trees whose texts begin the same text
pub same_tree : (job : Job) (tree other : BoxTree) (after after' : Bytes) → HasRows job tree → HasRows job other
    → nodes_text tree ++ after ≡ nodes_text other ++ after' → (tree ≡ other) × (after ≡ after')
same_tree job (at_leaf leaf) (at_leaf other) after after' has has' e =
    let first = first_line (leaf_line leaf) (leaf_line other) after after' (leaf_small job leaf (leaf_rows job leaf has)) (leaf_small job other (leaf_rows job other has'))
    (sym (leaf_text leaf after) ∙ (e ∙ leaf_text other after')) in
    (ap (λ (l : Leaf). at_leaf l) (same_leaf job leaf other (leaf_rows job leaf has) (leaf_rows job other has') first.0), first.1)
same_tree job (at_leaf leaf) (at_split i s low high) after after' has has' e = split_apart job leaf i s low high after after' has has' e
same_tree job (at_split i s low high) (at_leaf leaf) after after' has has' e = split_apart job leaf i s low high after' after has' has (sym e)
same_tree job (at_split i s low high) (at_split i' s' low' high') after after' has has' e =
    let first = first_line (Split i s) (Split i' s') (nodes_text low ++ (nodes_text high ++ after)) (nodes_text low' ++ (nodes_text high' ++ after'))
    (split_small job i s low high has) (split_small job i' s' low' high' has') (sym (split_text i s low high after) ∙ (e ∙ split_text i' s' low' high' after')) in
    let lows = same_tree job low low' (nodes_text high ++ after) (nodes_text high' ++ after') (low_rows job i s low high has) (low_rows job i' s' low' high' has') first.1 in
    let highs = same_tree job high high' after after' (high_rows job i s low high has) (high_rows job i' s' low' high' has') lows.1 in
    let supplier : i ≡ i' = cc in
    let segment : s ≡ s' = cc in
    (λ j. at_split (supplier j) (segment j) (lows.0 j) (highs.0 j), highs.1)

plan_small : (job : Job) (x : Purchase) → HasQuantities job (Some x) → Small (Plan (cost job x) (length (buy_lines job x)))
plan_small job x within = two_small (cost job x) (length (buy_lines job x)) (cost_small job x within) (few_buys job x)

none_small : Small NoPlan
none_small = All-nil (λ z. unsigned_abs z < 10 ^ 64)

pub first_text : (line : TreeLine) (lines : List TreeLine) (after : Bytes) → lines_text (line ∷ lines) ++ after ≡ ended line ++ (lines_text lines ++ after)
first_text line lines after = ap (λ (t : Bytes). t ++ after) (lines_first line lines) ∙ append_assoc (ended line) (lines_text lines) after

firsts : (line line' : TreeLine) (lines lines' : List TreeLine) (after after' : Bytes) → Small line → Small line' → lines_text (line ∷ lines) ++ after ≡ lines_text (line' ∷ lines') ++ after'
    → (line ≡ line') × (lines_text lines ++ after ≡ lines_text lines' ++ after')
firsts line line' lines lines' after after' small small' e =
    first_line line line' (lines_text lines ++ after) (lines_text lines' ++ after') small small' (sym (first_text line lines after) ∙ (e ∙ first_text line' lines' after'))

pub same_plan : (job : Job) (plan other : Option Purchase) (after after' : Bytes) → HasQuantities job plan → HasQuantities job other
    → lines_text (plan_lines job plan) ++ after ≡ lines_text (plan_lines job other) ++ after' → AreSame job plan other × (after ≡ after')
unfolding lines_text
same_plan job None None after after' within within' e = (tt, (firsts NoPlan NoPlan [] [] after after' none_small none_small e).1)
same_plan job None (Some y) after after' within within' e =
    let differ = (firsts NoPlan (Plan (cost job y) (length (buy_lines job y))) [] (buy_lines job y) after after' none_small (plan_small job y within') e).0 in absurd (cc)
same_plan job (Some x) None after after' within within' e =
    let differ = (firsts (Plan (cost job x) (length (buy_lines job x))) NoPlan (buy_lines job x) [] after after' (plan_small job x within) none_small e).0 in absurd (cc)
same_plan job (Some x) (Some y) after after' within within' e =
    let first = firsts (Plan (cost job x) (length (buy_lines job x))) (Plan (cost job y) (length (buy_lines job y))) (buy_lines job x) (buy_lines job y) after after'
    (plan_small job x within) (plan_small job y within') e in
    let head = first.0 in
    let count : length (buy_lines job x) ≡ length (buy_lines job y) = cc in
    let rest = same_lines (buy_lines job x) (buy_lines job y) after after' count (small_buys job x within) (small_buys job y within') first.1 in
    (same_units job x y rest.0, rest.1)

pub header_small : Small Header
header_small = All-cons (λ z. unsigned_abs z < 10 ^ 64) (pos 1) [] (lit< tt) (All-nil (λ z. unsigned_abs z < 10 ^ 64))

pub parts_text : (job : Job) (plan : Option Purchase) (tree : BoxTree) (after : Bytes)
    → tree_text job plan (nodes_of tree) ++ after ≡ ended Header ++ (lines_text (plan_lines job plan) ++ (nodes_text tree ++ after))
unfolding tree_text
parts_text job plan tree after =
    first_text Header (plan_lines job plan ++ map node_line (nodes_of tree)) after
    ∙ ap (λ (t : Bytes). ended Header ++ t) (ap (λ (t : Bytes). t ++ after) (lines_append (plan_lines job plan) (map node_line (nodes_of tree))) ∙ append_assoc (lines_text (plan_lines job plan)) (nodes_text tree) after)

-- two texts of trees that begin the same text
pub same_texts : (job : Job) (plan other : Option Purchase) (tree tree' : BoxTree) (after after' : Bytes) → HasQuantities job plan → HasQuantities job other → HasRows job tree → HasRows job tree'
    → tree_text job plan (nodes_of tree) ++ after ≡ tree_text job other (nodes_of tree') ++ after' → AreSame job plan other × (tree ≡ tree') × (after ≡ after')
same_texts job plan other tree tree' after after' within within' has has' e =
    let first = first_line Header Header (lines_text (plan_lines job plan) ++ (nodes_text tree ++ after)) (lines_text (plan_lines job other) ++ (nodes_text tree' ++ after')) header_small header_small
    (sym (parts_text job plan tree after) ∙ (e ∙ parts_text job other tree' after')) in
    let plans = same_plan job plan other (nodes_text tree ++ after) (nodes_text tree' ++ after') within within' first.1 in
    let trees = same_tree job tree tree' after after' has has' plans.1 in
    (plans.0, trees.0, trees.1)

pub texts_differ : (job : Job) (plan other : Option Purchase) (tree tree' : BoxTree) → HasQuantities job plan → HasQuantities job other → HasRows job tree → HasRows job tree'
    → tree_text job plan (nodes_of tree) ≡ tree_text job other (nodes_of tree') → AreSame job plan other × (tree ≡ tree')
texts_differ job plan other tree tree' within within' has has' e =
    let same = same_texts job plan other tree tree' [] [] within within' has has' (ap (λ (t : Bytes). t ++ []) e) in (same.0, same.1)
