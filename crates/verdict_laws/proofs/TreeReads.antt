-- Reading the nodes of a tree that is valid for its box.
use Rattle.std.proofs.Common.{ℕ, ◌≡◌, ◌+◌, ◌<◌, ◌^◌, true, List, [], ◌∷◌, ◌++◌, map, length, Option, Some, refl, ap, ◌∙◌, arith, append_assoc, length-append, Ok}
use Rattle.std.specs.Prelude.{ℤ, pos, nat_le, nat_lt, unsigned_abs}
use Rattle.std.specs.List.{All}
use Rattle.std.proofs.lemmas.Bool.{lt-ltb, le-leb}
use Rattle.std.proofs.lemmas.List.Elements.{All-nil, All-cons}
use Rattle.tqd_base.specs.World.{Bytes}
use Rattle.tqd_instance.specs.declared.job.Job.{Job}
use Rattle.tqd_instance.specs.Job.{suppliers}
use Rattle.tqd_instance.proofs.Jobs.{job_in_range}
use Rattle.interval_box.specs.declared.boxes.IntervalBox.{IntervalBox}
use Rattle.interval_box.specs.Ranges.{low_of, high_of, IsBoxOf}
use Rattle.interval_box.specs.Halves.{IsProper, low_half, high_half}
use Rattle.interval_box.proofs.Split.{low_is_box, high_is_box, place}
use Rattle.bound_tree.specs.declared.line.TreeLine.TheVariants.{Split}
use Rattle.bound_tree.specs.BoxTree.{BoxTree, at_leaf, at_split, nodes_of, IsValid}
use Rattle.bound_tree.specs.LineText.{line_text}
use Rattle.bound_tree.specs.ReadLine.{read_line}
use Rattle.bound_tree.specs.TreeText.{node_line, ended, lines_text, leaf_line}
use Rattle.bound_tree.proofs.Texts.{map_append}
use Rattle.bound_tree.proofs.TreeLines.{lines_append, lines_first, one_piece}
use Rattle.bound_tree.proofs.LineLaws.{counts_are_read, leaf_is_read}
use Rattle.tree_checker.specs.Verdict.{RowStore, in_leaves, in_slots, reading, at_nodes, is_split, line_ended, after_line, after_bytes}
use Rattle.verdict_laws.proofs.OneLine.{line_step}
use Rattle.verdict_laws.proofs.LeafFaults.{leaf_goes, kills_fits}

-- the text of the nodes of a tree
unfoldable pub node_text : BoxTree → Bytes
node_text tree = lines_text (map node_line (nodes_of tree))

unfoldable pub count : BoxTree → ℕ
count tree = length (nodes_of tree)

-- reading a tree whose box is due, before other boxes
abbrev pub Reads : Job → Option ℕ → IntervalBox → BoxTree → Type 0
Reads job best area tree = (due : List IntervalBox) (n : ℕ) (after : Bytes)
    → after_bytes job (reading n [] (at_nodes in_leaves best (area ∷ due))) (node_text tree ++ after) ≡ after_bytes job (reading (n + count tree) [] (at_nodes in_leaves best due)) after

pub leaf_text : (leaf : _) → node_text (at_leaf leaf) ≡ ended (leaf_line leaf)
unfolding node_text nodes_of
leaf_text leaf = one_piece (leaf_line leaf)

pub split_text : (i s : ℕ) (low high : BoxTree) → node_text (at_split i s low high) ≡ ended (Split i s) ++ (node_text low ++ node_text high)
unfolding node_text nodes_of
split_text i s low high = lines_first (Split i s) (map node_line (nodes_of low ++ nodes_of high))
    ∙ ap (λ (t : Bytes). ended (Split i s) ++ t) (ap lines_text (map_append node_line (nodes_of low) (nodes_of high)) ∙ lines_append (map node_line (nodes_of low)) (map node_line (nodes_of high)))

leaf_count : (leaf : _) → count (at_leaf leaf) ≡ 1
unfolding count nodes_of
leaf_count leaf = refl

split_count : (i s : ℕ) (low high : BoxTree) → count (at_split i s low high) ≡ 1 + (count low + count high)
unfolding count nodes_of
split_count i s low high = omega (arith, length-append (nodes_of low) (nodes_of high))

-- a split has its supplier and its segment in range
pub split_fits : (job : Job) (area : IntervalBox) (i s : ℕ) → IsBoxOf job area → IsProper area i s → is_split job area i s ≡ true
split_fits job area i s b p =
    let supplier : nat_lt i (suppliers job) ≡ true = lt-ltb _ _ (place job area i s b p).supplier in
    let low : nat_le (low_of area i) s ≡ true = le-leb _ _ p.from_low in
    let high : nat_lt s (high_of area i) ≡ true = lt-ltb _ _ p.below_high in
    rw (supplier, low, high) refl

pub split_goes : (job : Job) (n : ℕ) (store : RowStore) (best : Option ℕ) (area : IntervalBox) (due : List IntervalBox) (i s : ℕ) → IsBoxOf job area → IsProper area i s
    → after_line job n (at_nodes store best (area ∷ due)) (Some (Split i s)) ≡ Ok (at_nodes store best (low_half area i s ∷ high_half area i s ∷ due))
unfolding after_line
split_goes job n in_leaves best area due i s b p = rw (split_fits job area i s b p) refl
split_goes job n (in_slots slots) best area due i s b p = rw (split_fits job area i s b p) refl

pub two_spelled : (a b : ℕ) → a < 10 ^ 23 → b < 10 ^ 23 → All (λ (z : ℤ). unsigned_abs z < 10 ^ 23) (pos a ∷ pos b ∷ [])
two_spelled a b h j = All-cons (λ (z : ℤ). unsigned_abs z < 10 ^ 23) (pos a) (pos b ∷ []) h (All-cons (λ (z : ℤ). unsigned_abs z < 10 ^ 23) (pos b) [] j (All-nil (λ (z : ℤ). unsigned_abs z < 10 ^ 23)))

pub split_is_read : (job : Job) (area : IntervalBox) (i s : ℕ) → IsBoxOf job area → IsProper area i s → read_line (line_text (Split i s)) ≡ Some (Split i s)
split_is_read job area i s b p =
    let at = place job area i s b p in
    let few = (job_in_range job).few_suppliers in
    let range = b.ranges i at.supplier in
    let segments = ((job_in_range job).each_supplier i at.supplier).few in
    let low : i < 10 ^ 23 = omega (arith, at.supplier) in
    let high : s < 10 ^ 23 = omega (arith, range.within, p.below_high) in
    counts_are_read (Split i s) (two_spelled i s low high) refl

pub tree_reads : (job : Job) (best : Option ℕ) (tree : BoxTree) (area : IntervalBox) → IsBoxOf job area → IsValid job best area tree → Reads job best area tree
unfolding IsValid
tree_reads job best (at_leaf leaf) area b valid due n after =
    ap (λ (t : Bytes). after_bytes job (reading n [] (at_nodes in_leaves best (area ∷ due))) (t ++ after)) (leaf_text leaf)
    ∙ (line_step job n (at_nodes in_leaves best (area ∷ due)) (leaf_line leaf) after refl (leaf_is_read job area leaf b (kills_fits job area best leaf valid))
    ∙ (ap (λ r. after_bytes job (line_ended (n + 1) r) after) (leaf_goes job (n + 1) best area due leaf valid)
    ∙ ap (λ (m : ℕ). after_bytes job (reading m [] (at_nodes in_leaves best due)) after) (let e = leaf_count leaf in let f : n + 1 ≡ n + count (at_leaf leaf) = omega arith in f)))
tree_reads job best (at_split i s low high) area b valid due n after =
    let lower = low_half area i s in
    let upper = high_half area i s in
    ap (λ (t : Bytes). after_bytes job (reading n [] (at_nodes in_leaves best (area ∷ due))) t)
    (ap (λ (t : Bytes). t ++ after) (split_text i s low high) ∙ (append_assoc (ended (Split i s)) (node_text low ++ node_text high) after ∙ ap (λ (t : Bytes). ended (Split i s) ++ t) (append_assoc (node_text low) (node_text high) after)))
    ∙ (line_step job n (at_nodes in_leaves best (area ∷ due)) (Split i s) (node_text low ++ (node_text high ++ after)) refl (split_is_read job area i s b (valid.0))
    ∙ (ap (λ r. after_bytes job (line_ended (n + 1) r) (node_text low ++ (node_text high ++ after))) (split_goes job (n + 1) in_leaves best area due i s b (valid.0))
    ∙ (tree_reads job best low lower (low_is_box job area i s b (valid.0)) (valid.1) (upper ∷ due) (n + 1) (node_text high ++ after)
    ∙ (tree_reads job best high upper (high_is_box job area i s b (valid.0)) (valid.2) due (n + 1 + count low) after
    ∙ ap (λ (m : ℕ). after_bytes job (reading m [] (at_nodes in_leaves best due)) after) (let e = split_count i s low high in let f : n + 1 + count low + count high ≡ n + count (at_split i s low high) = omega arith in f)))))
