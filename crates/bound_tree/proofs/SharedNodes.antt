-- The items of a tree, node by node in preorder, where the boxes whose trees are due are kept, the next one first.
use Rattle.std.proofs.Common.{ℕ, zero, suc, ◌≡◌, ◌+◌, ◌<◌, ◌≤◌, ◌++◌, List, [], ◌∷◌, map, drop, length, reverse, Option, None, Some, refl, sym, ◌∙◌, ap, subst, arith, append-nil, append_assoc, length-drop}
use Rattle.std.proofs.lemmas.List.{reverse-append, length-reverse}
use Rattle.std.specs.List.{slice_get}
use Rattle.std.specs.Option.{option_to_list}
use Rattle.tqd_base.specs.World.{Bytes}
use Rattle.tqd_instance.specs.declared.job.Job.{Job}
use Rattle.tqd_instance.proofs.Jobs.{job_in_range}
use Rattle.interval_box.specs.declared.boxes.IntervalBox.{IntervalBox}
use Rattle.interval_box.specs.Ranges.{IsBoxOf}
use Rattle.interval_box.specs.Halves.{low_half, high_half}
use Rattle.interval_box.proofs.Split.{low_is_box, high_is_box}
use Rattle.bound_tree.specs.declared.leaf.Leaf.TheVariants.{Bound, Empty, Winners}
use Rattle.bound_tree.specs.declared.leaf.TreeNode.{TreeNode}
use Rattle.bound_tree.specs.declared.leaf.TreeNode.TheVariants.{Split as SplitNode, Leaf as LeafNode}
use Rattle.bound_tree.specs.declared.slots.SlotTable.{SlotTable}
use Rattle.bound_tree.specs.Prices.{Prices}
use Rattle.bound_tree.specs.Root.{root_of}
use Rattle.bound_tree.specs.OtherBox.{widened}
use Rattle.bound_tree.specs.BoxTree.{BoxTree, at_leaf, at_split, nodes_of}
use Rattle.bound_tree.specs.TreeText.{lines_text}
use Rattle.bound_tree.specs.SlotTree.{Item, split_item, items_of}
use Rattle.bound_tree.specs.SlotText.{item_line}
use Rattle.bound_tree.specs.Shared.{Given, none_given, with_next, slot_with, given_or_next, given_after, shared_in, shared, IsTreeOf}
use Rattle.bound_tree.specs.SlotTable.{given_of, IsSplitOf, NodeFits, items_at, given_at, boxes_at}
use Rattle.bound_tree.proofs.Roots.{root_is}
use Rattle.bound_tree.proofs.SlotTrees.{proper_small}
use Rattle.bound_tree.proofs.Texts.{map_append}
use Rattle.bound_tree.proofs.TreeLines.{lines_append}

-- the boxes that are due after a node of a box
abbrev pub due_after : IntervalBox → TreeNode → List IntervalBox → List IntervalBox
due_after area (SplitNode i s) due = low_half area i s ∷ high_half area i s ∷ due
due_after area (LeafNode leaf) due = due

-- nodes are the trees of the boxes that are due
unfoldable pub FitsNodes : Job → List IntervalBox → List TreeNode → Type 0
FitsNodes job [] [] = Unit {0}
FitsNodes job [] (node ∷ nodes) = ⊥
FitsNodes job (area ∷ due) [] = ⊥
FitsNodes job (area ∷ due) (node ∷ nodes) = IsBoxOf job area × NodeFits job area node × FitsNodes job (due_after area node due) nodes

-- their items
unfoldable pub node_items : Job → List IntervalBox → Given → List TreeNode → List Item
node_items job [] given nodes = []
node_items job (area ∷ due) given [] = []
node_items job (area ∷ due) given (node ∷ nodes) = items_at job area given node ++ node_items job (due_after area node due) (given_at job area given node) nodes

pub fits_nodes : (job : Job) (area : IntervalBox) (due : List IntervalBox) (tree : BoxTree) (rest : List TreeNode) → IsBoxOf job area → IsTreeOf job area tree → FitsNodes job due rest
    → FitsNodes job (area ∷ due) (nodes_of tree ++ rest)
unfolding FitsNodes IsTreeOf nodes_of
fits_nodes job area due (at_leaf leaf) rest b fits others = (b, fits, others)
fits_nodes job area due (at_split i s low high) rest b fits others =
    let above = fits_nodes job (high_half area i s) due high rest (high_is_box job area i s b fits.0) fits.2 others in
    let below = fits_nodes job (low_half area i s) (high_half area i s ∷ due) low (nodes_of high ++ rest) (low_is_box job area i s b fits.0) fits.1 above in
    (b, fits.0, subst (FitsNodes job (low_half area i s ∷ high_half area i s ∷ due)) (sym (append_assoc (nodes_of low) (nodes_of high) rest)) below)

pub items_nodes : (job : Job) (area : IntervalBox) (due : List IntervalBox) (given : Given) (tree : BoxTree) (rest : List TreeNode)
    → node_items job (area ∷ due) given (nodes_of tree ++ rest) ≡ items_of (shared_in job area given tree) ++ node_items job due (given_after job area given tree) rest
unfolding node_items nodes_of items_of shared_in given_after
items_nodes job area due given (at_leaf leaf) rest = refl
items_nodes job area due given (at_split i s low high) rest =
    let below = low_half area i s in
    let above = high_half area i s in
    let middle = given_after job below given low in
    ap (λ (items : List Item). split_item i s ∷ items)
    (ap (node_items job (below ∷ above ∷ due) given) (append_assoc (nodes_of low) (nodes_of high) rest)
    ∙ (items_nodes job below (above ∷ due) given low (nodes_of high ++ rest)
    ∙ (ap (λ (items : List Item). items_of (shared_in job below given low) ++ items) (items_nodes job above due middle high rest)
    ∙ sym (append_assoc (items_of (shared_in job below given low)) (items_of (shared_in job above middle high)) (node_items job due (given_after job above middle high) rest)))))

-- the items of a tree of the root
no_items : (job : Job) (given : Given) → node_items job [] given [] ≡ []
unfolding node_items
no_items job given = refl

pub root_items : (job : Job) (tree : BoxTree) → node_items job (root_of job ∷ []) none_given (nodes_of tree) ≡ items_of (shared job tree)
root_items job tree =
    ap (node_items job (root_of job ∷ []) none_given) (sym (append-nil (nodes_of tree)))
    ∙ (items_nodes job (root_of job) [] none_given tree [] ∙ (ap (λ (items : List Item). items_of (shared job tree) ++ items) (no_items job (given_after job (root_of job) none_given tree)) ∙ append-nil (items_of (shared job tree))))

pub root_fits : (job : Job) (tree : BoxTree) → IsTreeOf job (root_of job) tree → FitsNodes job (root_of job ∷ []) (nodes_of tree)
unfolding FitsNodes
root_fits job tree fits =
    subst (FitsNodes job (root_of job ∷ [])) (append-nil (nodes_of tree)) (fits_nodes job (root_of job) [] tree [] (root_is job).of_job fits tt)

given_few : (given : Given) (row : Prices) (o : Option ℕ) → (given_or_next given row o).count ≤ given.count + 1
unfolding with_next
given_few given row (Some n) = omega arith
given_few given row None = omega arith

-- at most one row is put into a slot for a node
pub given_at-few : (job : Job) (area : IntervalBox) (given : Given) (node : TreeNode) → (given_at job area given node).count ≤ given.count + 1
given_at-few job area given (SplitNode i s) = omega arith
given_at-few job area given (LeafNode (Bound row)) = given_few given (widened job area row) (slot_with job area given.slots row)
given_at-few job area given (LeafNode (Empty row)) = given_few given (widened job area row) (slot_with job area given.slots row)
given_at-few job area given (LeafNode Winners) = omega arith

pub none_count : none_given.count ≡ 0
unfolding none_given
none_count = refl

pub given_count : (job : Job) (table : SlotTable) → (given_of job table).count ≡ table.count
unfolding given_of
given_count job table = refl

pub split_in : (job : Job) (area : IntervalBox) (node : TreeNode) → IsBoxOf job area → NodeFits job area node → IsSplitOf area node
split_in job area (SplitNode i s) b fits = let small = proper_small job area i s b fits in (omega (arith, small.0, (job_in_range job).few_suppliers), fits)
split_in job area (LeafNode leaf) b fits = tt

-- the text of the items of nodes
abbrev pub nodes_text : Job → List IntervalBox → Given → List TreeNode → Bytes
nodes_text job due given nodes = lines_text (map item_line (node_items job due given nodes))

pub nodes_text-more : (job : Job) (area : IntervalBox) (due : List IntervalBox) (given : Given) (node : TreeNode) (nodes : List TreeNode)
    → nodes_text job (area ∷ due) given (node ∷ nodes) ≡ lines_text (map item_line (items_at job area given node)) ++ nodes_text job (due_after area node due) (given_at job area given node) nodes
unfolding node_items
nodes_text-more job area due given node nodes =
    let later = node_items job (due_after area node due) (given_at job area given node) nodes in
    ap lines_text (map_append item_line (items_at job area given node) later) ∙ lines_append (map item_line (items_at job area given node)) (map item_line later)

-- the box that is taken off
pub popped : (due front : List IntervalBox) (o : Option IntervalBox) (area : IntervalBox) → due ≡ front ++ option_to_list o → o ≡ Some area → reverse due ≡ area ∷ reverse front
popped due front o area e is = ap reverse (e ∙ ap (λ (b : Option IntervalBox). front ++ option_to_list b) is) ∙ reverse-append front (area ∷ [])

-- the halves that are put on
pub pushed : (area : IntervalBox) (node : TreeNode) (front due : List IntervalBox) → due ≡ front ++ boxes_at area node → reverse due ≡ due_after area node (reverse front)
pushed area (SplitNode i s) front due e = ap reverse e ∙ reverse-append front (high_half area i s ∷ low_half area i s ∷ [])
pushed area (LeafNode leaf) front due e = ap reverse (e ∙ append-nil front)

pub drop_at : (nodes : List TreeNode) (at : ℕ) (node : TreeNode) → slice_get nodes at ≡ Some node → drop at nodes ≡ node ∷ drop (at + 1) nodes
drop_at [] at node e = absurd (cc)
drop_at (first ∷ nodes) zero node e = let same : first ≡ node = cc in ap (λ (n : TreeNode). n ∷ nodes) same
drop_at (first ∷ nodes) (suc at) node e =
    let past : suc (at + 1) ≡ suc at + 1 = omega arith in
    drop_at nodes at node e ∙ ap (λ (k : ℕ). node ∷ drop k (first ∷ nodes)) past

drop_some : (nodes : List TreeNode) (at : ℕ) → at < length nodes → 0 < length (drop at nodes)
drop_some nodes at below = omega (arith, length-drop at nodes)

some_due : (job : Job) (due : List IntervalBox) (nodes : List TreeNode) → 0 < length nodes → FitsNodes job due nodes → 0 < length due
unfolding FitsNodes
some_due job [] [] some fits = absurd (omega arith)
some_due job [] (node ∷ nodes) some fits = absurd fits
some_due job (area ∷ due) nodes some fits = omega arith

-- where a node is left, a box is due
pub is_due : (job : Job) (due : List IntervalBox) (nodes : List TreeNode) (at : ℕ) → at < length nodes → FitsNodes job (reverse due) (drop at nodes) → 0 < length due
is_due job due nodes at below fits = let some = some_due job (reverse due) (drop at nodes) (drop_some nodes at below) fits in omega (arith, length-reverse due)

pub record IsNext (job : Job) (area : IntervalBox) (below : List IntervalBox) (node : TreeNode) (nodes : List TreeNode) : Type 0 where
  pub of_job : IsBoxOf job area
  pub fits : NodeFits job area node
  pub others : FitsNodes job (due_after area node below) nodes

next_of : (job : Job) (area : IntervalBox) (below : List IntervalBox) (node : TreeNode) (nodes : List TreeNode) → FitsNodes job (area ∷ below) (node ∷ nodes) → IsNext job area below node nodes
unfolding FitsNodes
next_of job area below node nodes fits = record { of_job = fits.0; fits = fits.1; others = fits.2 }

pub next_is : (job : Job) (area : IntervalBox) (due below : List IntervalBox) (node : TreeNode) (left nodes : List TreeNode) → FitsNodes job due left → due ≡ area ∷ below → left ≡ node ∷ nodes
    → IsNext job area below node nodes
next_is job area due below node left nodes fits d n =
    next_of job area below node nodes (subst (λ (ns : List TreeNode). FitsNodes job (area ∷ below) ns) n (subst (λ (ds : List IntervalBox). FitsNodes job ds left) d fits))

pub text_is : (job : Job) (area : IntervalBox) (due below : List IntervalBox) (given : Given) (node : TreeNode) (left nodes : List TreeNode) → due ≡ area ∷ below → left ≡ node ∷ nodes
    → nodes_text job due given left ≡ lines_text (map item_line (items_at job area given node)) ++ nodes_text job (due_after area node below) (given_at job area given node) nodes
text_is job area due below given node left nodes d n =
    ap (λ (ds : List IntervalBox). nodes_text job ds given left) d ∙ (ap (nodes_text job (area ∷ below) given) n ∙ nodes_text-more job area below given node nodes)

-- the text of a whole tree
pub whole_text : (job : Job) (nodes : List TreeNode) (whole : BoxTree) → nodes ≡ nodes_of whole → nodes_text job (root_of job ∷ []) none_given nodes ≡ lines_text (map item_line (items_of (shared job whole)))
whole_text job nodes whole e = ap (nodes_text job (root_of job ∷ []) none_given) e ∙ ap (λ (items : List Item). lines_text (map item_line items)) (root_items job whole)

no_text : (job : Job) (given : Given) (nodes : List TreeNode) → nodes_text job [] given nodes ≡ []
unfolding node_items lines_text
no_text job given nodes = refl

none_due : (job : Job) (due : List IntervalBox) (nodes : List TreeNode) → length nodes ≡ 0 → FitsNodes job due nodes → due ≡ []
unfolding FitsNodes
none_due job [] nodes none fits = refl
none_due job (area ∷ due) [] none fits = absurd fits
none_due job (area ∷ due) (node ∷ nodes) none fits = absurd (omega arith)

-- where no node is left, no text is
pub ended_text : (job : Job) (due : List IntervalBox) (given : Given) (nodes : List TreeNode) (at : ℕ) → length nodes ≤ at → FitsNodes job due (drop at nodes) → nodes_text job due given (drop at nodes) ≡ []
ended_text job due given nodes at past fits =
    let none : length (drop at nodes) ≡ 0 = omega (arith, length-drop at nodes) in
    ap (λ (ds : List IntervalBox). nodes_text job ds given (drop at nodes)) (none_due job due (drop at nodes) none fits) ∙ no_text job given (drop at nodes)

-- what a node that is next is to the text and to the boxes
pub record IsStep (job : Job) (area : IntervalBox) (below : List IntervalBox) (given : Given) (node : TreeNode) (nodes : List TreeNode) (total written : Bytes) : Type 0 where
  pub next : IsNext job area below node nodes
  pub text : total ≡ written ++ (lines_text (map item_line (items_at job area given node)) ++ nodes_text job (due_after area node below) (given_at job area given node) nodes)

pub step_at : (job : Job) (due front : List IntervalBox) (o : Option IntervalBox) (area : IntervalBox) (given : Given) (node : TreeNode) (nodes : List TreeNode) (at : ℕ) (total written : Bytes)
    → FitsNodes job (reverse due) (drop at nodes) → due ≡ front ++ option_to_list o → o ≡ Some area → slice_get nodes at ≡ Some node
    → total ≡ written ++ nodes_text job (reverse due) given (drop at nodes) → IsStep job area (reverse front) given node (drop (at + 1) nodes) total written
step_at job due front o area given node nodes at total written fits d is n t =
    let taken = popped due front o area d is in
    let left = drop_at nodes at node n in
    record {
      next = next_is job area (reverse due) (reverse front) node (drop at nodes) (drop (at + 1) nodes) fits taken left;
      text = t ∙ ap (λ (s : Bytes). written ++ s) (text_is job area (reverse due) (reverse front) given node (drop at nodes) (drop (at + 1) nodes) taken left);
    }
