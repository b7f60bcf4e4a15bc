-- The tree of a covered state in which no node is Open or Taken, and the reading of it in preorder.
use Rattle.std.proofs.Common.{ℕ, zero, suc, ◌≡◌, ◌≢◌, ◌+◌, ◌*◌, ◌<◌, ◌≤◌, cond, set, List, [], ◌∷◌, ◌++◌, append_assoc, length, length-append, count_by, sum_by, Option, sym, ap, refl, subst, ◌∙◌, inl, inr, arith}
use Rattle.std.specs.Prelude.{◌==◌, if◌then◌else◌}
use Rattle.std.proofs.lemmas.Bool.{cases_eq, cases_lt, eq-eqb, ne_eqb}
use Rattle.std.proofs.lemmas.List.{append-nil}
use Rattle.std.proofs.lemmas.List.Sums.{get_or-le-sum_by, sum_by-append, sum_by-cons}
use Rattle.tqd_instance.specs.declared.job.Job.{Job}
use Rattle.interval_box.specs.declared.boxes.IntervalBox.{IntervalBox}
use Rattle.interval_box.specs.Ranges.{IsBoxOf}
use Rattle.interval_box.specs.Halves.{low_half, high_half}
use Rattle.interval_box.specs.Size.{size}
use Rattle.interval_box.proofs.Split.{low_is_box, high_is_box, sizes_add, size_some}
use Rattle.bound_tree.specs.declared.leaf.TreeNode.{TreeNode}
use Rattle.bound_tree.specs.declared.leaf.TreeNode.TheVariants.{Split as SplitNode}
use Rattle.bound_tree.specs.BoxTree.{BoxTree, at_leaf, at_split, nodes_of, IsValid}
use Rattle.search_book.specs.declared.node.Node.{Node}
use Rattle.search_book.specs.declared.node.Phase.{Phase}
use Rattle.search_book.specs.declared.node.Phase.TheVariants.{Open, Taken, Split, Closed}
use Rattle.search_book.specs.Nodes.{node_at, area_of, phase_of, HasPhase, with_phase, IsWaiting}
use Rattle.search_book.specs.BookState.{BookState, best_cost}
use Rattle.search_book.specs.Counts.{names, naming_count, is_split}
use Rattle.search_book.specs.Covered.{PhaseHolds, IsCovered}
use Rattle.search_book.specs.TreeOf.{IsTreeAt, IsTreeFor}
use Rattle.search_book.specs.Preorder.{IsNamedOnce, own_nodes, next_nodes}
use Rattle.search_book.specs.Answers.{IsSettled}
use Rattle.search_book.proofs.Marks.{marked_length, marked_other, marked_sum}
use Rattle.search_book.proofs.Covers.{none_named, sum_of_zeros}

-- what holds of a node of a covered state, by what became of it
holds_of : (s : BookState) (n : ℕ) (p : Phase) → IsCovered s → HasPhase s.nodes n p → PhaseHolds s n p
holds_of s n p c at = subst (PhaseHolds s n) at.is (c.phases n at.known)

-- each tree that is read from a node is valid for its box
pub read_valid : (s : BookState) (n : ℕ) (tree : BoxTree) → IsCovered s → IsTreeAt s.nodes n tree → IsValid s.job (best_cost s) (area_of s.nodes n) tree
unfolding IsTreeAt IsValid
read_valid s n (at_leaf leaf) c read = holds_of s n (Closed leaf) c read
read_valid s n (at_split i at low high) c read =
    let h = holds_of s n (Split read.0 read.1 i at) c read.2 in (
      h.proper,
      subst (λ (a : IntervalBox). IsValid s.job (best_cost s) a low) h.low_area (read_valid s read.0 low c read.3),
      subst (λ (a : IntervalBox). IsValid s.job (best_cost s) a high) h.high_area (read_valid s read.1 high c read.4),
    )

-- a tree is read from a node where one is read from each later node
tree_here : (s : BookState) (n : ℕ) (p : Phase) → IsSettled s → HasPhase s.nodes n p → PhaseHolds s n p
    → ((k : ℕ) → n < k → k < length s.nodes → (tree : BoxTree) × IsTreeAt s.nodes k tree) → (tree : BoxTree) × IsTreeAt s.nodes n tree
unfolding IsTreeAt
tree_here s n Open settled at h next = absurd (settled n at.known (subst IsWaiting (sym at.is) tt))
tree_here s n Taken settled at h next = absurd (settled n at.known (subst IsWaiting (sym at.is) tt))
tree_here s n (Split a b i cut) settled at h next =
    let low = next a h.low_later h.low_known in
    let high = next b h.high_later h.high_known in
    (at_split i cut low.0 high.0, (a, b, at, low.1, high.1))
tree_here s n (Closed leaf) settled at h next = (at_leaf leaf, at)

tree_from : (s : BookState) (left n : ℕ) → IsCovered s → IsSettled s → length s.nodes ≤ n + left → n < length s.nodes → (tree : BoxTree) × IsTreeAt s.nodes n tree
tree_from s zero n c settled all known = absurd (omega arith)
tree_from s (suc left) n c settled all known =
    tree_here s n (phase_of s.nodes n) settled (record { known = known; is = refl }) (c.phases n known) (λ k later there. tree_from s left k c settled (omega arith) there)

pub tree_exists : (s : BookState) → IsCovered s → IsSettled s → (tree : BoxTree) × IsTreeAt s.nodes 0 tree
tree_exists s c settled = tree_from s (length s.nodes) 0 c settled (omega arith) c.some

-- a valid tree of a box has at most twice the size of the box nodes, less 1
pub valid_small : (job : Job) (best : Option ℕ) (area : IntervalBox) (tree : BoxTree) → IsBoxOf job area → IsValid job best area tree → length (nodes_of tree) + 1 ≤ 2 * size job area
unfolding IsValid nodes_of
valid_small job best area (at_leaf leaf) box valid = omega (arith, size_some job area box)
valid_small job best area (at_split i at low high) box valid =
    let few_low = valid_small job best (low_half area i at) low (low_is_box job area i at box valid.0) valid.1 in
    let few_high = valid_small job best (high_half area i at) high (high_is_box job area i at box valid.0) valid.2 in
    omega (arith, sizes_add job area i at box valid.0, length-append (nodes_of low) (nodes_of high))

-- no node of a covered state is named twice, and the first one not at all
not_first : (s : BookState) (k : ℕ) (p : Phase) → PhaseHolds s k p → names 0 p ≡ 0
not_first s k Open h = refl
not_first s k Taken h = refl
not_first s k (Split low high i at) h =
    let a : low ≡ 0 → ⊥ = λ e. omega (arith, h.low_later) in
    let b : high ≡ 0 → ⊥ = λ e. omega (arith, h.high_later) in
    rw (ne_eqb low 0 a, ne_eqb high 0 b)
not_first s k (Closed leaf) h = refl

pub named_once : (s : BookState) → IsCovered s → IsNamedOnce s.nodes
unfolding naming_count
named_once s c n = elim (cases_eq 0 n) [
  | inl first ↦ (let none = sum_of_zeros (λ (x : Node). names 0 x.phase) (node_at [] 0) s.nodes (λ k below. not_first s k (phase_of s.nodes k) (c.phases k below)) in rw (← first) (omega arith))
  | inr later ↦ rw (ne_eqb 0 n later) (elim (cases_lt n (length s.nodes)) [
    | inl known ↦ omega (arith, c.named n (omega arith) known)
    | inr past ↦ omega (arith, none_named s n c past)
  ])
]

-- how often a number stands on the stack
pub times : ℕ → List ℕ → ℕ
times m ks = sum_by (λ k. if k == m then 1 else 0) ks

-- the nodes that are read from the nodes on the stack, that on top first; it is the last of the list
pub Reads : List Node → List ℕ → List TreeNode → Type 0
Reads nodes [] rest = rest ≡ []
Reads nodes (k ∷ ks) rest = (tree : BoxTree) × (others : List TreeNode) × IsTreeAt nodes k tree × Reads nodes ks others × (rest ≡ others ++ nodes_of tree)

-- what is on top of the stack is read first
pub reads_top : (nodes : List Node) (ks : List ℕ) (n : ℕ) (rest : List TreeNode) → Reads nodes (ks ++ n ∷ []) rest
    → (tree : BoxTree) × (others : List TreeNode) × IsTreeAt nodes n tree × Reads nodes ks others × (rest ≡ nodes_of tree ++ others)
unfolding Reads
reads_top nodes [] n rest h = (h.0, [], h.2, refl, h.4 ∙ (ap (λ xs. xs ++ nodes_of h.0) h.3 ∙ sym (append-nil (nodes_of h.0))))
reads_top nodes (k ∷ ks) n rest h =
    let top = reads_top nodes ks n h.1 h.3 in
    (top.0, top.1 ++ nodes_of h.0, top.2, (h.0, top.1, h.2, top.3, refl), h.4 ∙ (ap (λ xs. xs ++ nodes_of h.0) top.4 ∙ append_assoc (nodes_of top.0) top.1 (nodes_of h.0)))

pub reads_pushed : (nodes : List Node) (ks : List ℕ) (n : ℕ) (tree : BoxTree) (others : List TreeNode) → IsTreeAt nodes n tree → Reads nodes ks others → Reads nodes (ks ++ n ∷ []) (nodes_of tree ++ others)
unfolding Reads
reads_pushed nodes [] n tree others read h = (tree, [], read, refl, ap (λ xs. nodes_of tree ++ xs) h ∙ append-nil (nodes_of tree))
reads_pushed nodes (k ∷ ks) n tree others read h =
    (h.0, nodes_of tree ++ h.1, h.2, reads_pushed nodes ks n tree h.1 read h.3, ap (λ xs. nodes_of tree ++ xs) h.4 ∙ sym (append_assoc (nodes_of tree) h.1 (nodes_of h.0)))

-- a node that none names is in the tree of no other node
names_at : (nodes : List Node) (k n : ℕ) (p : Phase) → HasPhase nodes k p → naming_count nodes n ≡ 0 → names n p ≡ 0
unfolding naming_count
names_at nodes k n p at none =
    let here = get_or-le-sum_by (λ (x : Node). names n x.phase) nodes k (node_at [] 0) at.known in
    let e = ap (names n) at.is in
    omega arith

-- 1 where two numbers are the same, else 0
abbrev same : ℕ → ℕ → ℕ
same a n = if a == n then 1 else 0

not_named : (a n : ℕ) → same a n ≡ 0 → a ≢ n
not_named a n none e = (let one : same a n ≡ 1 = rw (eq-eqb a n e) refl in omega arith)

still_at : (nodes : List Node) (n k : ℕ) (p q : Phase) → k ≢ n → HasPhase nodes k p → HasPhase (with_phase nodes n q) k p
still_at nodes n k p q other at = record { known = omega (arith, marked_length nodes n q, at.known); is = marked_other nodes n q k other ∙ at.is }

-- a tree is read still once another node is blank that none names
pub still_read : (nodes : List Node) (n k : ℕ) (tree : BoxTree) → naming_count nodes n ≡ 0 → k ≢ n → IsTreeAt nodes k tree → IsTreeAt (with_phase nodes n Taken) k tree
unfolding IsTreeAt
still_read nodes n k (at_leaf leaf) none other read = still_at nodes n k (Closed leaf) Taken other read
still_read nodes n k (at_split i at low high) none other read =
    let zero_names = names_at nodes k n (Split read.0 read.1 i at) read.2 none in
    let first : same read.0 n ≡ 0 = omega arith in
    let second : same read.1 n ≡ 0 = omega arith in (
      read.0,
      read.1,
      still_at nodes n k (Split read.0 read.1 i at) Taken other read.2,
      still_read nodes n read.0 low none (not_named read.0 n first) read.3,
      still_read nodes n read.1 high none (not_named read.1 n second) read.4,
    )

pub still_reads : (nodes : List Node) (n : ℕ) (ks : List ℕ) (rest : List TreeNode) → naming_count nodes n ≡ 0 → times n ks ≡ 0 → Reads nodes ks rest → Reads (with_phase nodes n Taken) ks rest
unfolding Reads times
still_reads nodes n [] rest none absent h = h
still_reads nodes n (k ∷ ks) rest none absent h =
    let sum = sum_by-cons (λ m. if m == n then 1 else 0) k ks in
    let first : same k n ≡ 0 = omega arith in
    (h.0, h.1, still_read nodes n k h.0 none (not_named k n first) h.2, still_reads nodes n ks h.1 none (omega arith) h.3, h.4)

-- a node is read: what is its own comes first, and then what is read from the nodes that it puts on the stack
pub read_on : (nodes : List Node) (n : ℕ) (ks : List ℕ) (rest : List TreeNode) (tree : BoxTree) → IsTreeAt nodes n tree → naming_count nodes n ≡ 0 → Reads (with_phase nodes n Taken) ks rest
    → (others : List TreeNode) × Reads (with_phase nodes n Taken) (ks ++ next_nodes (phase_of nodes n)) others × (nodes_of tree ++ rest ≡ own_nodes (phase_of nodes n) ++ others)
unfolding IsTreeAt nodes_of
read_on nodes n ks rest (at_leaf leaf) read none h =
    rw read.is (rest, subst (λ js. Reads (with_phase nodes n Taken) js rest) (sym (append-nil ks)) h, refl)
read_on nodes n ks rest (at_split i at low high) read none h =
    let zero_names = names_at nodes n n (Split read.0 read.1 i at) read.2 none in
    let first : same read.0 n ≡ 0 = omega arith in
    let second : same read.1 n ≡ 0 = omega arith in
    let a = still_read nodes n read.0 low none (not_named read.0 n first) read.3 in
    let b = still_read nodes n read.1 high none (not_named read.1 n second) read.4 in
    let once = reads_pushed (with_phase nodes n Taken) ks read.1 high rest b h in
    let twice = reads_pushed (with_phase nodes n Taken) (ks ++ read.1 ∷ []) read.0 low (nodes_of high ++ rest) a once in
    rw read.2.is (
      nodes_of low ++ (nodes_of high ++ rest),
      subst (λ js. Reads (with_phase nodes n Taken) js (nodes_of low ++ (nodes_of high ++ rest))) (append_assoc ks (read.1 ∷ []) (read.0 ∷ [])) twice,
      ap (λ xs. SplitNode i at ∷ xs) (append_assoc (nodes_of low) (nodes_of high) rest),
    )

-- so far these nodes are read, and those of the nodes on the stack are to be read still: together they are those of a tree
-- that is read from the nodes as they were
pub record IsRead (begun nodes : List Node) (done : List TreeNode) (todo : List ℕ) : Type 0 where
  pub tree : BoxTree
  pub read : IsTreeAt begun 0 tree
  pub rest : List TreeNode
  pub reads : Reads nodes todo rest
  pub all : nodes_of tree ≡ done ++ rest
  pub once : (m : ℕ) → naming_count nodes m + times m todo ≤ 1

pub read_begins : (nodes : List Node) (tree : BoxTree) → IsTreeAt nodes 0 tree → IsNamedOnce nodes → IsRead nodes nodes [] (0 ∷ [])
unfolding Reads times
read_begins nodes tree read once = record {
  tree = tree;
  read = read;
  rest = nodes_of tree;
  reads = (tree, [], read, refl, refl);
  all = refl;
  once = λ m. omega (arith, once m, sum_by-cons (λ k. if k == m then 1 else 0) 0 []);
}

times_next : (m : ℕ) (p : Phase) → times m (next_nodes p) ≡ names m p
unfolding times
times_next m Open = refl
times_next m Taken = refl
times_next m (Split low high i at) = omega (arith, sum_by-cons (λ k. if k == m then 1 else 0) high (low ∷ []), sum_by-cons (λ k. if k == m then 1 else 0) low [])
times_next m (Closed leaf) = refl

-- the node on top of the stack is one of the nodes
tree_known : (nodes : List Node) (n : ℕ) (tree : BoxTree) → IsTreeAt nodes n tree → n < length nodes
unfolding IsTreeAt
tree_known nodes n (at_leaf leaf) read = read.known
tree_known nodes n (at_split i at low high) read = read.2.known

pub top_known : (begun nodes : List Node) (done : List TreeNode) (todo ks : List ℕ) (n : ℕ) → IsRead begun nodes done todo → todo ≡ ks ++ n ∷ [] → n < length nodes
top_known begun nodes done todo ks n r is =
    let top = reads_top nodes ks n r.rest (subst (λ js. Reads nodes js r.rest) is r.reads) in
    tree_known nodes n top.0 top.2

joined : (all done rest top own others : List TreeNode) → all ≡ done ++ rest → rest ≡ top → top ≡ own ++ others → all ≡ (done ++ own) ++ others
joined all done rest top own others first second third = first ∙ (ap (λ xs. done ++ xs) (second ∙ third) ∙ sym (append_assoc done own others))

-- the node on top of the stack is read
pub read_goes_on : (begun nodes : List Node) (done : List TreeNode) (todo ks : List ℕ) (n : ℕ) → IsRead begun nodes done todo → todo ≡ ks ++ n ∷ []
    → IsRead begun (with_phase nodes n Taken) (done ++ own_nodes (phase_of nodes n)) (ks ++ next_nodes (phase_of nodes n))
unfolding times naming_count
read_goes_on begun nodes done todo ks n r is =
    let top = reads_top nodes ks n r.rest (subst (λ js. Reads nodes js r.rest) is r.reads) in
    let known = tree_known nodes n top.0 top.2 in
    let count : (m : ℕ) → times m todo ≡ times m ks + same n m = λ m. ap (times m) is ∙ (let e = sum_by-append (λ k. if k == m then 1 else 0) ks (n ∷ []) in omega (arith, sum_by-cons (λ k. if k == m then 1 else 0) n [])) in
    let one : same n n ≡ 1 = rw (eq-eqb n n refl) refl in
    let none : naming_count nodes n ≡ 0 = omega (arith, r.once n, count n) in
    let absent : times n ks ≡ 0 = omega (arith, r.once n, count n) in
    let on = read_on nodes n ks top.1 top.0 top.2 none (still_reads nodes n ks top.1 none absent top.3) in
    record {
      tree = r.tree;
      read = r.read;
      rest = on.0;
      reads = on.1;
      all = joined (nodes_of r.tree) done r.rest (nodes_of top.0 ++ top.1) (own_nodes (phase_of nodes n)) on.0 r.all top.4 on.2;
      once = λ m.
          let marked = marked_sum (λ a p. names m p) nodes n (phase_of nodes n) Taken (record { known = known; is = refl }) in
          let sum = sum_by-append (λ k. if k == m then 1 else 0) ks (next_nodes (phase_of nodes n)) in
          omega (arith, r.once m, count m, times_next m (phase_of nodes n));
    }

-- a split node is read once
smaller_by : (p : Phase) → 2 * cond {A = ℕ} (is_split p) 1 0 ≡ length (next_nodes p)
smaller_by Open = refl
smaller_by Taken = refl
smaller_by (Split low high i at) = refl
smaller_by (Closed leaf) = refl

pub read_falls : (nodes : List Node) (ks todo : List ℕ) (n : ℕ) → n < length nodes → todo ≡ ks ++ n ∷ []
    → 2 * count_by (λ (x : Node). is_split x.phase) (with_phase nodes n Taken) + length (ks ++ next_nodes (phase_of nodes n)) < 2 * count_by (λ (x : Node). is_split x.phase) nodes + length todo
read_falls nodes ks todo n known is =
    let marked = marked_sum (λ a p. cond (is_split p) 1 0) nodes n (phase_of nodes n) Taken (record { known = known; is = refl }) in
    omega (arith, ap (λ (js : List ℕ). length js) is, length-append ks (n ∷ []), length-append ks (next_nodes (phase_of nodes n)), smaller_by (phase_of nodes n))

-- with nothing on the stack all is read
pub read_ends : (begun nodes : List Node) (done : List TreeNode) (todo : List ℕ) → IsRead begun nodes done todo → todo ≡ [] → (tree : BoxTree) × IsTreeAt begun 0 tree × (done ≡ nodes_of tree)
unfolding Reads
read_ends begun nodes done todo r is =
    let none : r.rest ≡ [] = subst (λ js. Reads nodes js r.rest) is r.reads in
    (r.tree, r.read, sym (append-nil done) ∙ (ap (λ xs. done ++ xs) (sym none) ∙ sym r.all))

-- a phase is taken out of a node
pub taken_out : (nodes : List Node) (n : ℕ) (x : Node) (q : Phase) → x ≡ node_at nodes n → q ≡ Taken → set nodes n (record { area = x.area; phase = q }) ≡ with_phase nodes n Taken
taken_out nodes n x q is blank = ap (λ (a : IntervalBox). set nodes n (record { area = a; phase = q })) (ap (λ (y : Node). y.area) is) ∙ ap (λ (r : Phase). set nodes n (record { area = area_of nodes n; phase = r })) blank

pub empty : (ks : List ℕ) → length ks ≡ 0 → ks ≡ []
empty [] none = refl
empty (k ∷ ks) none = absurd (omega arith)

-- a tree that is read from a covered state, with its nodes in preorder
pub tree_for : (s : BookState) (nodes : List TreeNode) → IsCovered s → (tree : BoxTree) × IsTreeAt s.nodes 0 tree × (nodes ≡ nodes_of tree) → IsTreeFor s nodes
tree_for s nodes c read = record { tree = read.0; read = read.1; nodes_are = read.2; valid = read_valid s 0 read.0 c read.1 }

pub tree_small : (s : BookState) (nodes : List TreeNode) → IsCovered s → IsTreeFor s nodes → length nodes + 1 ≤ 2 * size s.job (area_of s.nodes 0)
tree_small s nodes c tree =
    let few = valid_small s.job (best_cost s) (area_of s.nodes 0) tree.tree (c.boxes 0 c.some) tree.valid in
    omega (arith, ap (λ (xs : List TreeNode). length xs) tree.nodes_are)
