-- The text of a feasible purchase, or of none, and of a tree that is valid for the root has its verdict.
use Rattle.std.proofs.Common.{ℕ, ◌≡◌, ◌+◌, ◌*◌, ◌%◌, ◌^◌, ◌<◌, ◌≤◌, ◌==◌, true, List, [], ◌∷◌, ◌++◌, map, length, Option, None, Some, refl, ap, sym, ◌∙◌, subst, arith, append_assoc, append-nil, eq-eqb}
use Rattle.std.specs.Prelude.{ℤ, pos, nat_le, unsigned_abs}
use Rattle.std.specs.List.{All}
use Rattle.std.proofs.lemmas.Bool.{le-leb}
use Rattle.std.proofs.lemmas.Nat.{div-mul-add, mod-mul-add}
use Rattle.std.proofs.lemmas.List.Elements.{All-nil, All-cons}
use Rattle.std.proofs.Math.Nat.{mul-le-mul, mul-le-mul_right}
use Rattle.tqd_base.specs.World.{Bytes}
use Rattle.tqd_base.specs.declared.limits.TheConstants.{GOODS_MAX, SUPPLIERS_MAX}
use Rattle.tqd_instance.specs.declared.job.Job.{Job}
use Rattle.tqd_instance.specs.declared.standing.Standing.{Standing}
use Rattle.tqd_instance.specs.declared.standing.Standing.TheVariants.{Feasible as IsFeasible}
use Rattle.tqd_instance.specs.Job.{goods, suppliers}
use Rattle.tqd_instance.specs.Purchase.{Purchase}
use Rattle.tqd_instance.specs.Feasible.{Feasible}
use Rattle.tqd_instance.specs.Cost.{cost}
use Rattle.tqd_instance.proofs.Jobs.{job_in_range}
use Rattle.interval_box.specs.declared.boxes.IntervalBox.{IntervalBox}
use Rattle.interval_box.specs.Ranges.{IsRoot}
use Rattle.bound_tree.specs.declared.line.TreeLine.{TreeLine}
use Rattle.bound_tree.specs.declared.line.TreeLine.TheVariants.{Header, Header2, NoPlan, Plan}
use Rattle.bound_tree.specs.BoxTree.{BoxTree, nodes_of, IsValid}
use Rattle.bound_tree.specs.LineText.{line_text}
use Rattle.bound_tree.specs.ReadLine.{read_line}
use Rattle.bound_tree.specs.TreeText.{lines_to, buy_lines, plan_lines, node_line, ended, lines_text, tree_text}
use Rattle.bound_tree.specs.SlotTree.{SlotTree, items_of, no_rows, slots_after, IsSound, unfolded}
use Rattle.bound_tree.specs.SlotText.{item_line, slot_text}
use Rattle.bound_tree.proofs.TreeLines.{lines_append, lines_first, one_piece}
use Rattle.bound_tree.proofs.LineLaws.{counts_are_read}
use Rattle.tree_checker.specs.declared.rejection.Verdict.TheVariants.{Optimal, NoPurchase}
use Rattle.tree_checker.specs.Standing.{standing_of}
use Rattle.bound_tree.specs.Root.{root_of}
use Rattle.tree_checker.specs.Verdict.{RowStore, in_leaves, in_slots, PlanSoFar, Step, reading, at_header, at_plan, at_nodes, from_root, judged, when_bought, line_ended, after_line, after_bytes, at_first, verdict_of, verdict}
use Rattle.tree_checker.proofs.Standings.{of_feasible}
use Rattle.bound_tree.proofs.Roots.{root_is, root_is_value}
use Rattle.verdict_laws.specs.Shown.{IsTextOf, with_rows, with_slots, ShowsLeast, ShowsNone}
use Rattle.verdict_laws.proofs.SlotLines.{slots_first}
use Rattle.verdict_laws.proofs.SlotReads.{items_text, items_count, slot_tree_reads}
use Rattle.verdict_laws.proofs.OneLine.{line_step}
use Rattle.verdict_laws.proofs.TreeReads.{node_text, count, two_spelled, tree_reads}
use Rattle.verdict_laws.proofs.Agreeing.{Agree, feasible_agrees, cost_agrees}
use Rattle.verdict_laws.proofs.CostsBelow.{cost_below}
use Rattle.verdict_laws.proofs.Places.{line_at, buys_in_a_row, few_lines}
use Rattle.verdict_laws.proofs.BuyReads.{first_plan, Passed, buys_read}

-- the line of a header, and where the rows of its format are
pub data IsHeader : TreeLine → RowStore → Type 0 where
  first_format : IsHeader Header in_leaves
  second_format : IsHeader Header2 (in_slots no_rows)

one_spelled : (n : ℕ) → n < 10 ^ 23 → All (λ (z : ℤ). unsigned_abs z < 10 ^ 23) (pos n ∷ [])
one_spelled n small = All-cons (λ (z : ℤ). unsigned_abs z < 10 ^ 23) (pos n) [] small (All-nil (λ (z : ℤ). unsigned_abs z < 10 ^ 23))

no_plan_is_read : read_line (line_text NoPlan) ≡ Some NoPlan
no_plan_is_read = counts_are_read NoPlan (All-nil (λ (z : ℤ). unsigned_abs z < 10 ^ 23)) refl

-- the parts of a text
pub text_parts : (job : Job) (plan : Option Purchase) (tree : BoxTree) → tree_text job plan (nodes_of tree) ≡ ended Header ++ (lines_text (plan_lines job plan) ++ node_text tree)
unfolding tree_text node_text
text_parts job plan tree =
    lines_first Header (plan_lines job plan ++ map node_line (nodes_of tree))
    ∙ ap (λ (t : Bytes). ended Header ++ t) (lines_append (plan_lines job plan) (map node_line (nodes_of tree)))

pub slot_text_parts : (job : Job) (plan : Option Purchase) (tree : SlotTree) → slot_text job plan (items_of tree) ≡ ended Header2 ++ (lines_text (plan_lines job plan) ++ items_text tree)
unfolding slot_text items_text
slot_text_parts job plan tree =
    lines_first Header2 (plan_lines job plan ++ map item_line (items_of tree))
    ∙ ap (λ (t : Bytes). ended Header2 ++ t) (lines_append (plan_lines job plan) (map item_line (items_of tree)))

header_goes : (job : Job) (header : TreeLine) (store : RowStore) (rest : Bytes) → IsHeader header store
    → after_bytes job at_first (ended header ++ rest) ≡ after_bytes job (reading 1 [] (at_plan store)) rest
unfolding after_line
header_goes job first store rest first_format =
    line_step job 0 at_header Header rest refl (counts_are_read Header (one_spelled 1 (let small : 1 < 10 ^ 23 = omega arith in small)) refl)
header_goes job first store rest second_format =
    line_step job 0 at_header Header2 rest refl (counts_are_read Header2 (one_spelled 2 (let small : 2 < 10 ^ 23 = omega arith in small)) refl)

no_plan_goes : (job : Job) (store : RowStore) (rest : Bytes) → after_bytes job (reading 1 [] (at_plan store)) (ended NoPlan ++ rest) ≡ after_bytes job (reading 2 [] (at_nodes store None (root_of job ∷ []))) rest
unfolding after_line
no_plan_goes job store rest = line_step job 1 (at_plan store) NoPlan rest refl no_plan_is_read

plan_goes : (job : Job) (store : RowStore) (amount number : ℕ) (rest : Bytes) → amount < 10 ^ 23 → number < 10 ^ 23 → number ≤ suppliers job * goods job
    → after_bytes job (reading 1 [] (at_plan store)) (ended (Plan amount number) ++ rest) ≡ after_bytes job (line_ended 2 (when_bought job store (first_plan amount number))) rest
unfolding after_line
plan_goes job store amount number rest low few fits =
    let is : nat_le number (suppliers job * goods job) ≡ true = le-leb _ _ fits in
    line_step job 1 (at_plan store) (Plan amount number) rest refl (counts_are_read (Plan amount number) (two_spelled amount number low few) refl)
    ∙ rw is refl

-- the nodes of a text are read to the end of the tree of the root
record ReadsRoot (job : Job) (store : RowStore) (best : Option ℕ) (text : Bytes) : Type 0 where
  lines : ℕ
  after : RowStore
  read : (n : ℕ) → after_bytes job (reading n [] (at_nodes store best (root_of job ∷ []))) text ≡ reading (n + lines) [] (at_nodes after best [])

-- a text has its header, the lines of its plan, and nodes that are read
record IsReadable (job : Job) (best : Option ℕ) (plan : Option Purchase) (text : Bytes) : Type 0 where
  header : TreeLine
  store : RowStore
  nodes : Bytes
  is_header : IsHeader header store
  text_is : text ≡ ended header ++ (lines_text (plan_lines job plan) ++ nodes)
  reads : ReadsRoot job store best nodes

rows_read : (job : Job) (best : Option ℕ) (tree : BoxTree) → IsValid job best (root_of job) tree → ReadsRoot job in_leaves best (node_text tree)
rows_read job best tree valid = record {
  lines = count tree;
  after = in_leaves;
  read = λ n. ap (λ (t : Bytes). after_bytes job (reading n [] (at_nodes in_leaves best (root_of job ∷ []))) t) (sym (append-nil (node_text tree)))
      ∙ tree_reads job best tree (root_of job) (root_is job).of_job valid [] n [];
}

slots_read : (job : Job) (best : Option ℕ) (tree : SlotTree) → IsSound job tree → IsValid job best (root_of job) (unfolded job tree) → ReadsRoot job (in_slots no_rows) best (items_text tree)
slots_read job best tree sound valid = record {
  lines = items_count tree;
  after = in_slots (slots_after no_rows tree);
  read = λ n. ap (λ (t : Bytes). after_bytes job (reading n [] (at_nodes (in_slots no_rows) best (root_of job ∷ []))) t) (sym (append-nil (items_text tree)))
      ∙ slot_tree_reads job best tree (root_of job) no_rows slots_first (root_is job).of_job sound valid [] n [];
}

readable : (job : Job) (best : Option ℕ) (plan : Option Purchase) (root : IntervalBox) (tree : BoxTree) (text : Bytes) → IsRoot job root → IsValid job best root tree
    → IsTextOf job plan tree text → IsReadable job best plan text
readable job best plan root tree text is valid (with_rows text_is) = record {
  header = Header;
  store = in_leaves;
  nodes = node_text tree;
  is_header = first_format;
  text_is = text_is ∙ text_parts job plan tree;
  reads = rows_read job best tree (subst (λ (area : IntervalBox). IsValid job best area tree) (root_is_value job root is) valid);
}
readable job best plan root tree text is valid (with_slots slot_tree sound tree_is text_is) = record {
  header = Header2;
  store = in_slots no_rows;
  nodes = items_text slot_tree;
  is_header = second_format;
  text_is = text_is ∙ slot_text_parts job plan slot_tree;
  reads = slots_read job best slot_tree sound (subst (IsValid job best (root_of job)) tree_is (subst (λ (area : IntervalBox). IsValid job best area tree) (root_is_value job root is) valid));
}

none_read : (job : Job) (text : Bytes) (r : IsReadable job None None text) → after_bytes job at_first text ≡ reading (2 + r.reads.lines) [] (at_nodes r.reads.after None [])
none_read job text r =
    ap (λ (t : Bytes). after_bytes job at_first t) r.text_is
    ∙ (header_goes job r.header r.store (lines_text (plan_lines job None) ++ r.nodes) r.is_header
    ∙ (ap (λ (t : Bytes). after_bytes job (reading 1 [] (at_plan r.store)) (t ++ r.nodes)) (one_piece NoPlan)
    ∙ (no_plan_goes job r.store r.nodes ∙ r.reads.read 2)))

pub none_shown : (job : Job) (text : Bytes) → ShowsNone job text → verdict job text ≡ NoPurchase
unfolding verdict
none_shown job text shown = ap verdict_of (none_read job text (readable job None None shown.root shown.tree text shown.is_root shown.valid shown.text_is))

-- the purchase whose lines have all been read is the one that they were written for
all_passed : (job : Job) (x : Purchase) (amount number : ℕ) (plan : PlanSoFar) → Passed job x amount number (suppliers job * goods job) plan → Agree job x plan.bought
all_passed job x amount number plan passed i k supplier good =
    let here : i * goods job + k < suppliers job * goods job = inside (suppliers job) (goods job) i k supplier good in
    let at_i = div-mul-add i (goods job) k good in
    let at_k = mod-mul-add i (goods job) k good in
    sym (ap (λ (a : ℕ). x a ((i * goods job + k) % goods job)) at_i ∙ ap (x i) at_k)
    ∙ (sym (passed.same (i * goods job + k) here)
    ∙ (ap (λ (a : ℕ). plan.bought a ((i * goods job + k) % goods job)) at_i ∙ ap (plan.bought i) at_k))
  where
    inside : (s g i k : ℕ) → i < s → k < g → i * g + k < s * g
    inside s g i k h j = let most : (i + 1) * g ≤ s * g = mul-le-mul_right g (let next : i + 1 ≤ s = omega arith in next) in omega (arith, most)

bought_all : (job : Job) (store : RowStore) (x : Purchase) (plan : PlanSoFar) (number : ℕ) → Feasible job x → number ≡ length (lines_to (suppliers job * goods job) (line_at job x)) → Passed job x (cost job x) number (suppliers job * goods job) plan
    → when_bought job store plan ≡ from_root job store (Some (cost job x))
bought_all job store x plan number f count_is passed =
    let same = all_passed job x (cost job x) number plan passed in
    let stands : IsFeasible (cost job x) ≡ standing_of job plan.bought = of_feasible job plan.bought (cost job x) (feasible_agrees job x plan.bought same f) (cost_agrees job x plan.bought same) in
    let all : (plan.left == 0) ≡ true = eq-eqb plan.left 0 (omega (arith, passed.left_is, count_is)) in
    let right : (plan.cost == cost job x) ≡ true = eq-eqb plan.cost (cost job x) passed.cost_is in
    rw all (ap (λ (s : Standing). judged job store plan.cost s) (sym stands) ∙ (rw right (ap (λ (c : ℕ). from_root job store (Some c)) passed.cost_is)))

least_read : (job : Job) (x : Purchase) (text : Bytes) → Feasible job x → (r : IsReadable job (Some (cost job x)) (Some x) text)
    → after_bytes job at_first text ≡ reading (2 + length (lines_to (suppliers job * goods job) (line_at job x)) + r.reads.lines) [] (at_nodes r.reads.after (Some (cost job x)) [])
least_read job x text f r =
    let places = suppliers job * goods job in
    let lines = lines_to places (line_at job x) in
    let number_is : length (buy_lines job x) ≡ length lines = ap length (buys_in_a_row job x) in
    let few = few_lines job x places in
    let range = job_in_range job in
    let most : places ≤ SUPPLIERS_MAX * GOODS_MAX = mul-le-mul {n₁ = suppliers job} {m₁ = goods job} {n₂ = SUPPLIERS_MAX} {m₂ = GOODS_MAX} range.few_suppliers range.few_goods in
    let all = buys_read job r.store x (cost job x) (length lines) 2 f (omega arith) places (omega arith) r.nodes in
    ap (λ (t : Bytes). after_bytes job at_first t) r.text_is
    ∙ (header_goes job r.header r.store (lines_text (plan_lines job (Some x)) ++ r.nodes) r.is_header
    ∙ (ap (λ (t : Bytes). after_bytes job (reading 1 [] (at_plan r.store)) t) (plan_text (length (buy_lines job x)) (length lines) (cost job x) (buy_lines job x) lines r.nodes number_is (buys_in_a_row job x))
    ∙ (plan_goes job r.store (cost job x) (length lines) (lines_text lines ++ r.nodes) (cost_below job x f) (omega (arith, few, most)) few
    ∙ (all.read
    ∙ (ap (λ (s : Step). after_bytes job (line_ended (2 + length lines) s) r.nodes) (bought_all job r.store x all.plan (length lines) f refl all.passed)
    ∙ r.reads.read (2 + length lines))))))
  where
    plan_text : (m n amount : ℕ) (before lines : List TreeLine) (after : Bytes) → m ≡ n → before ≡ lines → lines_text (Plan amount m ∷ before) ++ after ≡ ended (Plan amount n) ++ (lines_text lines ++ after)
    plan_text m n amount before lines after e l =
        ap (λ (t : Bytes). t ++ after) (lines_first (Plan amount m) before) ∙ (append_assoc (ended (Plan amount m)) (lines_text before) after
        ∙ (ap (λ (k : ℕ). ended (Plan amount k) ++ (lines_text before ++ after)) e ∙ ap (λ (ls : List TreeLine). ended (Plan amount n) ++ (lines_text ls ++ after)) l))

-- the text of a feasible purchase and of a valid tree has the verdict that it is least
pub least_shown : (job : Job) (text : Bytes) (c : ℕ) → ShowsLeast job text c → verdict job text ≡ Optimal c
unfolding verdict
least_shown job text c shown =
    let valid = subst (λ (n : ℕ). IsValid job (Some n) shown.root shown.tree) shown.cost_is shown.valid in
    ap verdict_of (least_read job shown.x text shown.feasible (readable job (Some (cost job shown.x)) (Some shown.x) shown.root shown.tree text shown.is_root valid shown.text_is))
    ∙ ap Optimal (sym shown.cost_is)
