-- The verdict of a text says exactly what it is the text of.
use Rattle.std.proofs.Common.{ℕ, ◌≡◌, ◌≤◌, List, [], ◌∷◌, ◌++◌, length, Option, Some, None, Ok, refl, ap, sym, ◌∙◌, subst, arith, append_assoc, append-nil}
use Rattle.std.specs.List.{All}
use Rattle.std.proofs.lemmas.List.Elements.{All-nil, All-cons}
use Rattle.tqd_base.specs.World.{Bytes}
use Rattle.tqd_instance.specs.declared.job.Job.{Job}
use Rattle.tqd_instance.specs.Purchase.{Purchase}
use Rattle.tqd_instance.specs.Cost.{cost}
use Rattle.tqd_instance.specs.Least.{HasNoPurchase}
use Rattle.interval_box.specs.Ranges.{IsBoxOf}
use Rattle.interval_box.proofs.Root.{root_has}
use Rattle.bound_tree.specs.declared.line.TreeLine.{TreeLine}
use Rattle.bound_tree.specs.declared.line.TreeLine.TheVariants.{Header, Header2, NoPlan, Plan, Buy, Split, Row, Bound, Empty, Winners}
use Rattle.bound_tree.specs.BoxTree.{BoxTree, IsValid}
use Rattle.bound_tree.specs.TreeText.{buy_lines, plan_lines, ended, lines_text}
use Rattle.bound_tree.specs.SlotTree.{no_rows, unfolded}
use Rattle.bound_tree.proofs.TreeLines.{lines_first, one_piece}
use Rattle.bound_tree.proofs.ValidTrees.{valid_sound}
use Rattle.tree_checker.specs.declared.rejection.Verdict.TheVariants.{Optimal, NoPurchase}
use Rattle.bound_tree.specs.Root.{root_of}
use Rattle.tree_checker.specs.Verdict.{RowStore, in_leaves, in_slots, Phase, at_header, at_plan, at_nodes, reading, after_line, at_first, verdict}
use Rattle.bound_tree.proofs.Roots.{root_is}
use Rattle.verdict_laws.specs.Shown.{IsTextOf, with_rows, with_slots, ShowsLeast, ShowsNone, HasLeast}
use Rattle.verdict_laws.proofs.Ends.{IsWholeAt, yes_whole, least, none}
use Rattle.verdict_laws.proofs.NextLines.{next_line}
use Rattle.verdict_laws.proofs.TreeReads.{node_text}
use Rattle.verdict_laws.proofs.TreesBack.{trees_back}
use Rattle.verdict_laws.proofs.BuyReads.{first_plan}
use Rattle.verdict_laws.proofs.BuysBack.{AreBuys, built_none, buys_back, IsPlanLine, no_plan_led, plan_led, plan_line_is}
use Rattle.verdict_laws.proofs.Showing.{IsHeader, first_format, second_format, text_parts, slot_text_parts}
use Rattle.verdict_laws.proofs.SlotReads.{items_text}
use Rattle.verdict_laws.proofs.SlotsBack.{slots_none, slot_trees_back}

-- what a text shows with the cost of a purchase, or without one
abbrev ShowsWith : Job → Bytes → Option ℕ → Type 0
ShowsWith job text None = ShowsNone job text
ShowsWith job text (Some c) = ShowsLeast job text c

-- the nodes of a tree that is valid for the root, after a header
record IsRootText (job : Job) (header : TreeLine) (best found : Option ℕ) (text : Bytes) : Type 0 where
  tree : BoxTree
  valid : IsValid job best (root_of job) tree
  text_of : (plan : Option Purchase) (whole : Bytes) → whole ≡ ended header ++ (lines_text (plan_lines job plan) ++ text) → IsTextOf job plan tree whole
  found_is : found ≡ best

the_root : (job : Job) → All (IsBoxOf job) (root_of job ∷ [])
the_root job = All-cons (IsBoxOf job) (root_of job) [] (root_is job).of_job (All-nil (IsBoxOf job))

root_text : (job : Job) (header : TreeLine) (store : RowStore) (n : ℕ) (best found : Option ℕ) (text : Bytes) → IsHeader header store
    → IsWholeAt job (reading n [] (at_nodes store best (root_of job ∷ []))) text found → IsRootText job header best found text
root_text job first store n best found text first_format whole =
    let read = trees_back (length text) job best found (root_of job ∷ []) n text (the_root job) (omega arith) whole in
    let trees = read.trees in
    let nodes : text ≡ node_text (trees.0) = trees.3 ∙ (ap (λ (t : Bytes). node_text (trees.0) ++ t) trees.4 ∙ append-nil (node_text (trees.0))) in
    record {
      tree = trees.0;
      valid = trees.2;
      text_of = λ plan all is. with_rows (is ∙ (ap (λ (t : Bytes). ended Header ++ (lines_text (plan_lines job plan) ++ t)) nodes ∙ sym (text_parts job plan (trees.0))));
      found_is = read.best_is;
    }
root_text job first store n best found text second_format whole =
    let read = slot_trees_back (length text) job no_rows best found (root_of job ∷ []) n text (slots_none job) (the_root job) (omega arith) whole in
    let trees = read.trees in
    let nodes : text ≡ items_text (trees.0) = trees.4 ∙ (ap (λ (t : Bytes). items_text (trees.0) ++ t) trees.5 ∙ append-nil (items_text (trees.0))) in
    record {
      tree = unfolded job (trees.0);
      valid = trees.3;
      text_of = λ plan all is. with_slots (trees.0) (trees.2) refl (is ∙ (ap (λ (t : Bytes). ended Header2 ++ (lines_text (plan_lines job plan) ++ t)) nodes ∙ sym (slot_text_parts job plan (trees.0))));
      found_is = read.best_is;
    }

-- the line of a header, where it led on
record IsHeaderLine (line : TreeLine) (next : Phase) : Type 0 where
  store : RowStore
  is_header : IsHeader line store
  next_is : next ≡ at_plan store

header_next : (job : Job) (line : TreeLine) (next : Phase) → after_line job 1 at_header (Some line) ≡ Ok next → IsHeaderLine line next
unfolding after_line
header_next job Header next e = let same : at_plan in_leaves ≡ next = cc in record { store = in_leaves; is_header = first_format; next_is = sym same }
header_next job Header2 next e = let same : at_plan (in_slots no_rows) ≡ next = cc in record { store = in_slots no_rows; is_header = second_format; next_is = sym same }
header_next job NoPlan next e = absurd (cc)
header_next job (Plan cost count) next e = absurd (cc)
header_next job (Buy i k u) next e = absurd (cc)
header_next job (Split i s) next e = absurd (cc)
header_next job (Row n prices) next e = absurd (cc)
header_next job (Bound prices) next e = absurd (cc)
header_next job (Empty prices) next e = absurd (cc)
header_next job Winners next e = absurd (cc)

none_shows : (job : Job) (header : TreeLine) (text rest after : Bytes) (found : Option ℕ) → text ≡ ended header ++ rest → rest ≡ ended NoPlan ++ after → IsRootText job header None found after → ShowsWith job text found
none_shows job header text rest after found first second root =
    subst (λ (o : Option ℕ). ShowsWith job text o) (sym root.found_is) (record {
      tree = root.tree;
      root = root_of job;
      is_root = root_is job;
      text_is = root.text_of None text (first ∙ ap (λ (t : Bytes). ended header ++ t) (second ∙ ap (λ (t : Bytes). t ++ after) (sym (one_piece NoPlan))));
      valid = root.valid;
    })

-- the lines of a plan, in the words for it
plan_is : (job : Job) (x : Purchase) (said count : ℕ) (more : List TreeLine) → more ≡ buy_lines job x → length more ≡ count → said ≡ cost job x
    → ended (Plan said count) ++ lines_text more ≡ lines_text (plan_lines job (Some x))
plan_is job x said count more lines number amount =
    ap (λ (n : ℕ). ended (Plan said n) ++ lines_text more) (sym number)
    ∙ (ap (λ (ls : List TreeLine). ended (Plan said (length ls)) ++ lines_text ls) lines
    ∙ (ap (λ (c : ℕ). ended (Plan c (length (buy_lines job x))) ++ lines_text (buy_lines job x)) amount
    ∙ sym (lines_first (Plan (cost job x) (length (buy_lines job x))) (buy_lines job x))))

least_shows : (job : Job) (header : TreeLine) (store : RowStore) (text rest after : Bytes) (said count : ℕ) (found : Option ℕ) → IsHeader header store → text ≡ ended header ++ rest
    → rest ≡ ended (Plan said count) ++ after → AreBuys job store said count [] after found → ShowsWith job text found
least_shows job header store text rest after said count found is first second buys =
    let root = root_text job header store buys.lines (Some said) found buys.rest is buys.whole in
    let plan = plan_is job buys.x said count buys.more buys.lines_are buys.count buys.costs.is_cost in
    subst (λ (o : Option ℕ). ShowsWith job text o) (sym root.found_is) (record {
      x = buys.x;
      tree = root.tree;
      root = root_of job;
      is_root = root_is job;
      text_is = root.text_of (Some buys.x) text (first ∙ ap (λ (t : Bytes). ended header ++ t) (second
          ∙ (ap (λ (t : Bytes). ended (Plan said count) ++ t) buys.text_is
          ∙ (sym (append_assoc (ended (Plan said count)) (lines_text buys.more) buys.rest) ∙ ap (λ (t : Bytes). t ++ buys.rest) plan))));
      feasible = buys.costs.feasible;
      cost_is = buys.costs.is_cost;
      valid = root.valid;
    })

plan_shows : (job : Job) (header : TreeLine) (store : RowStore) (text rest after : Bytes) (line : TreeLine) (next : Phase) (found : Option ℕ) → IsHeader header store → text ≡ ended header ++ rest
    → rest ≡ ended line ++ after → IsPlanLine job store line next → IsWholeAt job (reading 2 [] next) after found → ShowsWith job text found
plan_shows job header store text rest after line next found head first second (no_plan_led line_is is) whole =
    none_shows job header text rest after found first (second ∙ ap (λ (l : TreeLine). ended l ++ after) line_is)
    (root_text job header store 2 None found after head (subst (λ (p : Phase). IsWholeAt job (reading 2 [] p) after found) is whole))
plan_shows job header store text rest after line next found head first second (plan_led said count line_is led) whole =
    least_shows job header store text rest after said count found head first (second ∙ ap (λ (l : TreeLine). ended l ++ after) line_is)
    (buys_back count job store 2 (first_plan said count) [] after found next refl (built_none job said count) led whole)

whole_shows : (job : Job) (text : Bytes) (found : Option ℕ) → IsWholeAt job at_first text found → ShowsWith job text found
whole_shows job text found whole =
    let header = next_line job 0 at_header text found refl whole in
    let first = header_next job header.line header.next header.step in
    let plan = next_line job 1 (at_plan first.store) header.rest found refl (subst (λ (p : Phase). IsWholeAt job (reading 1 [] p) header.rest found) first.next_is header.whole) in
    plan_shows job header.line first.store text header.rest plan.rest plan.line plan.next found first.is_header header.text_is plan.text_is
    (plan_line_is job first.store 2 plan.line plan.next plan.step) plan.whole

pub least_only : (job : Job) (text : Bytes) (c : ℕ) → verdict job text ≡ Optimal c → ShowsLeast job text c
least_only job text c e = whole_shows job text (Some c) (yes_whole job text (Optimal c) (Some c) (least c) e)

pub none_only : (job : Job) (text : Bytes) → verdict job text ≡ NoPurchase → ShowsNone job text
none_only job text e = whole_shows job text None (yes_whole job text NoPurchase None none e)

-- what a text shows is so
pub least_sound : (job : Job) (text : Bytes) (c : ℕ) → ShowsLeast job text c → HasLeast job text c
least_sound job text c shown =
    let all = valid_sound job shown.root (Some c) shown.tree shown.is_root.of_job shown.valid in
    record {
      x = shown.x;
      tree = shown.tree;
      text_is = shown.text_is;
      least = record {
        feasible = shown.feasible;
        least = λ y f. (let most : c ≤ cost job y = all y f (root_has job shown.root y shown.is_root f) in omega (arith, most, shown.cost_is));
      };
      cost_is = shown.cost_is;
    }

pub none_sound : (job : Job) (text : Bytes) → ShowsNone job text → HasNoPurchase job
none_sound job text shown y f = valid_sound job shown.root None shown.tree shown.is_root.of_job shown.valid y f (root_has job shown.root y shown.is_root f)
