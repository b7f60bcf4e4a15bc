-- From a text that comes to a whole tree back to what is bought.
use Rattle.std.proofs.Common.{ℕ, zero, suc, ltb, leb, ◌≡◌, ◌+◌, ◌*◌, ◌-◌, ◌/◌, ◌%◌, ◌<◌, ◌≤◌, ◌==◌, ◌&&◌, Bool, true, false, List, [], ◌∷◌, ◌++◌, length, Option, Some, None, Ok, refl, ap, sym, ◌∙◌, subst, arith, append_assoc, append-nil, eq-eqb}
use Rattle.std.specs.Prelude.{nat_le}
use Rattle.std.proofs.lemmas.Bool.{and_parts, ltb-true, leb-true, eqb-true, ne_eqb}
use Rattle.std.proofs.lemmas.Nat.{div-mul-add, mod-mul-add}
use Rattle.std.proofs.Math.Nat.{mul-le-mul_right}
use Rattle.tqd_base.specs.World.{Bytes}
use Rattle.tqd_base.specs.declared.limits.TheConstants.{QTY_MAX}
use Rattle.tqd_instance.specs.declared.job.Job.{Job}
use Rattle.tqd_instance.specs.declared.standing.Standing.{Standing}
use Rattle.tqd_instance.specs.declared.standing.Standing.TheVariants.{Feasible as IsFeasible, Need, Stock, Gap, Winners as WinnersStanding}
use Rattle.tqd_instance.specs.Job.{goods, suppliers}
use Rattle.tqd_instance.specs.Purchase.{Purchase}
use Rattle.tqd_instance.specs.Standing.{Costs}
use Rattle.bound_tree.specs.declared.line.TreeLine.{TreeLine}
use Rattle.bound_tree.specs.declared.line.TreeLine.TheVariants.{Header, Header2, NoPlan, Plan, Buy, Split, Row, Bound, Empty, Winners}
use Rattle.bound_tree.specs.TreeText.{lines_to, units_line, buy_lines, ended, lines_text}
use Rattle.bound_tree.proofs.TreeLines.{lines_to-zero, lines_to-more, lines_none, lines_first}
use Rattle.tree_checker.specs.Standing.{standing_of}
use Rattle.bound_tree.specs.Root.{root_of}
use Rattle.tree_checker.specs.Verdict.{RowStore, PlanSoFar, Phase, at_plan, at_buys, at_nodes, reading, judged, when_bought, place, with_units, with_buy, is_next, after_line}
use Rattle.verdict_laws.proofs.Ends.{IsWholeAt}
use Rattle.verdict_laws.proofs.NextLines.{next_line}
use Rattle.verdict_laws.proofs.StandsAs.{feasible_from}
use Rattle.verdict_laws.proofs.Places.{line_at, buys_in_a_row, to_same, to_far, no_units, some_units}
use Rattle.verdict_laws.proofs.BuyReads.{first_plan, with_other, with_same}

-- the plan that these lines of what is bought have built
pub record Built (job : Job) (plan : PlanSoFar) (lines : List TreeLine) : Type 0 where
  pub lines_are : lines ≡ lines_to plan.next (line_at job plan.bought)
  pub later : (q : ℕ) → plan.next ≤ q → plan.bought (q / goods job) (q % goods job) ≡ 0
  pub within : plan.next ≤ suppliers job * goods job

pub built_none : (job : Job) (cost count : ℕ) → Built job (first_plan cost count) []
built_none job cost count = record { lines_are = sym (lines_to-zero (line_at job (first_plan cost count).bought)); later = λ q from. refl; within = omega arith }

-- the lines of what is bought with more units at a place, over plain numbers
lines_more : (job : Job) (x : Purchase) (p next u : ℕ) → next ≤ p → 1 ≤ u → ((q : ℕ) → next ≤ q → x (q / goods job) (q % goods job) ≡ 0)
    → lines_to (p + 1) (line_at job (with_units x (p / goods job) (p % goods job) u)) ≡ lines_to next (line_at job x) ++ Buy (p / goods job) (p % goods job) u ∷ []
lines_more job x p next u order some later =
    let i = p / goods job in
    let k = p % goods job in
    let y = with_units x i k u in
    let here : line_at job y p ≡ Buy i k u ∷ [] = ap (λ (n : ℕ). units_line i k n) (with_same (goods job) p u x) ∙ some_units i k u some in
    let before : lines_to p (line_at job y) ≡ lines_to p (line_at job x) = to_same p (line_at job y) (line_at job x)
    (λ q below. ap (λ (n : ℕ). units_line (q / goods job) (q % goods job) n) (with_other (goods job) p q u x (λ e. omega arith))) in
    let far : lines_to p (line_at job x) ≡ lines_to next (line_at job x) = to_far next p (line_at job x) order
    (λ q from below. no_units (q / goods job) (q % goods job) (x (q / goods job) (q % goods job)) (later q from)) in
    lines_to-more p (line_at job y) ∙ (ap (λ (ls : List TreeLine). ls ++ line_at job y p) (before ∙ far) ∙ ap (λ (ls : List TreeLine). lines_to next (line_at job x) ++ ls) here)

place_within : (s g i k : ℕ) → i < s → k < g → i * g + k + 1 ≤ s * g
place_within s g i k h j = let most : (i + 1) * g ≤ s * g = mul-le-mul_right g (let next : i + 1 ≤ s = omega arith in next) in omega (arith, most)

built_more : (job : Job) (plan : PlanSoFar) (lines : List TreeLine) (i k u : ℕ) → Built job plan lines → i < suppliers job → k < goods job → 1 ≤ u → plan.next ≤ place job i k
    → Built job (with_buy job plan i k u) (lines ++ Buy i k u ∷ [])
built_more job plan lines i k u built supplier good some order =
    let p = place job i k in
    let at_i : p / goods job ≡ i = div-mul-add i (goods job) k good in
    let at_k : p % goods job ≡ k = mod-mul-add i (goods job) k good in
    record {
      lines_are = sym (ap (λ (a : ℕ). lines_to (p + 1) (line_at job (with_units plan.bought a k u))) (sym at_i)
          ∙ (ap (λ (b : ℕ). lines_to (p + 1) (line_at job (with_units plan.bought (p / goods job) b u))) (sym at_k)
          ∙ (lines_more job plan.bought p plan.next u order some built.later
          ∙ (ap (λ (ls : List TreeLine). ls ++ Buy (p / goods job) (p % goods job) u ∷ []) (sym built.lines_are)
          ∙ (ap (λ (a : ℕ). lines ++ Buy a (p % goods job) u ∷ []) at_i ∙ ap (λ (b : ℕ). lines ++ Buy i b u ∷ []) at_k)))));
      later = λ q from.
          ap (λ (a : ℕ). with_units plan.bought a k u (q / goods job) (q % goods job)) (sym at_i)
          ∙ (ap (λ (b : ℕ). with_units plan.bought (p / goods job) b u (q / goods job) (q % goods job)) (sym at_k)
          ∙ (with_other (goods job) p q u plan.bought (λ e. omega arith) ∙ built.later q (omega arith)));
      within = place_within (suppliers job) (goods job) i k supplier good;
    }

built_all : (job : Job) (plan : PlanSoFar) (lines : List TreeLine) → Built job plan lines → lines ≡ buy_lines job plan.bought
built_all job plan lines built =
    built.lines_are ∙ (sym (to_far plan.next (suppliers job * goods job) (line_at job plan.bought) built.within
    (λ q from below. no_units (q / goods job) (q % goods job) (plan.bought (q / goods job) (q % goods job)) (built.later q from))) ∙ sym (buys_in_a_row job plan.bought))

-- what is bought, by the lines that are left of it, and what comes after them
pub record AreBuys (job : Job) (store : RowStore) (said left : ℕ) (before : List TreeLine) (text : Bytes) (best : Option ℕ) : Type 0 where
  pub x : Purchase
  pub more : List TreeLine
  pub rest : Bytes
  pub text_is : text ≡ lines_text more ++ rest
  pub lines_are : before ++ more ≡ buy_lines job x
  pub count : length more ≡ left
  pub costs : Costs job x said
  pub lines : ℕ
  pub whole : IsWholeAt job (reading lines [] (at_nodes store (Some said) (root_of job ∷ []))) rest best

right_cost : (job : Job) (store : RowStore) (said real : ℕ) (b : Bool) (next : Phase) → (said == real) ≡ b → judged job store said (IsFeasible real) ≡ Ok next → (said ≡ real) × (next ≡ at_nodes store (Some said) (root_of job ∷ []))
right_cost job store said real true next is e =
    let led = rw is at e in
    let same : at_nodes store (Some said) (root_of job ∷ []) ≡ next = cc in
    (eqb-true said real is, sym same)
right_cost job store said real false next is e = let led = rw is at e in absurd (cc)

judged_well : (job : Job) (store : RowStore) (x : Purchase) (said : ℕ) (s : Standing) (next : Phase) → standing_of job x ≡ s → judged job store said s ≡ Ok next → Costs job x said × (next ≡ at_nodes store (Some said) (root_of job ∷ []))
judged_well job store x said (IsFeasible real) next is e =
    let right = right_cost job store said real (said == real) next refl e in
    (feasible_from job x said (is ∙ ap IsFeasible (sym right.0)), right.1)
judged_well job store x said (Need good sum) next is e = absurd (cc)
judged_well job store x said (Stock i k) next is e = absurd (cc)
judged_well job store x said (Gap i units) next is e = absurd (cc)
judged_well job store x said (WinnersStanding number) next is e = absurd (cc)

none_left : (job : Job) (store : RowStore) (plan : PlanSoFar) (next : Phase) → plan.left ≡ 0 → when_bought job store plan ≡ Ok next → judged job store plan.cost (standing_of job plan.bought) ≡ Ok next
none_left job store plan next none e = let is : (plan.left == 0) ≡ true = eq-eqb plan.left 0 none in rw is at e

some_left : (job : Job) (store : RowStore) (plan : PlanSoFar) (next : Phase) → 1 ≤ plan.left → when_bought job store plan ≡ Ok next → next ≡ at_buys store plan
some_left job store plan next some e =
    let is : (plan.left == 0) ≡ false = ne_eqb plan.left 0 (λ h. omega arith) in
    let led = rw is at e in
    let same : at_buys store plan ≡ next = cc in
    sym same

-- a line of what is bought, where it led on
record IsBuyLine (job : Job) (store : RowStore) (plan : PlanSoFar) (line : TreeLine) (next : Phase) : Type 0 where
  i : ℕ
  k : ℕ
  u : ℕ
  line_is : line ≡ Buy i k u
  supplier : i < suppliers job
  good : k < goods job
  some : 1 ≤ u
  order : plan.next ≤ place job i k
  led : when_bought job store (with_buy job plan i k u) ≡ Ok next

buy_led : (job : Job) (line : ℕ) (store : RowStore) (plan : PlanSoFar) (i k u : ℕ) (next : Phase) (b : Bool) → is_next job plan.next i k u ≡ b → after_line job line (at_buys store plan) (Some (Buy i k u)) ≡ Ok next → IsBuyLine job store plan (Buy i k u) next
unfolding after_line
buy_led job line store plan i k u next false is e = let led = rw is at e in absurd (cc)
buy_led job line store plan i k u next true is e =
    let a = and_parts (ltb i (suppliers job) && ltb k (goods job) && leb 1 u && leb u QTY_MAX) (leb plan.next (place job i k)) is in
    let b = and_parts (ltb i (suppliers job) && ltb k (goods job) && leb 1 u) (leb u QTY_MAX) a.0 in
    let c = and_parts (ltb i (suppliers job) && ltb k (goods job)) (leb 1 u) b.0 in
    let d = and_parts (ltb i (suppliers job)) (ltb k (goods job)) c.0 in
    record {
      i = i;
      k = k;
      u = u;
      line_is = refl;
      supplier = ltb-true i (suppliers job) d.0;
      good = ltb-true k (goods job) d.1;
      some = leb-true 1 u c.1;
      order = leb-true plan.next (place job i k) a.1;
      led = rw is at e;
    }

buy_line_is : (job : Job) (n : ℕ) (store : RowStore) (plan : PlanSoFar) (line : TreeLine) (next : Phase) → after_line job n (at_buys store plan) (Some line) ≡ Ok next → IsBuyLine job store plan line next
unfolding after_line
buy_line_is job n store plan Header next e = absurd (cc)
buy_line_is job n store plan Header2 next e = absurd (cc)
buy_line_is job n store plan NoPlan next e = absurd (cc)
buy_line_is job n store plan (Plan cost count) next e = absurd (cc)
buy_line_is job n store plan (Buy i k u) next e = buy_led job n store plan i k u next (is_next job plan.next i k u) refl e
buy_line_is job n store plan (Split i s) next e = absurd (cc)
buy_line_is job n store plan (Row k prices) next e = absurd (cc)
buy_line_is job n store plan (Bound prices) next e = absurd (cc)
buy_line_is job n store plan (Empty prices) next e = absurd (cc)
buy_line_is job n store plan Winners next e = absurd (cc)

one_more : (job : Job) (store : RowStore) (said left : ℕ) (before : List TreeLine) (line : TreeLine) (text rest : Bytes) (best : Option ℕ) → text ≡ ended line ++ rest
    → AreBuys job store said left (before ++ line ∷ []) rest best → AreBuys job store said (suc left) before text best
one_more job store said left before line text rest best e buys = record {
  x = buys.x;
  more = line ∷ buys.more;
  rest = buys.rest;
  text_is = e ∙ (ap (λ (t : Bytes). ended line ++ t) buys.text_is ∙ (sym (append_assoc (ended line) (lines_text buys.more) buys.rest) ∙ ap (λ (t : Bytes). t ++ buys.rest) (sym (lines_first line buys.more))));
  lines_are = sym (append_assoc before (line ∷ []) buys.more) ∙ buys.lines_are;
  count = ap suc buys.count;
  costs = buys.costs;
  lines = buys.lines;
  whole = buys.whole;
}

pub buys_back : (left : ℕ) (job : Job) (store : RowStore) (n : ℕ) (plan : PlanSoFar) (before : List TreeLine) (text : Bytes) (best : Option ℕ) (phase : Phase) → plan.left ≡ left → Built job plan before
    → when_bought job store plan ≡ Ok phase → IsWholeAt job (reading n [] phase) text best → AreBuys job store plan.cost left before text best
buys_back zero job store n plan before text best phase none built led whole =
    let well = judged_well job store plan.bought plan.cost (standing_of job plan.bought) phase refl (none_left job store plan phase none led) in
    record {
      x = plan.bought;
      more = [];
      rest = text;
      text_is = ap (λ (t : Bytes). t ++ text) (sym lines_none);
      lines_are = append-nil before ∙ built_all job plan before built;
      count = refl;
      costs = well.0;
      lines = n;
      whole = subst (λ (p : Phase). IsWholeAt job (reading n [] p) text best) well.1 whole;
    }
buys_back (suc left) job store n plan before text best phase due built led whole =
    let at = some_left job store plan phase (omega arith) led in
    let next = next_line job n (at_buys store plan) text best refl (subst (λ (p : Phase). IsWholeAt job (reading n [] p) text best) at whole) in
    let buy = buy_line_is job (n + 1) store plan next.line next.next next.step in
    let fewer : plan.left - 1 ≡ left = omega arith in
    one_more job store plan.cost left before (Buy buy.i buy.k buy.u) text next.rest best (next.text_is ∙ ap (λ (l : TreeLine). ended l ++ next.rest) buy.line_is)
    (buys_back left job store (n + 1) (with_buy job plan buy.i buy.k buy.u) (before ++ Buy buy.i buy.k buy.u ∷ []) next.rest best next.next fewer
    (built_more job plan before buy.i buy.k buy.u built buy.supplier buy.good buy.some buy.order) buy.led next.whole)

-- the line of the plan, where it led on: without a purchase, or with one, whose lines follow
pub data IsPlanLine (job : Job) (store : RowStore) (line : TreeLine) (next : Phase) : Type 0 where
  no_plan_led : line ≡ NoPlan → next ≡ at_nodes store None (root_of job ∷ []) → IsPlanLine job store line next
  plan_led : (cost count : ℕ) → line ≡ Plan cost count → when_bought job store (first_plan cost count) ≡ Ok next → IsPlanLine job store line next

plan_led_by : (job : Job) (store : RowStore) (n cost count : ℕ) (next : Phase) (b : Bool) → nat_le count (suppliers job * goods job) ≡ b → after_line job n (at_plan store) (Some (Plan cost count)) ≡ Ok next → IsPlanLine job store (Plan cost count) next
unfolding after_line
plan_led_by job store n cost count next true is e = plan_led cost count refl (rw is at e)
plan_led_by job store n cost count next false is e = let led = rw is at e in absurd (cc)

pub plan_line_is : (job : Job) (store : RowStore) (n : ℕ) (line : TreeLine) (next : Phase) → after_line job n (at_plan store) (Some line) ≡ Ok next → IsPlanLine job store line next
unfolding after_line
plan_line_is job store n Header next e = absurd (cc)
plan_line_is job store n Header2 next e = absurd (cc)
plan_line_is job store n NoPlan next e = let same : at_nodes store None (root_of job ∷ []) ≡ next = cc in no_plan_led refl (sym same)
plan_line_is job store n (Plan cost count) next e = plan_led_by job store n cost count next (nat_le count (suppliers job * goods job)) refl e
plan_line_is job store n (Buy i k u) next e = absurd (cc)
plan_line_is job store n (Split i s) next e = absurd (cc)
plan_line_is job store n (Row k prices) next e = absurd (cc)
plan_line_is job store n (Bound prices) next e = absurd (cc)
plan_line_is job store n (Empty prices) next e = absurd (cc)
plan_line_is job store n Winners next e = absurd (cc)
