-- Reading what is bought, place by place.
use Rattle.std.proofs.Common.{ℕ, zero, suc, ◌≡◌, ◌≢◌, ◌+◌, ◌*◌, ◌-◌, ◌/◌, ◌%◌, ◌^◌, ◌<◌, ◌≤◌, ◌==◌, true, false, List, [], ◌∷◌, ◌++◌, length, Some, Ok, refl, ap, sym, ◌∙◌, subst, arith, append_assoc, length-append, append-nil, eq-eqb, inl, inr}
use Rattle.std.specs.Prelude.{ℤ, pos, nat_le, nat_lt, unsigned_abs}
use Rattle.std.proofs.lemmas.Bool.{cases_lt, cases_eq, lt-ltb, le-leb, ne_eqb}
use Rattle.std.proofs.lemmas.List.Elements.{All-cons}
use Rattle.tqd_base.specs.World.{Bytes}
use Rattle.tqd_base.specs.declared.limits.TheConstants.{QTY_MAX}
use Rattle.tqd_instance.specs.declared.job.Job.{Job}
use Rattle.tqd_instance.specs.Job.{goods, suppliers}
use Rattle.tqd_instance.specs.Purchase.{Purchase}
use Rattle.tqd_instance.specs.Feasible.{Feasible}
use Rattle.tqd_instance.proofs.Jobs.{job_in_range}
use Rattle.bound_tree.specs.declared.line.TreeLine.{TreeLine}
use Rattle.bound_tree.specs.declared.line.TreeLine.TheVariants.{Buy}
use Rattle.bound_tree.specs.LineText.{line_text}
use Rattle.bound_tree.specs.ReadLine.{read_line}
use Rattle.bound_tree.specs.TreeText.{lines_to, ended, lines_text}
use Rattle.bound_tree.proofs.TreeLines.{lines_append, lines_to-zero, lines_to-suc, lines_none, one_piece}
use Rattle.bound_tree.proofs.LineLaws.{counts_are_read}
use Rattle.tree_checker.specs.Verdict.{RowStore, PlanSoFar, Step, at_buys, place, nothing_bought, with_units, with_buy, is_next, when_bought, line_ended, after_line, after_bytes}
use Rattle.verdict_laws.proofs.OneLine.{line_step}
use Rattle.verdict_laws.proofs.TreeReads.{two_spelled}
use Rattle.verdict_laws.proofs.CostsBelow.{units_within}
use Rattle.verdict_laws.proofs.Places.{line_at, to_sum, HasPlace, has_place, other_place, no_units, some_units}

-- the plan before its first `buy` line
abbrev pub first_plan : ℕ → ℕ → PlanSoFar
first_plan cost count = record { cost = cost; left = count; next = 0; bought = nothing_bought }

-- the plan where the lines of the first p places have been read
pub record Passed (job : Job) (x : Purchase) (cost count p : ℕ) (plan : PlanSoFar) : Type 0 where
  pub cost_is : plan.cost ≡ cost
  pub left_is : plan.left + length (lines_to p (line_at job x)) ≡ count
  pub next_is : plan.next ≤ p
  pub same : (q : ℕ) → q < p → plan.bought (q / goods job) (q % goods job) ≡ x (q / goods job) (q % goods job)
  pub later : (q : ℕ) → p ≤ q → plan.bought (q / goods job) (q % goods job) ≡ 0

passed_none : (job : Job) (x : Purchase) (cost count : ℕ) → Passed job x cost count 0 (first_plan cost count)
passed_none job x cost count = record {
  cost_is = refl;
  left_is = let none = ap length (lines_to-zero (line_at job x)) in omega (arith, none);
  next_is = omega arith;
  same = λ q below. absurd (omega arith);
  later = λ q from. refl;
}

passed_empty : (job : Job) (x : Purchase) (cost count p : ℕ) (plan : PlanSoFar) → x (p / goods job) (p % goods job) ≡ 0 → lines_to (suc p) (line_at job x) ≡ lines_to p (line_at job x)
    → Passed job x cost count p plan → Passed job x cost count (suc p) plan
passed_empty job x cost count p plan none lines passed = record {
  cost_is = passed.cost_is;
  left_is = let e = ap length lines in omega (arith, e, passed.left_is);
  next_is = omega (arith, passed.next_is);
  same = λ q below. elim (cases_lt q p) [
    | inl before ↦ passed.same q before
    | inr here ↦ (let at : q ≡ p = omega arith in passed.later q (omega arith) ∙ sym (ap (λ (r : ℕ). x (r / goods job) (r % goods job)) at ∙ none))
  ];
  later = λ q from. passed.later q (omega arith);
}

pub with_other : (g p q u : ℕ) (y : Purchase) → q ≢ p → with_units y (p / g) (p % g) u (q / g) (q % g) ≡ y (q / g) (q % g)
with_other g p q u y other = rw (other_place g p q other) refl

pub with_same : (g p u : ℕ) (y : Purchase) → with_units y (p / g) (p % g) u (p / g) (p % g) ≡ u
with_same g p u y = let first = eq-eqb (p / g) (p / g) refl in let second = eq-eqb (p % g) (p % g) refl in rw (first, second) refl

passed_more : (job : Job) (x : Purchase) (cost count p : ℕ) (plan : PlanSoFar) → HasPlace (suppliers job) (goods job) p
    → length (lines_to (suc p) (line_at job x)) ≡ length (lines_to p (line_at job x)) + 1 → length (lines_to (suc p) (line_at job x)) ≤ count
    → Passed job x cost count p plan → Passed job x cost count (suc p) (with_buy job plan (p / goods job) (p % goods job) (x (p / goods job) (p % goods job)))
passed_more job x cost count p plan at lines within passed = record {
  cost_is = passed.cost_is;
  left_is = omega (arith, lines, passed.left_is);
  next_is = omega (arith, at.place);
  same = λ q below. elim (cases_eq q p) [
    | inl here ↦ (subst (λ (r : ℕ). with_units plan.bought (p / goods job) (p % goods job) (x (p / goods job) (p % goods job)) (r / goods job) (r % goods job) ≡ x (r / goods job) (r % goods job)) (sym here)
        (with_same (goods job) p (x (p / goods job) (p % goods job)) plan.bought))
    | inr other ↦ with_other (goods job) p q (x (p / goods job) (p % goods job)) plan.bought other ∙ passed.same q (omega arith)
  ];
  later = λ q from. with_other (goods job) p q (x (p / goods job) (p % goods job)) plan.bought (λ e. omega arith) ∙ passed.later q (omega arith);
}

next_fits : (job : Job) (next i k n : ℕ) → i < suppliers job → k < goods job → 1 ≤ n → n ≤ QTY_MAX → next ≤ place job i k → is_next job next i k n ≡ true
next_fits job next i k n supplier good some within order =
    let a : nat_lt i (suppliers job) ≡ true = lt-ltb _ _ supplier in
    let b : nat_lt k (goods job) ≡ true = lt-ltb _ _ good in
    let c : nat_le 1 n ≡ true = le-leb _ _ some in
    let d : nat_le n QTY_MAX ≡ true = le-leb _ _ within in
    let e : nat_le next (place job i k) ≡ true = le-leb _ _ order in
    rw (a, b, c, d, e) refl

buy_is_read : (job : Job) (i k n : ℕ) → i < suppliers job → k < goods job → n ≤ QTY_MAX → read_line (line_text (Buy i k n)) ≡ Some (Buy i k n)
buy_is_read job i k n supplier good within =
    let range = job_in_range job in
    let first : i < 10 ^ 23 = omega (arith, range.few_suppliers) in
    let second : k < 10 ^ 23 = omega (arith, range.few_goods) in
    let third : n < 10 ^ 23 = omega arith in
    counts_are_read (Buy i k n) (All-cons (λ (z : ℤ). unsigned_abs z < 10 ^ 23) (pos i) (pos k ∷ pos n ∷ []) first (two_spelled k n second third)) refl

buy_goes : (job : Job) (line : ℕ) (store : RowStore) (plan : PlanSoFar) (i k n : ℕ) → is_next job plan.next i k n ≡ true → after_line job line (at_buys store plan) (Some (Buy i k n)) ≡ when_bought job store (with_buy job plan i k n)
unfolding after_line
buy_goes job line store plan i k n is = rw is refl

buys_due : (job : Job) (store : RowStore) (plan : PlanSoFar) → 1 ≤ plan.left → when_bought job store plan ≡ Ok (at_buys store plan)
buys_due job store plan some = let is : (plan.left == 0) ≡ false = ne_eqb plan.left 0 (λ e. omega arith) in rw is refl

-- the lines of the first p places are read
pub record BuysRead (job : Job) (store : RowStore) (x : Purchase) (cost count n p : ℕ) (after : Bytes) : Type 0 where
  pub plan : PlanSoFar
  pub passed : Passed job x cost count p plan
  pub read : after_bytes job (line_ended n (when_bought job store (first_plan cost count))) (lines_text (lines_to p (line_at job x)) ++ after)
      ≡ after_bytes job (line_ended (n + length (lines_to p (line_at job x))) (when_bought job store plan)) after

-- the line of one place is read
one_read : (job : Job) (store : RowStore) (plan : PlanSoFar) (m i k n : ℕ) (after : Bytes) → 1 ≤ plan.left → i < suppliers job → k < goods job → 1 ≤ n → n ≤ QTY_MAX → plan.next ≤ place job i k
    → after_bytes job (line_ended m (when_bought job store plan)) (ended (Buy i k n) ++ after) ≡ after_bytes job (line_ended (m + 1) (when_bought job store (with_buy job plan i k n))) after
one_read job store plan m i k n after due supplier good some within order =
    ap (λ (s : Step). after_bytes job (line_ended m s) (ended (Buy i k n) ++ after)) (buys_due job store plan due)
    ∙ (line_step job m (at_buys store plan) (Buy i k n) after refl (buy_is_read job i k n supplier good within)
    ∙ ap (λ (s : Step). after_bytes job (line_ended (m + 1) s) after) (buy_goes job (m + 1) store plan i k n (next_fits job plan.next i k n supplier good some within order)))

text_more : (job : Job) (x : Purchase) (p : ℕ) (after : Bytes) → lines_text (lines_to (suc p) (line_at job x)) ++ after ≡ lines_text (lines_to p (line_at job x)) ++ (lines_text (line_at job x p) ++ after)
text_more job x p after =
    ap (λ (t : Bytes). t ++ after) (ap lines_text (lines_to-suc p (line_at job x)) ∙ lines_append (lines_to p (line_at job x)) (line_at job x p))
    ∙ append_assoc (lines_text (lines_to p (line_at job x))) (lines_text (line_at job x p)) after

-- the lines of fewer places are fewer
lines_within : (job : Job) (x : Purchase) (p r : ℕ) → length (lines_to p (line_at job x)) ≤ length (lines_to (p + r) (line_at job x))
lines_within job x p r = omega (arith, ap length (to_sum p r (line_at job x)) ∙ length-append (lines_to p (line_at job x)) (lines_to r (λ k. line_at job x (p + k))))

read_empty : (job : Job) (store : RowStore) (x : Purchase) (cost count n p : ℕ) (after : Bytes) → x (p / goods job) (p % goods job) ≡ 0
    → BuysRead job store x cost count n p (lines_text (line_at job x p) ++ after) → BuysRead job store x cost count n (suc p) after
read_empty job store x cost count n p after none before =
    let empty = no_units (p / goods job) (p % goods job) (x (p / goods job) (p % goods job)) none in
    let lines : lines_to (suc p) (line_at job x) ≡ lines_to p (line_at job x) = lines_to-suc p (line_at job x) ∙ (ap (λ (ls : List TreeLine). lines_to p (line_at job x) ++ ls) empty ∙ append-nil (lines_to p (line_at job x))) in
    let nothing : lines_text (line_at job x p) ≡ [] = ap lines_text empty ∙ lines_none in
    record {
      plan = before.plan;
      passed = passed_empty job x cost count p before.plan none lines before.passed;
      read = ap (λ (t : Bytes). after_bytes job (line_ended n (when_bought job store (first_plan cost count))) t) (text_more job x p after)
          ∙ (before.read ∙ (ap (λ (t : Bytes). after_bytes job (line_ended (n + length (lines_to p (line_at job x))) (when_bought job store before.plan)) (t ++ after)) nothing
          ∙ ap (λ (ls : List TreeLine). after_bytes job (line_ended (n + length ls) (when_bought job store before.plan)) after) (sym lines)));
    }

read_some : (job : Job) (store : RowStore) (x : Purchase) (cost count n p : ℕ) (after : Bytes) → Feasible job x → HasPlace (suppliers job) (goods job) p → length (lines_to (suc p) (line_at job x)) ≤ count
    → 1 ≤ x (p / goods job) (p % goods job) → BuysRead job store x cost count n p (lines_text (line_at job x p) ++ after) → BuysRead job store x cost count n (suc p) after
read_some job store x cost count n p after f at within some before =
    let i = p / goods job in
    let k = p % goods job in
    let line = some_units i k (x i k) some in
    let more : length (lines_to (suc p) (line_at job x)) ≡ length (lines_to p (line_at job x)) + 1 =
    omega (arith, ap length (lines_to-suc p (line_at job x)) ∙ length-append (lines_to p (line_at job x)) (line_at job x p), ap length line) in
    let text : lines_text (line_at job x p) ≡ ended (Buy i k (x i k)) = ap lines_text line ∙ one_piece (Buy i k (x i k)) in
    let m = n + length (lines_to p (line_at job x)) in
    let count_is : m + 1 ≡ n + length (lines_to (suc p) (line_at job x)) = omega (arith, more) in
    record {
      plan = with_buy job before.plan i k (x i k);
      passed = passed_more job x cost count p before.plan at more within before.passed;
      read = ap (λ (t : Bytes). after_bytes job (line_ended n (when_bought job store (first_plan cost count))) t) (text_more job x p after)
          ∙ (before.read ∙ (ap (λ (t : Bytes). after_bytes job (line_ended m (when_bought job store before.plan)) (t ++ after)) text
          ∙ (one_read job store before.plan m i k (x i k) after (omega (arith, before.passed.left_is, more)) at.supplier at.good some (units_within job x i k f at.supplier at.good) (omega (arith, before.passed.next_is, at.place))
          ∙ ap (λ (r : ℕ). after_bytes job (line_ended r (when_bought job store (with_buy job before.plan i k (x i k)))) after) count_is)));
    }

pub buys_read : (job : Job) (store : RowStore) (x : Purchase) (cost count n : ℕ) → Feasible job x → length (lines_to (suppliers job * goods job) (line_at job x)) ≤ count
    → (p : ℕ) → p ≤ suppliers job * goods job → (after : Bytes) → BuysRead job store x cost count n p after
buys_read job store x cost count n f all zero within after = record {
  plan = first_plan cost count;
  passed = passed_none job x cost count;
  read = let none = lines_to-zero (line_at job x) in
      let zero_is : n + length (lines_to 0 (line_at job x)) ≡ n = omega (arith, ap length none) in
      ap (λ (t : Bytes). after_bytes job (line_ended n (when_bought job store (first_plan cost count))) (t ++ after)) (ap lines_text none ∙ lines_none)
      ∙ ap (λ (r : ℕ). after_bytes job (line_ended r (when_bought job store (first_plan cost count))) after) (sym zero_is);
}
buys_read job store x cost count n f all (suc p) within after =
    let before = buys_read job store x cost count n f all p (omega arith) (lines_text (line_at job x p) ++ after) in
    let left = suppliers job * goods job - suc p in
    let joined : suc p + left ≡ suppliers job * goods job = omega arith in
    let fewer = lines_within job x (suc p) left in
    let most : length (lines_to (suc p) (line_at job x)) ≤ count = omega (arith, fewer, ap (λ (r : ℕ). length (lines_to r (line_at job x))) joined, all) in
    elim (cases_lt (x (p / goods job) (p % goods job)) 1) [
      | inl none ↦ read_empty job store x cost count n p after (omega arith) before
      | inr some ↦ read_some job store x cost count n p after f (has_place (suppliers job) (goods job) p within) most some before
    ]
