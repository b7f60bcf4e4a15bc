-- A purchase stands as its standing as a value says.
use Rattle.std.proofs.Common.{ℕ, zero, suc, ltb, ◌≡◌, ◌<◌, ◌≤◌, ◌||◌, ◌⊎◌, not, Bool, true, false, Option, Some, None, IsSome, if◌then◌else◌, refl, ap, sym, ◌∙◌, subst, arith, inl, inr}
use Rattle.std.specs.Prelude.{is_some}
use Rattle.std.proofs.lemmas.Bool.{cases_lt, ltb-false, ltb-true, or_parts, or_cases}
use Rattle.tqd_instance.specs.declared.job.Job.{Job}
use Rattle.tqd_instance.specs.declared.standing.Standing.{Standing}
use Rattle.tqd_instance.specs.declared.standing.Standing.TheVariants.{Feasible as IsFeasible, Winners}
use Rattle.tqd_instance.specs.Job.{goods, suppliers, need, most, stock, pick, least_winners, most_winners}
use Rattle.tqd_instance.specs.Purchase.{Purchase, total, bought, winners}
use Rattle.tqd_instance.specs.Feasible.{MeetsNeed, MeetsNeeds, MeetsStocks, HasPicks}
use Rattle.tqd_instance.specs.Cost.{cost}
use Rattle.tqd_instance.specs.Standing.{Costs, Stands}
use Rattle.tree_checker.specs.Standing.{or_else, first_to, fails_need, fails_stock, over_stock, fails_pick, fails_winners, by_winners, by_pick, by_stock_of, by_stock, by_need, standing_of}
use Rattle.tree_checker.proofs.FirstTo.{first_to-below}

parts_none : (o p : Option ℕ) → or_else o p ≡ None → (o ≡ None) × (p ≡ None)
parts_none None p e = (refl, e)
parts_none (Some a) p e = absurd (cc)

test_none : (b : Bool) (n : ℕ) → (if b then Some n else None) ≡ None → b ≡ false
test_none true n e = absurd (cc)
test_none false n e = refl

-- where no number below n passes a test, each fails it
none_passes : (n : ℕ) (test : ℕ → Bool) → first_to n test ≡ None → (k : ℕ) → k < n → test k ≡ false
unfolding first_to
none_passes zero test e k below = absurd (omega arith)
none_passes (suc n) test e k below =
    let parts = parts_none (first_to n test) (if test n then Some n else None) e in
    elim (cases_lt k n) [
      | inl before ↦ none_passes n test parts.0 k before
      | inr here ↦ (let same : k ≡ n = omega arith in ap test same ∙ test_none (test n) n parts.1)
    ]

-- the first number that passes a test, and all before it fail
IsFirst : (ℕ → Bool) → ℕ → Type 0
IsFirst test k = (test k ≡ true) × ((j : ℕ) → j < k → test j ≡ false)

found_at : (n : ℕ) (test : ℕ → Bool) (k : ℕ) (o : Option ℕ) (b : Bool) → first_to n test ≡ o → test n ≡ b → or_else o (if b then Some n else None) ≡ Some k
    → (o ≡ Some k → IsFirst test k) → IsFirst test k
unfolding IsFirst
found_at n test k (Some a) b before is e earlier = let same : Some a ≡ Some k = e in earlier same
found_at n test k None true before is e earlier =
    let same : n ≡ k = cc in
    subst (IsFirst test) same (is, λ j less. none_passes n test before j less)
found_at n test k None false before is e earlier = absurd (cc)

found : (n : ℕ) (test : ℕ → Bool) (k : ℕ) → first_to n test ≡ Some k → IsFirst test k
unfolding first_to
found zero test k e = absurd (cc)
found (suc n) test k e = found_at n test k (first_to n test) (test n) refl refl e (λ h. found n test k h)

passes : (test : ℕ → Bool) (k : ℕ) → IsFirst test k → test k ≡ true
unfolding IsFirst
passes test k first = first.0

fails : (test : ℕ → Bool) (k : ℕ) → IsFirst test k → (j : ℕ) → j < k → test j ≡ false
unfolding IsFirst
fails test k first = first.1

within : (a least most : ℕ) → (ltb a least || ltb most a) ≡ false → (least ≤ a) × (a ≤ most)
within a least most e = let parts = or_parts (ltb a least) (ltb most a) e in (ltb-false a least parts.0, ltb-false most a parts.1)

outside : (a least most : ℕ) → (ltb a least || ltb most a) ≡ true → (a < least) ⊎ (most < a)
outside a least most e = elim (or_cases (ltb a least) (ltb most a) e) [
  | inl less ↦ inl (ltb-true a least less)
  | inr more ↦ inr (ltb-true most a more)
]

need_met : (job : Job) (x : Purchase) (k : ℕ) → fails_need job x k ≡ false → MeetsNeed job x k
need_met job x k e = let is = within (bought job x k) (need job k) (most job k) e in record { enough = is.0; not_more = is.1 }

needs_met : (job : Job) (x : Purchase) → first_to (goods job) (fails_need job x) ≡ None → MeetsNeeds job x
needs_met job x e k good = need_met job x k (none_passes (goods job) (fails_need job x) e k good)

no_number : (o : Option ℕ) → is_some o ≡ false → o ≡ None
no_number None e = refl
no_number (Some a) e = absurd (cc)

some_number : (o : Option ℕ) → not (is_some o) ≡ false → IsSome o
some_number None e = absurd (cc)
some_number (Some a) e = refl

missing_number : (o : Option ℕ) → not (is_some o) ≡ true → o ≡ None
missing_number None e = refl
missing_number (Some a) e = absurd (cc)

-- a supplier of which no good is over its stock
stock_met : (job : Job) (x : Purchase) (i : ℕ) → is_some (over_stock job x i) ≡ false → (k : ℕ) → k < goods job → x i k ≤ stock job i k
stock_met job x i e k good = ltb-false (stock job i k) (x i k) (none_passes (goods job) (fails_stock job x i) (no_number (over_stock job x i) e) k good)

stocks_met : (job : Job) (x : Purchase) → first_to (suppliers job) (λ i. is_some (over_stock job x i)) ≡ None → MeetsStocks job x
stocks_met job x e i k supplier good = stock_met job x i (none_passes (suppliers job) (λ j. is_some (over_stock job x j)) e i supplier) k good

picks_met : (job : Job) (x : Purchase) → first_to (suppliers job) (fails_pick job x) ≡ None → HasPicks job x
picks_met job x e i supplier = some_number (pick job i (total job x i)) (none_passes (suppliers job) (fails_pick job x) e i supplier)

by_winners_stands : (job : Job) (x : Purchase) (b : Bool) → MeetsNeeds job x → MeetsStocks job x → HasPicks job x → fails_winners job x ≡ b
    → Stands job x (if b then Winners (winners job x) else IsFeasible (cost job x))
by_winners_stands job x true needs stocks picks e = record {
  needs = needs;
  stocks = stocks;
  picks = picks;
  is_number = refl;
  fails = outside (winners job x) (least_winners job) (most_winners job) e;
}
by_winners_stands job x false needs stocks picks e =
    let number = within (winners job x) (least_winners job) (most_winners job) e in
    record {
      feasible = record { needs = needs; stocks = stocks; picks = picks; winners = record { enough = number.0; not_more = number.1 } };
      is_cost = refl;
    }

by_pick_stands : (job : Job) (x : Purchase) (o : Option ℕ) → MeetsNeeds job x → MeetsStocks job x → first_to (suppliers job) (fails_pick job x) ≡ o → Stands job x (by_pick job x o)
by_pick_stands job x None needs stocks e = by_winners_stands job x (fails_winners job x) needs stocks (picks_met job x e) refl
by_pick_stands job x (Some i) needs stocks e =
    let first = found (suppliers job) (fails_pick job x) i e in
    record {
      needs = needs;
      stocks = stocks;
      in_range = first_to-below (suppliers job) (fails_pick job x) i e;
      is_total = refl;
      fails = missing_number (pick job i (total job x i)) (passes (fails_pick job x) i first);
      first = λ j less. some_number (pick job j (total job x j)) (fails (fails_pick job x) i first j less);
    }

by_stock_of_stands : (job : Job) (x : Purchase) (i : ℕ) (o : Option ℕ) (other : Standing) → MeetsNeeds job x → i < suppliers job → is_some o ≡ true → over_stock job x i ≡ o
    → ((j k : ℕ) → j < i → k < goods job → x j k ≤ stock job j k) → Stands job x (by_stock_of i o other)
by_stock_of_stands job x i None other needs supplier some e before = absurd (cc)
by_stock_of_stands job x i (Some k) other needs supplier some e before =
    let first = found (goods job) (fails_stock job x i) k e in
    record {
      needs = needs;
      supplier_in_range = supplier;
      good_in_range = first_to-below (goods job) (fails_stock job x i) k e;
      fails = ltb-true (stock job i k) (x i k) (passes (fails_stock job x i) k first);
      first_supplier = before;
      first_good = λ j less. ltb-false (stock job i j) (x i j) (fails (fails_stock job x i) k first j less);
    }

by_stock_stands : (job : Job) (x : Purchase) (o : Option ℕ) → MeetsNeeds job x → first_to (suppliers job) (λ i. is_some (over_stock job x i)) ≡ o → Stands job x (by_stock job x o)
by_stock_stands job x None needs e = by_pick_stands job x (first_to (suppliers job) (fails_pick job x)) needs (stocks_met job x e) refl
by_stock_stands job x (Some i) needs e =
    let over = λ (j : ℕ). is_some (over_stock job x j) in
    let first = found (suppliers job) over i e in
    by_stock_of_stands job x i (over_stock job x i) (by_winners job x) needs (first_to-below (suppliers job) over i e) (passes over i first) refl
    (λ j k less good. stock_met job x j (fails over i first j less) k good)

by_need_stands : (job : Job) (x : Purchase) (o : Option ℕ) → first_to (goods job) (fails_need job x) ≡ o → Stands job x (by_need job x o)
by_need_stands job x None e = by_stock_stands job x (first_to (suppliers job) (λ i. is_some (over_stock job x i))) (needs_met job x e) refl
by_need_stands job x (Some k) e =
    let first = found (goods job) (fails_need job x) k e in
    record {
      in_range = first_to-below (goods job) (fails_need job x) k e;
      is_sum = refl;
      fails = outside (bought job x k) (need job k) (most job k) (passes (fails_need job x) k first);
      first = λ j less. need_met job x j (fails (fails_need job x) k first j less);
    }

-- a purchase stands as its value says
pub stands_as : (job : Job) (x : Purchase) (s : Standing) → s ≡ standing_of job x → Stands job x s
unfolding standing_of
stands_as job x s e = subst (Stands job x) (sym e) (by_need_stands job x (first_to (goods job) (fails_need job x)) refl)

pub feasible_from : (job : Job) (x : Purchase) (c : ℕ) → standing_of job x ≡ IsFeasible c → Costs job x c
feasible_from job x c e = stands_as job x (IsFeasible c) (sym e)
