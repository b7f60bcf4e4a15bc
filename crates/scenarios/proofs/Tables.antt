-- A greater number of winners is no dearer.
use Rattle.std.proofs.Common.{ℕ, ◌≡◌, ◌+◌, ◌≤◌, ◌<◌, List, length, get_or, Option, Some, None, arith, refl, sym, subst, ◌∙◌}
use Rattle.std.specs.Prelude.{Result, Ok, Err}
use Rattle.std.specs.Result.{IfOk}
use Rattle.tqd_instance.specs.declared.job.Job.{Job}
use Rattle.tqd_instance.specs.Job.{goods, suppliers, segments, least_winners}
use Rattle.tqd_instance.specs.Same.{IsSameGood, IsSameSegment, IsSameSupplier}
use Rattle.tqd_instance.specs.Change.{HasMostWinners}
use Rattle.tqd_instance.specs.Optimum.{IsOptimum, IsLeastCost, IsNoDearer, IsCheaperSegment, IsCheaperSupplier, IsCheaper}
use Rattle.tqd_instance.proofs.Cheaper.{cheaper_no_dearer, least_no_higher}
use Rattle.scenarios.specs.Costs.{table_size, AreCosts, IsCostOf, IsTableCost, IsWinnerTable}

same_segment : (job a b : Job) (i j : ℕ) → goods a ≡ goods job → IsSameSegment job a i j → IsSameSegment job b i j → IsCheaperSegment a b i j
same_segment job a b i j as_many x y = record {
  same_low = y.same_low ∙ sym x.same_low;
  same_high = y.same_high ∙ sym x.same_high;
  prices = λ k below. let k_in : k < goods job = omega arith in omega (arith, x.same_prices k k_in, y.same_prices k k_in);
}

same_supplier : (job a b : Job) (i : ℕ) → goods a ≡ goods job → IsSameSupplier job a i → IsSameSupplier job b i → IsCheaperSupplier a b i
same_supplier job a b i as_many x y = record {
  fee = omega (arith, x.same_fee, y.same_fee);
  same_stocks = λ k below. let k_in : k < goods job = omega arith in y.same_stocks k k_in ∙ sym (x.same_stocks k k_in);
  as_many_segments = y.as_many_segments ∙ sym x.as_many_segments;
  each_segment = λ j some within.
      let j_in : j ≤ segments job i = omega (arith, x.as_many_segments) in
      same_segment job a b i j as_many (x.each_segment j some j_in) (y.each_segment j some j_in);
}

same_good : (job a b : Job) (k : ℕ) → IsSameGood job a k → IsSameGood job b k → IsSameGood a b k
same_good job a b k x y = record { same_need = y.same_need ∙ sym x.same_need; same_most = y.same_most ∙ sym x.same_most }

more_winners_cheaper : (job a b : Job) (m n : ℕ) → m ≤ n → HasMostWinners m job a → HasMostWinners n job b → IsCheaper a b
more_winners_cheaper job a b m n le x y = record {
  as_many_goods = y.as_many_goods ∙ sym x.as_many_goods;
  as_many_suppliers = y.as_many_suppliers ∙ sym x.as_many_suppliers;
  each_good = λ k below. let k_in : k < goods job = omega (arith, x.as_many_goods) in same_good job a b k (x.each_good k k_in) (y.each_good k k_in);
  each_supplier = λ i below. let i_in : i < suppliers job = omega (arith, x.as_many_suppliers) in
      same_supplier job a b i x.as_many_goods (x.each_supplier i i_in) (y.each_supplier i i_in);
  least_winners = omega (arith, x.same_least_winners, y.same_least_winners);
  most_winners = omega (arith, x.most_winners, y.most_winners);
}

pub more_winners_no_dearer : (job a b : Job) (m n : ℕ) → m ≤ n → HasMostWinners m job a → HasMostWinners n job b → IsNoDearer a b
more_winners_no_dearer job a b m n le x y = cheaper_no_dearer a b (more_winners_cheaper job a b m n le x y)

-- the least costs of two jobs of which the second is no dearer
no_higher : (a b : Job) (c : ℕ) (o : Option ℕ) → IsNoDearer a b → IsLeastCost a c → IsOptimum b o → (d : ℕ) × ((o ≡ Some d) × (d ≤ c))
no_higher a b c (Some d) no_dearer of_a of_b = (d, (refl, least_no_higher a b no_dearer c d of_a of_b))
no_higher a b c None no_dearer of_a of_b = absurd (of_b of_a.0 (no_dearer of_a.0 of_a.1.0.feasible).feasible)

-- an entry of a table that has a cost
with_cost : (job : Job) (at c : ℕ) (o : Option ℕ) → o ≡ Some c → IsTableCost job at o → (a : Job) × (HasMostWinners (least_winners job + at) job a × IsLeastCost a c)
with_cost job at c o is entry = (entry.0, (entry.1.0, subst (λ (p : Option ℕ). IsOptimum entry.0 p) is entry.1.1))

pub table_never_rises : (job : Job) (costs : List (Option ℕ)) → IsWinnerTable job costs → (p q c : ℕ) → p ≤ q → q < table_size job
    → get_or costs p None ≡ Some c → (d : ℕ) × ((get_or costs q None ≡ Some d) × (d ≤ c))
table_never_rises job costs table p q c le within is =
    let x = with_cost job p c (get_or costs p None) is (table.each p (omega arith)) in
    let y = table.each q within in
    no_higher x.0 y.0 c (get_or costs q None)
    (more_winners_no_dearer job x.0 y.0 (least_winners job + p) (least_winners job + q) (omega arith) x.1.0 y.1.0) x.1.1 y.1.1

-- the same costs, as the list that is handed out
pub are_costs : (jobs : List Job) (items costs : List (Option ℕ)) → costs ≡ items → length items ≡ length jobs
    → ((at : ℕ) → at < length jobs → IsCostOf jobs at (get_or items at None)) → AreCosts jobs costs
are_costs jobs items costs same count each = rw same (record { as_many = count; each = each })

pub is_winner_table : (job : Job) (items costs : List (Option ℕ)) → costs ≡ items → length items ≡ table_size job
    → ((at : ℕ) → at < table_size job → IsTableCost job at (get_or items at None)) → IsWinnerTable job costs
is_winner_table job items costs same count each = rw same (record { size = count; each = each })

-- the least cost of the job of an entry, where one was found
pub entry_found : {E : Type 0} (job b : Job) (at most : ℕ) (found : Result (Option ℕ) E) → most ≡ least_winners job + at → HasMostWinners most job b
    → IfOk found (IsOptimum b) → IfOk found (IsTableCost job at)
entry_found job b at most (Ok cost) is has optimum = (b, (subst (λ m. HasMostWinners m job b) is has, optimum))
entry_found job b at most (Err memory) is has optimum = tt
