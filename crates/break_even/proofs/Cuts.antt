-- A greater cut of a supplier's prices leaves a job that is no dearer.
use Rattle.std.proofs.Common.{ℕ, ◌≡◌, ◌*◌, ◌-◌, ◌/◌, ◌<◌, ◌≤◌, arith, sym, ◌∙◌, subst, Option, Some, None, inl, inr}
use Rattle.std.specs.Option.{MatchOption}
use Rattle.std.proofs.Math.Nat.{mul-le-mul_left}
use Rattle.std.proofs.lemmas.Bool.{cases_eq}
use Rattle.tqd_instance.specs.declared.job.Job.{Job}
use Rattle.tqd_instance.specs.Job.{goods, suppliers, segments, price}
use Rattle.tqd_instance.specs.Same.{IsSameGood, IsSameSegment, IsSameSupplier}
use Rattle.tqd_instance.specs.Change.{cut_price, IsCutSegment, IsCutSupplier, HasCutPrices}
use Rattle.tqd_instance.specs.Optimum.{IsLeastCost, IsOptimum, IsNoDearer, IsCheaperSegment, IsCheaperSupplier, IsCheaper}
use Rattle.break_even.specs.LeastCut.{CostsAtLeast, Gains, GainsNothing, NoneGainsTo}
use Rattle.tqd_instance.proofs.Cheaper.{cheaper_no_dearer, least_no_higher}

-- a greater cut leaves no higher price
cut_price-falls : (c d p : ℕ) → c ≤ d → cut_price d p ≤ cut_price c p
unfolding cut_price
cut_price-falls c d p le = divided (p * (1000 - d)) (p * (1000 - c)) (mul-le-mul_left p (omega arith))
  where
    divided : (m n : ℕ) → m ≤ n → m / 1000 ≤ n / 1000
    divided m n le = omega arith

cheaper_segment : (job a b : Job) (i j c d : ℕ) → c ≤ d → goods a ≡ goods job → IsCutSegment c job a i j → IsCutSegment d job b i j → IsCheaperSegment a b i j
cheaper_segment job a b i j c d le as_many x y = record {
  same_low = y.same_low ∙ sym x.same_low;
  same_high = y.same_high ∙ sym x.same_high;
  prices = λ k below.
      let k_in : k < goods job = omega arith in
      omega (arith, x.cut_prices k k_in, y.cut_prices k k_in, cut_price-falls c d (price job i j k) le);
}

cheaper_supplier : (job a b : Job) (i c d : ℕ) → c ≤ d → goods a ≡ goods job → IsCutSupplier c job a i → IsCutSupplier d job b i → IsCheaperSupplier a b i
cheaper_supplier job a b i c d le as_many x y = record {
  fee = omega (arith, x.same_fee, y.same_fee);
  same_stocks = λ k below. let k_in : k < goods job = omega arith in y.same_stocks k k_in ∙ sym (x.same_stocks k k_in);
  as_many_segments = y.as_many_segments ∙ sym x.as_many_segments;
  each_segment = λ j some within.
      let j_in : j ≤ segments job i = omega (arith, x.as_many_segments) in
      cheaper_segment job a b i j c d le as_many (x.each_segment j some j_in) (y.each_segment j some j_in);
}

-- a supplier that is not cut
other_segment : (job a b : Job) (i j : ℕ) → goods a ≡ goods job → IsSameSegment job a i j → IsSameSegment job b i j → IsCheaperSegment a b i j
other_segment job a b i j as_many x y = record {
  same_low = y.same_low ∙ sym x.same_low;
  same_high = y.same_high ∙ sym x.same_high;
  prices = λ k below. let k_in : k < goods job = omega arith in omega (arith, x.same_prices k k_in, y.same_prices k k_in);
}

other_supplier : (job a b : Job) (i : ℕ) → goods a ≡ goods job → IsSameSupplier job a i → IsSameSupplier job b i → IsCheaperSupplier a b i
other_supplier job a b i as_many x y = record {
  fee = omega (arith, x.same_fee, y.same_fee);
  same_stocks = λ k below. let k_in : k < goods job = omega arith in y.same_stocks k k_in ∙ sym (x.same_stocks k k_in);
  as_many_segments = y.as_many_segments ∙ sym x.as_many_segments;
  each_segment = λ j some within.
      let j_in : j ≤ segments job i = omega (arith, x.as_many_segments) in
      other_segment job a b i j as_many (x.each_segment j some j_in) (y.each_segment j some j_in);
}

-- each supplier of the two jobs, the one that is cut and the others
each_cheaper : (job a b : Job) (i c d n : ℕ) → c ≤ d → HasCutPrices i c job a → HasCutPrices i d job b → n < suppliers job → IsCheaperSupplier a b n
each_cheaper job a b i c d n le x y known = elim (cases_eq n i) [
  | inl same ↦ subst (λ m. IsCheaperSupplier a b m) (sym same) (cheaper_supplier job a b i c d le x.as_many_goods x.cut_supplier y.cut_supplier)
  | inr other ↦ other_supplier job a b n x.as_many_goods (x.other_suppliers n known other) (y.other_suppliers n known other)
]

same_good : (job a b : Job) (k : ℕ) → IsSameGood job a k → IsSameGood job b k → IsSameGood a b k
same_good job a b k x y = record { same_need = y.same_need ∙ sym x.same_need; same_most = y.same_most ∙ sym x.same_most }

greater_cut_cheaper : (job a b : Job) (i c d : ℕ) → c ≤ d → HasCutPrices i c job a → HasCutPrices i d job b → IsCheaper a b
greater_cut_cheaper job a b i c d le x y = record {
  as_many_goods = y.as_many_goods ∙ sym x.as_many_goods;
  as_many_suppliers = y.as_many_suppliers ∙ sym x.as_many_suppliers;
  each_good = λ k below. let k_in : k < goods job = omega (arith, x.as_many_goods) in same_good job a b k (x.each_good k k_in) (y.each_good k k_in);
  each_supplier = λ n below. each_cheaper job a b i c d n le x y (omega (arith, x.as_many_suppliers));
  least_winners = omega (arith, x.same_least_winners, y.same_least_winners);
  most_winners = omega (arith, x.same_most_winners, y.same_most_winners);
}

pub greater_cut_no_dearer : (job a b : Job) (i c d : ℕ) → c ≤ d → HasCutPrices i c job a → HasCutPrices i d job b → IsNoDearer a b
greater_cut_no_dearer job a b i c d le x y = cheaper_no_dearer a b (greater_cut_cheaper job a b i c d le x y)

pub costs_never_rise : (job a b : Job) (i c d : ℕ) → c ≤ d → HasCutPrices i c job a → HasCutPrices i d job b → (m n : ℕ) → IsLeastCost a m → IsLeastCost b n → n ≤ m
costs_never_rise job a b i c d le x y = least_no_higher a b (greater_cut_no_dearer job a b i c d le x y)

-- where a cut gains nothing, no lower one does
pub none_gains : (job : Job) (i before cut : ℕ) → GainsNothing job i before cut → NoneGainsTo job i before cut
none_gains job i before cut nothing = λ d some within b has x f.
    let n = greater_cut_no_dearer job b nothing.0 i d cut within has nothing.1.0 x f in
    omega (arith, nothing.1.1 x n.feasible, n.cost)

-- the least cost of the job with cut prices is lower than before
pub gains_from : (job b : Job) (i before cut after : ℕ) (o : Option ℕ) → HasCutPrices i cut job b → IsOptimum b o → o ≡ Some after → after < before
    → Gains job i before cut after
gains_from job b i before cut after o has optimum is lower = record {
  costs = (b, (has, subst (λ (p : Option ℕ). IsOptimum b p) is optimum));
  lower = lower;
}

-- it is not lower, or there is none
pub nothing_from_cost : (job b : Job) (i before cut after : ℕ) (o : Option ℕ) → HasCutPrices i cut job b → IsOptimum b o → o ≡ Some after → before ≤ after
    → GainsNothing job i before cut
nothing_from_cost job b i before cut after o has optimum is no_lower =
    (b, (has, at_least b before after (subst (λ (p : Option ℕ). IsOptimum b p) is optimum) no_lower))
  where
    at_least : (b : Job) (before after : ℕ) → IsLeastCost b after → before ≤ after → CostsAtLeast before b
    at_least b before after least le x feasible = omega (arith, least.1.0.least x feasible, least.1.1)

pub nothing_from_none : (job b : Job) (i before cut : ℕ) (o : Option ℕ) → HasCutPrices i cut job b → IsOptimum b o → o ≡ None → GainsNothing job i before cut
nothing_from_none job b i before cut o has optimum is =
    (b, (has, λ x feasible. absurd (subst (λ (p : Option ℕ). IsOptimum b p) is optimum x feasible)))

-- what was found, where it is none
pub none_found : (job : Job) (i before cut : ℕ) (o : Option ℕ) → MatchOption o (GainsNothing job i before cut) (Gains job i before cut) → o ≡ None
    → NoneGainsTo job i before cut
none_found job i before cut o found is =
    none_gains job i before cut (subst (λ (p : Option ℕ). MatchOption p (GainsNothing job i before cut) (Gains job i before cut)) is found)

pub least_found : (job : Job) (o : Option ℕ) (c : ℕ) → IsOptimum job o → o ≡ Some c → IsLeastCost job c
least_found job o c optimum is = subst (λ (p : Option ℕ). IsOptimum job p) is optimum
