-- A purchase of a job is one of a cheaper job, and costs no more there.
use Rattle.std.proofs.Common.{ℕ, suc, zero, ◌≡◌, ◌+◌, ◌*◌, ◌<◌, ◌≤◌, ◌==◌, cond, Bool, true, false, Option, Some, None, unwrap_or, arith, refl, ap, ◌∙◌, sym}
use Rattle.std.specs.Prelude.{IsSome}
use Rattle.std.proofs.Math.Nat.{mul-le-mul_left}
use Rattle.std.proofs.lemmas.Bool.{false≢true}
use Rattle.tqd_base.specs.Sum.{sum_to}
use Rattle.tqd_instance.specs.declared.job.Job.{Job}
use Rattle.tqd_instance.specs.Job.{goods, suppliers, stock, segments, low, high, price, fee, pick}
use Rattle.tqd_instance.specs.Picks.{LiesIn}
use Rattle.tqd_instance.specs.Purchase.{Purchase, total, bought, wins, winners}
use Rattle.tqd_instance.specs.Feasible.{Feasible, MeetsNeed}
use Rattle.tqd_instance.specs.Cost.{selected, goods_cost, fee_cost, cost}
use Rattle.tqd_instance.specs.Optimum.{IsLeastCost, IsNoDearer, IsCheaper}
use Rattle.tqd_instance.proofs.Jobs.{job_in_range}
use Rattle.tqd_instance.proofs.Picks.{picks_where_it_lies}
use Rattle.tqd_instance.proofs.SumLemmas.{sum_to-same, sum_to-le}

-- the ends of a segment, those of segment 0 too
same_ends : (a b : Job) (i j : ℕ) → IsCheaper a b → i < suppliers a → j ≤ segments a i → (low b i j ≡ low a i j) × (high b i j ≡ high a i j)
same_ends a b i zero c known within =
    let x = (job_in_range a).each_supplier i known in
    let y = (job_in_range b).each_supplier i (omega (arith, c.as_many_suppliers)) in
    (y.nothing_low ∙ sym x.nothing_low, y.nothing_high ∙ sym x.nothing_high)
same_ends a b i (suc j) c known within =
    let e = (c.each_supplier i known).each_segment (suc j) (omega arith) within in
    (e.same_low, e.same_high)

-- a total lies in the same segments
lies_too : (a b : Job) (i j t : ℕ) → IsCheaper a b → i < suppliers a → LiesIn a i j t → LiesIn b i j t
lies_too a b i j t c known l =
    let ends = same_ends a b i j c known l.segment in
    record {
      segment = let s = (c.each_supplier i known).as_many_segments in let w = l.segment in omega arith;
      from_low = omega (arith, ends.0, l.from_low);
      to_high = omega (arith, ends.1, l.to_high);
    }

-- so it selects the same segment
picks_too : (a b : Job) (i t j : ℕ) → IsCheaper a b → i < suppliers a → pick a i t ≡ Some j → pick b i t ≡ Some j
picks_too a b i t j c known is =
    let l = ((picks_where_it_lies a i t known).some j).0 is in
    ((picks_where_it_lies b i t (omega (arith, c.as_many_suppliers))).some j).1 (lies_too a b i j t c known l)

same_pick : (a b : Job) (i t : ℕ) → IsCheaper a b → i < suppliers a → IsSome (pick a i t) → pick b i t ≡ pick a i t
same_pick a b i t c known some = by_case a b i t c known (pick a i t) refl some
  where
    by_case : (a b : Job) (i t : ℕ) → IsCheaper a b → i < suppliers a → (o : Option ℕ) → pick a i t ≡ o → IsSome o → pick b i t ≡ pick a i t
    by_case a b i t c known (Some j) is some = picks_too a b i t j c known is ∙ sym is
    by_case a b i t c known None is some = absurd (false≢true some)

same_total : (a b : Job) (x : Purchase) (i : ℕ) → IsCheaper a b → total b x i ≡ total a x i
unfolding total
same_total a b x i c = ap (λ n. sum_to n (x i)) c.as_many_goods

same_bought : (a b : Job) (x : Purchase) (k : ℕ) → IsCheaper a b → bought b x k ≡ bought a x k
unfolding bought
same_bought a b x k c = ap (λ n. sum_to n (λ i. x i k)) c.as_many_suppliers

same_wins : (a b : Job) (x : Purchase) (i : ℕ) → IsCheaper a b → wins b x i ≡ wins a x i
unfolding wins
same_wins a b x i c = ap (λ t. cond (t == 0) 0 1) (same_total a b x i c)

same_winners : (a b : Job) (x : Purchase) → IsCheaper a b → winners b x ≡ winners a x
unfolding winners
same_winners a b x c = ap (λ n. sum_to n (wins b x)) c.as_many_suppliers ∙ sum_to-same (suppliers a) (wins b x) (wins a x) (λ i below. same_wins a b x i c)

feasible_too : (a b : Job) (x : Purchase) → IsCheaper a b → Feasible a x → Feasible b x
feasible_too a b x c f = record {
  needs = λ k below. meets_need a b x k c (omega (arith, c.as_many_goods)) (f.needs k (omega (arith, c.as_many_goods)));
  stocks = λ i k known below. stocked a b x i k c (omega (arith, c.as_many_suppliers)) (omega (arith, c.as_many_goods))
      (f.stocks i k (omega (arith, c.as_many_suppliers)) (omega (arith, c.as_many_goods)));
  picks = λ i known. picked a b x i c (omega (arith, c.as_many_suppliers)) (f.picks i (omega (arith, c.as_many_suppliers)));
  winners = record {
    enough = omega (arith, same_winners a b x c, c.least_winners, f.winners.enough);
    not_more = omega (arith, same_winners a b x c, c.most_winners, f.winners.not_more);
  };
}
  where
    meets_need : (a b : Job) (x : Purchase) (k : ℕ) → IsCheaper a b → k < goods a → MeetsNeed a x k → MeetsNeed b x k
    meets_need a b x k c below m =
        let g = c.each_good k below in
        record {
          enough = omega (arith, same_bought a b x k c, g.same_need, m.enough);
          not_more = omega (arith, same_bought a b x k c, g.same_most, m.not_more);
        }

    stocked : (a b : Job) (x : Purchase) (i k : ℕ) → IsCheaper a b → i < suppliers a → k < goods a → x i k ≤ stock a i k → x i k ≤ stock b i k
    stocked a b x i k c known below le = omega (arith, (c.each_supplier i known).same_stocks k below)

    picked : (a b : Job) (x : Purchase) (i : ℕ) → IsCheaper a b → i < suppliers a → IsSome (pick a i (total a x i)) → IsSome (pick b i (total b x i))
    picked a b x i c known some = rw (same_total a b x i c, same_pick a b i (total a x i) c known some) some

-- the same segment is selected
same_selected : (a b : Job) (x : Purchase) (i : ℕ) → IsCheaper a b → i < suppliers a → Feasible a x → selected b x i ≡ selected a x i
unfolding selected
same_selected a b x i c known f =
    ap (λ t. unwrap_or (pick b i t) 0) (same_total a b x i c) ∙ ap (λ o. unwrap_or o 0) (same_pick a b i (total a x i) c known (f.picks i known))

-- the segment that is selected is one of the supplier's
selected_within : (a : Job) (x : Purchase) (i : ℕ) → i < suppliers a → Feasible a x → selected a x i ≤ segments a i
unfolding selected
selected_within a x i known f = by_case a x i known (pick a i (total a x i)) refl (f.picks i known)
  where
    by_case : (a : Job) (x : Purchase) (i : ℕ) → i < suppliers a → (o : Option ℕ) → pick a i (total a x i) ≡ o → IsSome o → unwrap_or o 0 ≤ segments a i
    by_case a x i known (Some j) is some = (((picks_where_it_lies a i (total a x i) known).some j).0 is).segment
    by_case a x i known None is some = absurd (false≢true some)

-- a price in any segment, segment 0 too
price_le : (a b : Job) (i j k : ℕ) → IsCheaper a b → i < suppliers a → j ≤ segments a i → k < goods a → price b i j k ≤ price a i j k
price_le a b i zero k c known within below =
    let y = (job_in_range b).each_supplier i (omega (arith, c.as_many_suppliers)) in
    omega (arith, y.nothing_price k)
price_le a b i (suc j) k c known within below = ((c.each_supplier i known).each_segment (suc j) (omega arith) within).prices k below

goods_cost_le : (a b : Job) (x : Purchase) (i : ℕ) → IsCheaper a b → i < suppliers a → Feasible a x → goods_cost b x i ≤ goods_cost a x i
unfolding goods_cost
goods_cost_le a b x i c known f =
    rw (c.as_many_goods, same_selected a b x i c known f)
    (sum_to-le (goods a) (λ k. x i k * price b i (selected a x i) k) (λ k. x i k * price a i (selected a x i) k)
    (λ k below. mul-le-mul_left (x i k) (price_le a b i (selected a x i) k c known (selected_within a x i known f) below)))

fee_cost_le : (a b : Job) (x : Purchase) (i : ℕ) → IsCheaper a b → i < suppliers a → fee_cost b x i ≤ fee_cost a x i
unfolding fee_cost
fee_cost_le a b x i c known = rw (same_total a b x i c) (by_test (fee a i) (fee b i) (total a x i == 0) (c.each_supplier i known).fee)
  where
    by_test : (m n : ℕ) (b : Bool) → n ≤ m → cond b 0 n ≤ cond b 0 m
    by_test m n true le = omega arith
    by_test m n false le = le

cost_le : (a b : Job) (x : Purchase) → IsCheaper a b → Feasible a x → cost b x ≤ cost a x
unfolding cost
cost_le a b x c f =
    rw c.as_many_suppliers
    (sum_to-le (suppliers a) (λ i. goods_cost b x i + fee_cost b x i) (λ i. goods_cost a x i + fee_cost a x i)
    (λ i known. let g = goods_cost_le a b x i c known f in let e = fee_cost_le a b x i c known in omega arith))

pub cheaper_no_dearer : (a b : Job) → IsCheaper a b → IsNoDearer a b
cheaper_no_dearer a b c = λ x f. record { feasible = feasible_too a b x c f; cost = cost_le a b x c f }

pub least_no_higher : (a b : Job) → IsNoDearer a b → (c d : ℕ) → IsLeastCost a c → IsLeastCost b d → d ≤ c
least_no_higher a b no_dearer c d of_a of_b =
    let n = no_dearer of_a.0 of_a.1.0.feasible in
    omega (arith, of_b.1.0.least of_a.0 n.feasible, n.cost, of_a.1.1, of_b.1.1)
