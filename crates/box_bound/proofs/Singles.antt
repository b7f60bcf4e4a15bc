-- In a box that leaves no choice a relaxed purchase is a feasible one, unless the winners fail, and costs its relaxed cost.
use Rattle.std.proofs.Common.{ℕ, ◌≡◌, ◌+◌, ◌-◌, ◌*◌, ◌<◌, ◌≤◌, ◌==◌, if◌then◌else◌, Some, refl, ap, subst, sym, ◌∙◌, arith, inl, inr}
use Rattle.std.specs.Prelude.{IsSome, unwrap_or}
use Rattle.std.proofs.lemmas.Bool.{cases_lt}
use Rattle.std.proofs.lemmas.Bool.Decides.{nat_tests}
use Rattle.tqd_base.specs.Sum.{sum_to}
use Rattle.tqd_instance.specs.declared.job.Job.{Job}
use Rattle.tqd_instance.specs.Job.{goods, suppliers, high, price, fee, pick, least_winners, most_winners}
use Rattle.tqd_instance.specs.Purchase.{Purchase, total}
use Rattle.tqd_instance.specs.Feasible.{HasPick, MeetsWinners}
use Rattle.tqd_instance.specs.Cost.{selected, goods_cost, fee_cost, cost}
use Rattle.tqd_instance.specs.Picks.{LiesIn}
use Rattle.tqd_instance.proofs.Jobs.{job_in_range}
use Rattle.tqd_instance.proofs.Picks.{picks_where_it_lies}
use Rattle.tqd_instance.proofs.SumLemmas.{sum_to-same}
use Rattle.interval_box.specs.declared.boxes.IntervalBox.{IntervalBox}
use Rattle.interval_box.specs.Ranges.{low_of, high_of, IsBoxOf, IsIn, IsSingle}
use Rattle.interval_box.specs.Winners.{must_win, may_win, sure_winners, possible_winners, WinnersFail}
use Rattle.interval_box.proofs.Picked.{picks}
use Rattle.interval_box.proofs.Winning.{sure_le, possible_le}
use Rattle.bound_tree.specs.Prices.{first_of}
use Rattle.box_bound.specs.Relaxed.{least_total, greatest_total, lowest_from, least_price, sure_fee, Relaxed, KeepsTotal, relaxed_cost}
use Rattle.box_bound.specs.Bounded.{FeasibleAt}
use Rattle.box_bound.proofs.LeastPrices.{lowest_from-zero, least_price-none, least_price-some, sure_fee-none, sure_fee-some}

-- a total picks the only segment of its range
lies : (job : Job) (area : IntervalBox) (x : Purchase) (i : ℕ) → IsBoxOf job area → i < suppliers job → low_of area i ≡ high_of area i → KeepsTotal job area x i
    → LiesIn job i (low_of area i) (total job x i)
unfolding least_total greatest_total
lies job area x i box supplier one k = record {
  segment = omega (arith, one, (box.ranges i supplier).within);
  from_low = k.from_least;
  to_high = omega (arith, k.to_greatest, ap (high job i) one);
}

pub picked_one : (job : Job) (area : IntervalBox) (x : Purchase) → IsBoxOf job area → IsSingle job area → Relaxed job area x → (i : ℕ) → i < suppliers job
    → pick job i (total job x i) ≡ Some (low_of area i)
picked_one job area x box single r i supplier =
    ((picks_where_it_lies job i (total job x i) supplier).some (low_of area i)).1 (lies job area x i box supplier (single i supplier) (r.totals i supplier))

inside : (job : Job) (area : IntervalBox) (x : Purchase) → IsBoxOf job area → IsSingle job area → Relaxed job area x → IsIn job area x
inside job area x box single r i supplier = picks job area x i (record {
  number = low_of area i;
  is = picked_one job area x box single r i supplier;
  admitted = record { from_low = omega arith; to_high = (box.ranges i supplier).ordered };
})

-- the suppliers that have to be bought from are those that may be
same_winners : (job : Job) (area : IntervalBox) → IsSingle job area → sure_winners job area ≡ possible_winners job area
unfolding sure_winners possible_winners must_win may_win
same_winners job area single = sum_to-same (suppliers job) (must_win area) (may_win area) (λ i supplier. ap (λ n. if n == 0 then 0 else 1) (single i supplier))

meets : (job : Job) (area : IntervalBox) (x : Purchase) → IsBoxOf job area → IsSingle job area → (WinnersFail job area → ⊥) → Relaxed job area x → MeetsWinners job x
meets job area x box single fails r =
    let sure = sure_le job area x (inside job area x box single r) in
    let possible = possible_le job area x (inside job area x box single r) in
    let same = same_winners job area single in
    record {
      enough = elim (cases_lt (possible_winners job area) (least_winners job)) [
        | inl few ↦ absurd (fails (inr few))
        | inr enough ↦ omega arith
      ];
      not_more = elim (cases_lt (most_winners job) (sure_winners job area)) [
        | inl many ↦ absurd (fails (inl many))
        | inr within ↦ omega arith
      ];
    }

has_pick : (job : Job) (area : IntervalBox) (x : Purchase) → IsBoxOf job area → IsSingle job area → Relaxed job area x → (i : ℕ) → i < suppliers job → HasPick job x i
has_pick job area x box single r i supplier = subst IsSome (sym (picked_one job area x box single r i supplier)) refl

-- the least price is that of the segment
single_price : (job : Job) (area : IntervalBox) (i k : ℕ) → i < suppliers job → low_of area i ≡ high_of area i → least_price job area i k ≡ price job i (low_of area i) k
unfolding first_of
single_price job area i k supplier one = elim (cases_lt 0 (low_of area i)) [
  | inl some ↦
      (let first : first_of area i ≡ low_of area i = omega arith in
      let none : high_of area i - first_of area i ≡ 0 = omega arith in
      least_price-some job area i k (omega arith)
      ∙ ap (λ n. lowest_from (first_of area i) n (λ j. price job i j k)) none
      ∙ lowest_from-zero (first_of area i) (λ j. price job i j k)
      ∙ ap (λ j. price job i j k) first)
  | inr nothing ↦
      (let zero : low_of area i ≡ 0 = omega arith in
      least_price-none job area i k (omega arith)
      ∙ sym (((job_in_range job).each_supplier i supplier).nothing_price k)
      ∙ ap (λ j. price job i j k) (sym zero))
]

pub fee_some : (t f : ℕ) → 1 ≤ t → (if t == 0 then 0 else f) ≡ f
fee_some t f some = grind (arith, nat_tests)

fee_none : (t f : ℕ) → t ≡ 0 → (if t == 0 then 0 else f) ≡ 0
fee_none t f none = grind (arith, nat_tests)

single_fee : (job : Job) (area : IntervalBox) (x : Purchase) (i : ℕ) → i < suppliers job → IsBoxOf job area → low_of area i ≡ high_of area i → KeepsTotal job area x i
    → fee_cost job x i ≡ sure_fee job area i
unfolding fee_cost least_total greatest_total
single_fee job area x i supplier box one k =
    let s = (job_in_range job).each_supplier i supplier in
    elim (cases_lt 0 (low_of area i)) [
      | inl some ↦
          (let bought = (s.each_segment (low_of area i) some (omega (arith, (box.ranges i supplier).within))).from_one in
          fee_some (total job x i) (fee job i) (omega (arith, k.from_least)) ∙ sym (sure_fee-some job area i some))
      | inr nothing ↦
          (let zero : high_of area i ≡ 0 = omega arith in
          fee_none (total job x i) (fee job i) (omega (arith, k.to_greatest, ap (high job i) zero, s.nothing_high)) ∙ sym (sure_fee-none job area i (omega arith)))
    ]

selected_one : (job : Job) (area : IntervalBox) (x : Purchase) → IsBoxOf job area → IsSingle job area → Relaxed job area x → (i : ℕ) → i < suppliers job → selected job x i ≡ low_of area i
unfolding selected
selected_one job area x box single r i supplier = ap (λ o. unwrap_or o 0) (picked_one job area x box single r i supplier)

single_cost : (job : Job) (area : IntervalBox) (x : Purchase) → IsBoxOf job area → IsSingle job area → Relaxed job area x → cost job x ≡ relaxed_cost job area x
unfolding cost goods_cost relaxed_cost
single_cost job area x box single r =
    sum_to-same (suppliers job) (λ i. sum_to (goods job) (λ k. x i k * price job i (selected job x i) k) + fee_cost job x i)
    (λ i. sum_to (goods job) (λ k. x i k * least_price job area i k) + sure_fee job area i)
    (λ i supplier.
    (let fees = single_fee job area x i supplier box (single i supplier) (r.totals i supplier) in
    let units = sum_to-same (goods job) (λ k. x i k * price job i (selected job x i) k) (λ k. x i k * least_price job area i k)
    (λ k small. ap (λ p. x i k * p) (ap (λ j. price job i j k) (selected_one job area x box single r i supplier) ∙ sym (single_price job area i k supplier (single i supplier)))) in
    omega arith))

pub single_is : (job : Job) (area : IntervalBox) (x : Purchase) (relaxed : ℕ) → IsBoxOf job area → Relaxed job area x → relaxed_cost job area x ≡ relaxed
    → IsSingle job area → (WinnersFail job area → ⊥) → FeasibleAt job x relaxed
single_is job area x relaxed box r is single fails = record {
  feasible = record {
    needs = r.needs;
    stocks = r.stocks;
    picks = has_pick job area x box single r;
    winners = meets job area x box single fails r;
  };
  cost_is = single_cost job area x box single r ∙ is;
}
