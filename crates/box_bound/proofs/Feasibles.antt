-- Each feasible purchase in a box is a relaxed one, and costs at least its relaxed cost.
use Rattle.std.proofs.Common.{ℕ, ◌≡◌, ◌+◌, ◌*◌, ◌<◌, ◌≤◌, refl, ap, arith, inl, inr}
use Rattle.std.specs.Prelude.{unwrap_or}
use Rattle.std.proofs.lemmas.Bool.{cases_lt}
use Rattle.std.proofs.lemmas.Nat.{mul-le}
use Rattle.tqd_base.specs.Sum.{sum_to}
use Rattle.tqd_instance.specs.declared.job.Job.{Job}
use Rattle.tqd_instance.specs.Job.{goods, suppliers, high, price, fee}
use Rattle.tqd_instance.specs.Purchase.{Purchase, total}
use Rattle.tqd_instance.specs.Feasible.{Feasible}
use Rattle.tqd_instance.specs.Cost.{selected, goods_cost, fee_cost, cost}
use Rattle.tqd_instance.specs.Picks.{LiesIn}
use Rattle.tqd_instance.proofs.Jobs.{job_in_range}
use Rattle.tqd_instance.proofs.Picks.{picks_where_it_lies}
use Rattle.tqd_instance.proofs.SumLemmas.{sum_to-le, sum_to-zeros, sum_to-none}
use Rattle.interval_box.specs.declared.boxes.IntervalBox.{IntervalBox}
use Rattle.interval_box.specs.Ranges.{Admits, IsBoxOf, IsIn}
use Rattle.interval_box.proofs.Picked.{picked}
use Rattle.box_bound.specs.Relaxed.{Relaxed, least_price, sure_fee, relaxed_cost}
use Rattle.box_bound.proofs.Ranges.{totals_are}
use Rattle.box_bound.proofs.LeastPrices.{least_price-le, sure_fee-le, sure_fee-none}
use Rattle.box_bound.proofs.Singles.{fee_some}

-- the segment that a supplier's total picks in its range
record PicksAt (job : Job) (area : IntervalBox) (x : Purchase) (i : ℕ) : Type 0 where
  segment : ℕ
  admitted : Admits area i segment
  lies : LiesIn job i segment (total job x i)
  is : selected job x i ≡ segment

picks_at : (job : Job) (area : IntervalBox) (x : Purchase) → IsIn job area x → (i : ℕ) → i < suppliers job → PicksAt job area x i
unfolding selected
picks_at job area x inside i supplier =
    let p = picked job area x i (inside i supplier) in
    record {
      segment = p.number;
      admitted = p.admitted;
      lies = ((picks_where_it_lies job i (total job x i) supplier).some p.number).0 p.is;
      is = ap (λ o. unwrap_or o 0) p.is;
    }

pub feasible_relaxed : (job : Job) (area : IntervalBox) (x : Purchase) → IsBoxOf job area → Feasible job x → IsIn job area x → Relaxed job area x
feasible_relaxed job area x box f inside = record {
  needs = f.needs;
  stocks = f.stocks;
  totals = λ i supplier.
      (let p = picks_at job area x inside i supplier in
      let t = totals_are job area i supplier (box.ranges i supplier) in
      record {
        from_least = omega (arith, t.below p.segment p.admitted, p.lies.from_low);
        to_greatest = omega (arith, t.above p.segment p.admitted, p.lies.to_high);
      });
}

total_is : (job : Job) (x : Purchase) (i : ℕ) → total job x i ≡ sum_to (goods job) (x i)
unfolding total
total_is job x i = refl

goods_le : (job : Job) (area : IntervalBox) (x : Purchase) (i : ℕ) → i < suppliers job → PicksAt job area x i
    → sum_to (goods job) (λ k. x i k * least_price job area i k) ≤ goods_cost job x i
unfolding goods_cost
goods_le job area x i supplier p = elim (cases_lt 0 p.segment) [
  | inl some ↦ sum_to-le (goods job) (λ k. x i k * least_price job area i k) (λ k. x i k * price job i (selected job x i) k)
      (λ k small. mul-le (x i k) (least_price job area i k) (x i k) (price job i (selected job x i) k) (omega arith)
      (omega (arith, least_price-le job area i k p.segment some p.admitted, ap (λ j. price job i j k) p.is)))
  | inr first ↦
      (let none : p.segment ≡ 0 = omega arith in
      let s = (job_in_range job).each_supplier i supplier in
      let nothing : sum_to (goods job) (x i) ≡ 0 = omega (arith, total_is job x i, p.lies.to_high, ap (high job i) none, s.nothing_high) in
      let zeros = sum_to-zeros (goods job) (λ k. x i k * least_price job area i k)
      (λ k small. (let units = sum_to-none (goods job) (x i) nothing k small in omega (arith, ap (λ n. n * least_price job area i k) units))) in
      omega arith)
]

fee_le : (job : Job) (area : IntervalBox) (x : Purchase) (i : ℕ) → i < suppliers job → PicksAt job area x i → sure_fee job area i ≤ fee_cost job x i
unfolding fee_cost
fee_le job area x i supplier p = elim (cases_lt 0 p.segment) [
  | inl some ↦
      (let s = (job_in_range job).each_supplier i supplier in
      let from_one = (s.each_segment p.segment some p.lies.segment).from_one in
      let whole = fee_some (total job x i) (fee job i) (omega (arith, p.lies.from_low)) in
      omega (arith, sure_fee-le job area i))
  | inr first ↦ omega (arith, sure_fee-none job area i (omega (arith, p.admitted.from_low)))
]

pub no_dearer : (job : Job) (area : IntervalBox) (x : Purchase) → IsIn job area x → relaxed_cost job area x ≤ cost job x
unfolding relaxed_cost cost
no_dearer job area x inside =
    sum_to-le (suppliers job) (λ i. sum_to (goods job) (λ k. x i k * least_price job area i k) + sure_fee job area i) (λ i. goods_cost job x i + fee_cost job x i)
    (λ i supplier.
    (let p = picks_at job area x inside i supplier in
    omega (arith, goods_le job area x i supplier p, fee_le job area x i supplier p)))
