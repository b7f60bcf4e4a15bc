-- Each circulation of a box's net is a relaxed purchase, and costs what the purchase costs but for its fees.
use Rattle.std.proofs.Common.{ℕ, ◌≡◌, ◌+◌, ◌*◌, ◌<◌, ◌≤◌, ℤ, length, ap, sym, ◌∙◌, arith}
use Rattle.tqd_base.specs.Sum.{sum_to}
use Rattle.mcf_lower.specs.Net.{Network, IsNetwork, arc_of}
use Rattle.mcf_lower.specs.Circulation.{IsCirculation, Fits, cost}
use Rattle.mcf_lower.proofs.Circulations.{fits_cheapest}
use Rattle.tqd_instance.specs.declared.job.Job.{Job}
use Rattle.tqd_instance.specs.Job.{goods, suppliers, stock}
use Rattle.tqd_instance.specs.Purchase.{Purchase, total, bought}
use Rattle.tqd_instance.proofs.SumLemmas.{sum_to-same, sum_to-zeros, sum_to-add}
use Rattle.interval_box.specs.declared.boxes.IntervalBox.{IntervalBox}
use Rattle.bound_tree.specs.Value.{cap}
use Rattle.box_bound.specs.Relaxed.{Relaxed, relaxed_cost, sure_fee, least_price}
use Rattle.box_bound.specs.Bounded.{IsLeastRelaxed}
use Rattle.box_bound.specs.BoxNet.{supplier_node, good_node, offer_place, need_place, IsNetOf}
use Rattle.box_bound.proofs.FlatSums.{place_before}
use Rattle.box_bound.proofs.Balances.{over_arcs, supplier_in, supplier_out, good_in, good_out}
use Rattle.box_bound.proofs.Matrices.{Carries, flow_of, carries, circulates}

-- a purchase that a circulation's offers write down is carried by it
pub carried : (job : Job) (area : IntervalBox) (net : Network) → IsNetOf job area net → (flow : ℕ → ℕ) → IsCirculation net flow
    → (x : Purchase) → ((i k : ℕ) → i < suppliers job → k < goods job → x i k ≡ flow (offer_place job i k)) → Carries job x flow
unfolding total bought
carried job area net n flow f x same = record {
  totals = λ i row.
      sym (supplier_in job area net n flow i row) ∙ f.balance (supplier_node i) (omega (arith, n.nodes)) ∙ supplier_out job area net n flow i row
      ∙ sym (sum_to-same (goods job) (x i) (λ k. flow (offer_place job i k)) (λ k small. same i k row small));
  offers = λ i k row small. sym (same i k row small);
  needs = λ k small.
      sym (good_out job area net n flow k small) ∙ sym (f.balance (good_node job k) (omega (arith, n.nodes))) ∙ good_in job area net n flow k small
      ∙ sym (sum_to-same (suppliers job) (λ i. x i k) (λ i. flow (offer_place job i k)) (λ i row. same i k row small));
}

pub cap_le : (job : Job) (i k : ℕ) → cap job i k ≤ stock job i k
unfolding cap
cap_le job i k = omega arith

pub relaxes : (job : Job) (area : IntervalBox) (net : Network) → IsNetOf job area net → (flow : ℕ → ℕ) → IsCirculation net flow
    → (x : Purchase) → Carries job x flow → Relaxed job area x
relaxes job area net n flow f x c = record {
  needs = λ k small.
      (let at = need_at k small in
      record {
        enough = omega (arith, c.needs k small, f.low (need_place job k) at, ap (λ a. a.low) (n.needs k small));
        not_more = omega (arith, c.needs k small, f.cap (need_place job k) at, ap (λ a. a.cap) (n.needs k small));
      });
  stocks = λ i k row small.
      omega (arith, c.offers i k row small, f.cap (offer_place job i k) (offer_at i k row small), ap (λ a. a.cap) (n.offers i k row small), cap_le job i k);
  totals = λ i row.
      (let at : i < length net.arcs = omega (arith, n.arcs) in
      record {
        from_least = omega (arith, c.totals i row, f.low i at, ap (λ a. a.low) (n.totals i row));
        to_greatest = omega (arith, c.totals i row, f.cap i at, ap (λ a. a.cap) (n.totals i row));
      });
}
  where
    need_at : (k : ℕ) → k < goods job → need_place job k < length net.arcs
    need_at k small = omega (arith, n.arcs)

    offer_at : (i k : ℕ) → i < suppliers job → k < goods job → offer_place job i k < length net.arcs
    offer_at i k row small = omega (arith, n.arcs, place_before (suppliers job) i (goods job) k row small)

-- the cost of a flow is what the goods cost
pub goods_cost_is : (job : Job) (area : IntervalBox) (net : Network) → IsNetOf job area net → (flow : ℕ → ℕ) (x : Purchase) → Carries job x flow
    → cost net flow ≡ sum_to (suppliers job) (λ i. sum_to (goods job) (λ k. x i k * least_price job area i k))
goods_cost_is job area net n flow x c =
    let s = suppliers job in
    let g = goods job in
    let f : ℕ → ℕ = λ a. (arc_of net a).cost * flow a in
    let totals = sum_to-zeros s f (λ i row. free (arc_of net i).cost (flow i) (ap (λ a. a.cost) (n.totals i row))) in
    let offers = sum_to-same s (λ i. sum_to g (λ k. f (offer_place job i k))) (λ i. sum_to g (λ k. x i k * least_price job area i k))
    (λ i row. sum_to-same g (λ k. f (offer_place job i k)) (λ k. x i k * least_price job area i k)
    (λ k small. times (arc_of net (offer_place job i k)).cost (flow (offer_place job i k)) (least_price job area i k) (x i k) (ap (λ a. a.cost) (n.offers i k row small)) (c.offers i k row small))) in
    let needs = sum_to-zeros g (λ k. f (need_place job k)) (λ k small. free (arc_of net (need_place job k)).cost (flow (need_place job k)) (ap (λ a. a.cost) (n.needs k small))) in
    omega (arith, over_arcs job area net n f)
  where
    free : (p u : ℕ) → p ≡ 0 → p * u ≡ 0
    free p u none = rw none (omega arith)

    times : (p u q v : ℕ) → p ≡ q → u ≡ v → p * u ≡ v * q
    times p u q v a b = rw (a, b) (omega arith)

pub relaxed_cost_is : (job : Job) (area : IntervalBox) (net : Network) → IsNetOf job area net → (flow : ℕ → ℕ) (x : Purchase) → Carries job x flow
    → relaxed_cost job area x ≡ cost net flow + sum_to (suppliers job) (sure_fee job area)
unfolding relaxed_cost
relaxed_cost_is job area net n flow x c =
    omega (arith, goods_cost_is job area net n flow x c, sum_to-add (suppliers job) (λ i. sum_to (goods job) (λ k. x i k * least_price job area i k)) (sure_fee job area))

-- a circulation that some numbers fit is a least relaxed purchase
pub is_least : (job : Job) (area : IntervalBox) (net : Network) → IsNetwork net → IsNetOf job area net → (flow : ℕ → ℕ) → IsCirculation net flow
    → (number : ℕ → ℤ) → Fits net flow number → (x : Purchase) → Carries job x flow → (relaxed : ℕ) → relaxed ≡ cost net flow + sum_to (suppliers job) (sure_fee job area)
    → IsLeastRelaxed job area x relaxed
is_least job area net w n flow f number fit x c relaxed is = record {
  is_relaxed = relaxes job area net n flow f x c;
  cost_is = relaxed_cost_is job area net n flow x c ∙ sym is;
  least = λ y r.
      (let d = carries job y in
      let other = relaxed_cost_is job area net n (flow_of job y) y d in
      let cheapest = fits_cheapest net w flow f number fit (flow_of job y) (circulates job area net n y r (flow_of job y) d) in
      omega (arith, is));
}
