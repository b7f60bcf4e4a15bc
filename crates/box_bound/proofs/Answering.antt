-- The answers: the plan and the row of a cheapest circulation, and the row of a cut.
use Rattle.std.proofs.Common.{ℕ, zero, suc, ◌≡◌, ◌+◌, ◌-◌, ◌<◌, ◌≤◌, ℤ, Bool, List, length, slice_index, refl, ap, ◌∙◌, arith}
use Rattle.std.specs.Prelude.{if◌then◌else◌}
use Rattle.std.proofs.lemmas.Int.{ints}
use Rattle.std.proofs.lemmas.Nat.{mul-le}
use Rattle.tqd_base.specs.Sum.{sum_to}
use Rattle.mcf_lower.specs.Net.{Network, IsNetwork, arc_of}
use Rattle.mcf_lower.specs.Circulation.{cost}
use Rattle.mcf_lower.specs.Answers.{IsFlow as IsFlowList, IsCutSet, units_of, has_of}
use Rattle.flow_prices.specs.Prices.{greatest_to, greatest_cost, number_of, IsPriced}
use Rattle.tqd_instance.specs.declared.job.Job.{Job}
use Rattle.tqd_instance.specs.declared.plan.Plan.{Plan}
use Rattle.tqd_instance.specs.Job.{goods, suppliers}
use Rattle.tqd_instance.specs.Plan.{units, IsSizedFor}
use Rattle.tqd_instance.proofs.Jobs.{job_in_range}
use Rattle.tqd_instance.proofs.SumLemmas.{sum_to-zeros}
use Rattle.interval_box.specs.declared.boxes.IntervalBox.{IntervalBox}
use Rattle.interval_box.specs.Ranges.{IsBoxOf}
use Rattle.bound_tree.specs.Prices.{Prices}
use Rattle.bound_tree.specs.Value.{charges_of, no_charges}
use Rattle.box_bound.specs.Relaxed.{least_price, sure_fee}
use Rattle.box_bound.specs.Bounded.{IsFlow, IsEmpty}
use Rattle.box_bound.specs.BoxNet.{offer_place, IsNetOf}
use Rattle.box_bound.specs.NodeRow.{AreNodeNumbers, IsRowOf, cut_number}
use Rattle.box_bound.proofs.FlatSums.{place_before}
use Rattle.box_bound.proofs.LeastPrices.{least_price-le, sure_fee-none, sure_fee-le}
use Rattle.box_bound.proofs.Matrices.{flow_of, carries, circulates}
use Rattle.box_bound.proofs.Relaxing.{carried, is_least, cap_le}
use Rattle.box_bound.proofs.Values.{AreUnder, AreCharges, value_reaches}
use Rattle.box_bound.proofs.Duals.{fits_reach, cut_above}
use Rattle.box_bound.proofs.Singles.{single_is}

-- no cost of a net is above the limit of prices
greatest_within : (n : ℕ) (f : ℕ → ℕ) → ((a : ℕ) → a < n → f a ≤ 1000000000000) → greatest_to n f ≤ 1000000000000
greatest_within zero f le = omega arith
greatest_within (suc n) f le =
    let rest = greatest_within n f (λ a below. le a (omega arith)) in
    let last = le n (omega arith) in
    omega arith

-- the numbers of a cheapest circulation are node numbers
pub priced_numbers : (job : Job) (area : IntervalBox) (net : Network) (flow : List ℕ) (numbers : List ℤ) → IsNetwork net → IsNetOf job area net
    → IsPriced net flow numbers → AreNodeNumbers job numbers
priced_numbers job area net flow numbers w n p =
    let most = greatest_within (length net.arcs) (λ a. (arc_of net a).cost) (λ a below. (w.each a below).price) in
    let far = mul-le (net.nodes - 1) (greatest_cost net) 1065 1000000000000 (omega (arith, w.few)) most in
    record {
      nodes = p.nodes ∙ n.nodes;
      hub = p.zero;
      each = λ v below. record {
        not_less = omega (arith, ints, p.least v (omega (arith, n.nodes)));
        not_more = omega (arith, ints, p.most v (omega (arith, n.nodes)));
      };
    }

-- the units that a flow carries of a good from a supplier are within the stock
pub units_within : (job : Job) (area : IntervalBox) (net : Network) (flow : List ℕ) → IsNetOf job area net → IsFlowList net flow
    → (i k : ℕ) → i < suppliers job → k < goods job → slice_index flow (offer_place job i k) ≤ 100000000
units_within job area net flow n f i k row small =
    let at : offer_place job i k < length net.arcs = omega (arith, n.arcs, place_before (suppliers job) i (goods job) k row small) in
    omega (
      arith,
      f.circulation.cap (offer_place job i k) at,
      ap (λ a. a.cap) (n.offers i k row small),
      cap_le job i k,
      ((job_in_range job).each_supplier i row).stock_within k,
    )

pub is_flow : (job : Job) (area : IntervalBox) → IsBoxOf job area → (net : Network) → IsNetwork net → IsNetOf job area net
    → (flow : List ℕ) (numbers : List ℤ) → IsPriced net flow numbers → (plan : Plan) → IsSizedFor job plan
    → ((i k : ℕ) → i < suppliers job → k < goods job → units plan i k ≡ slice_index flow (offer_place job i k))
    → (relaxed : ℕ) → relaxed ≡ cost net (units_of flow) + sum_to (suppliers job) (sure_fee job area) → (row : Prices) → IsRowOf job area numbers row
    → IsFlow job area plan relaxed row
is_flow job area box net w n flow numbers p plan size same relaxed is row r =
    let c = carried job area net n (units_of flow) p.is_flow.circulation (units plan) same in
    let least = is_least job area net w n (units_of flow) p.is_flow.circulation (number_of numbers) p.fits (units plan) c relaxed is in
    let under : AreUnder job area (charges_of job) (least_price job area) (sure_fee job area) = record {
      units = λ i j k some admits. least_price-le job area i k j some admits;
      fees = sure_fee-le job area;
      none = sure_fee-none job area;
    } in
    let charges : AreCharges job (least_price job area) (λ a. (arc_of net a).cost) = record {
      totals = λ i row. ap (λ a. a.cost) (n.totals i row);
      offers = λ i k row small. ap (λ a. a.cost) (n.offers i k row small);
      needs = λ k small. ap (λ a. a.cost) (n.needs k small);
    } in
    let value = value_reaches (charges_of job) job area box net n numbers p.zero row r (least_price job area) (sure_fee job area) under (λ a. (arc_of net a).cost) charges in
    let reach = fits_reach net w (number_of numbers) (units_of flow) p.is_flow.circulation p.fits in
    record {
      size = size;
      least = least;
      fits = r.fits;
      reaches = omega (arith, ints);
      single = single_is job area (units plan) relaxed box least.is_relaxed least.cost_is;
    }

pub is_empty : (job : Job) (area : IntervalBox) → IsBoxOf job area → (net : Network) → IsNetwork net → IsNetOf job area net
    → (members : List Bool) → IsCutSet net members → (numbers : List ℤ) → AreNodeNumbers job numbers
    → ((v : ℕ) → v < 1 + suppliers job + goods job → number_of numbers v ≡ cut_number members v) → (row : Prices) → IsRowOf job area numbers row
    → IsEmpty job area row
is_empty job area box net w n members s numbers m each row r =
    let under : AreUnder job area no_charges (λ i k. 0) (λ i. 0) = record {
      units = λ i j k some admits. omega arith;
      fees = λ i. omega arith;
      none = λ i none. refl;
    } in
    let charges : AreCharges job (λ i k. 0) (λ a. 0) = record {
      totals = λ i row. refl;
      offers = λ i k row small. refl;
      needs = λ k small. refl;
    } in
    let value = value_reaches no_charges job area box net n numbers m.hub row r (λ i k. 0) (λ i. 0) under (λ a. 0) charges in
    let above = cut_above net (has_of members) (if has_of members 0 then 1 else 0) (number_of numbers) w (λ v below. each v (omega (arith, n.nodes))) s.cut in
    let free = sum_to-zeros (suppliers job) (λ i. 0) (λ i below. refl) in
    record {
      none = λ x relaxed. s.none (flow_of job x) (circulates job area net n x relaxed (flow_of job x) (carries job x));
      fits = r.fits;
      above = omega (arith, ints);
    }
