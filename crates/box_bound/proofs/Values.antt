-- The value of a row of node numbers is no less than what the arcs of the box's net come to at these numbers.
use Rattle.std.proofs.Common.{ℕ, suc, zero, ◌≡◌, ◌-◌, ◌<◌, ◌≤◌, ℤ, pos, neg_ℤ, ◌+ℤ◌, ◌-ℤ◌, ◌≤ℤ◌, List, length, refl, ap, sym, ◌∙◌, arith, inl, inr}
use Rattle.std.proofs.lemmas.Bool.{cases_lt}
use Rattle.std.proofs.lemmas.Int.{ints}
use Rattle.tqd_base.specs.Sum.{sum_to, signed_sum_to}
use Rattle.mcf_lower.specs.declared.net.Arc.{Arc}
use Rattle.mcf_lower.specs.Net.{Network, arc_of}
use Rattle.flow_prices.specs.Prices.{number_of}
use Rattle.tqd_instance.specs.declared.job.Job.{Job}
use Rattle.tqd_instance.specs.Job.{goods, suppliers, need, most, low, high}
use Rattle.tqd_instance.proofs.SumLemmas.{sum_to-zero, sum_to-suc}
use Rattle.interval_box.specs.declared.boxes.IntervalBox.{IntervalBox}
use Rattle.interval_box.specs.Ranges.{low_of, high_of, Admits, IsBoxOf, IsRangeOf}
use Rattle.bound_tree.specs.Prices.{Prices, price_at, segment_price}
use Rattle.bound_tree.specs.Value.{Charges, cap, least_times, least_gain, segment_value, supplier_value, goods_value, value_by}
use Rattle.bound_tree.proofs.SignedSums.{signed_sum_to-zero, signed_sum_to-suc, signed_sum_to-same, signed_sum_to-le, le-least_from}
use Rattle.bound_tree.proofs.SegmentValues.{segment_value-none, segment_value-some, gains-are}
use Rattle.box_bound.specs.Relaxed.{least_total, greatest_total}
use Rattle.box_bound.specs.BoxNet.{supplier_node, good_node, offer_place, need_place, IsNetOf}
use Rattle.box_bound.specs.NodeRow.{IsRowOf}
use Rattle.box_bound.proofs.Ranges.{totals_are, least_total-none}
use Rattle.box_bound.proofs.Signs.{least_gain-times, least_gain-rises, least_gain-not_above, least_times-wider, least_times-not_above}
use Rattle.box_bound.proofs.Balances.{signed_over_arcs}

signed_sum_to-add : (n : ℕ) (f g : ℕ → ℤ) → signed_sum_to n (λ k. f k +ℤ g k) ≡ signed_sum_to n f +ℤ signed_sum_to n g
signed_sum_to-add zero f g = omega (arith, ints, signed_sum_to-zero f, signed_sum_to-zero g, signed_sum_to-zero (λ k. f k +ℤ g k))
signed_sum_to-add (suc n) f g =
    let rest = signed_sum_to-add n f g in
    omega (arith, ints, signed_sum_to-suc n f, signed_sum_to-suc n g, signed_sum_to-suc n (λ k. f k +ℤ g k))

signed_sum_to-pos : (n : ℕ) (f : ℕ → ℕ) → signed_sum_to n (λ k. pos (f k)) ≡ pos (sum_to n f)
signed_sum_to-pos zero f = omega (arith, ints, signed_sum_to-zero (λ k. pos (f k)), sum_to-zero f)
signed_sum_to-pos (suc n) f =
    let rest = signed_sum_to-pos n f in
    omega (arith, ints, signed_sum_to-suc n (λ k. pos (f k)), sum_to-suc n f)

signed_sum_to-not_above : (n : ℕ) (f : ℕ → ℤ) → ((k : ℕ) → k < n → f k ≤ℤ pos 0) → signed_sum_to n f ≤ℤ pos 0
signed_sum_to-not_above zero f le = omega (arith, ints, signed_sum_to-zero f)
signed_sum_to-not_above (suc n) f le =
    let rest = signed_sum_to-not_above n f (λ k below. le k (omega arith)) in
    let last = le n (omega arith) in
    omega (arith, ints, signed_sum_to-suc n f)

-- charges for a unit and fees of the suppliers that are no more than a segment asks, and no fee where nothing may be bought
pub record AreUnder (job : Job) (area : IntervalBox) (charges : Charges) (unit : ℕ → ℕ → ℕ) (fee : ℕ → ℕ) : Type 0 where
  pub units : (i j k : ℕ) → 1 ≤ j → Admits area i j → unit i k ≤ charges.price i j k
  pub fees : (i : ℕ) → fee i ≤ charges.fee i
  pub none : (i : ℕ) → low_of area i ≡ 0 → fee i ≡ 0

-- what the arcs of a supplier come to
unfoldable pub supplier_dual : Job → IntervalBox → (ℕ → ℕ → ℕ) → List ℤ → ℤ → ℕ → ℤ
supplier_dual job area unit prices h i =
    signed_sum_to (goods job) (λ k. least_gain (cap job i k) (unit i k) (price_at prices k) h) +ℤ least_times h (least_total job area i) (greatest_total job area i)

supplier_dual-is : (job : Job) (area : IntervalBox) (unit : ℕ → ℕ → ℕ) (prices : List ℤ) (h : ℤ) (i : ℕ) → supplier_dual job area unit prices h i
    ≡ signed_sum_to (goods job) (λ k. least_gain (cap job i k) (unit i k) (price_at prices k) h) +ℤ least_times h (least_total job area i) (greatest_total job area i)
unfolding supplier_dual
supplier_dual-is job area unit prices h i = refl

-- in segment 0 they come to nothing or less
in_none : (job : Job) (area : IntervalBox) (unit : ℕ → ℕ → ℕ) (prices : List ℤ) (h : ℤ) (i : ℕ) → i < suppliers job → low_of area i ≡ 0
    → supplier_dual job area unit prices h i ≤ℤ pos 0
in_none job area unit prices h i supplier none =
    let nothing = least_total-none job area i supplier none in
    let gains = signed_sum_to-not_above (goods job) (λ k. least_gain (cap job i k) (unit i k) (price_at prices k) h)
    (λ k below. least_gain-not_above (cap job i k) (unit i k) (price_at prices k) h) in
    let times = least_times-not_above h (least_total job area i) (greatest_total job area i) nothing in
    omega (arith, ints, supplier_dual-is job area unit prices h i)

-- in another segment they come to no more than its value
in_some : (charges : Charges) (job : Job) (area : IntervalBox) (unit : ℕ → ℕ → ℕ) (fee : ℕ → ℕ) → AreUnder job area charges unit fee
    → (prices : List ℤ) (h : ℤ) (i j : ℕ) → i < suppliers job → IsRangeOf job area i → 1 ≤ j → Admits area i j
    → (pos (fee i) +ℤ supplier_dual job area unit prices h i) ≤ℤ segment_value charges job prices h i j
in_some charges job area unit fee under prices h i j supplier range some admits =
    let t = totals_are job area i supplier range in
    let value = segment_value-some charges job prices h i j some in
    let each = signed_sum_to-le (goods job) (λ k. least_gain (cap job i k) (unit i k) (price_at prices k) h) (λ k. least_gain (cap job i k) (charges.price i j k) (price_at prices k) h)
    (λ k below. least_gain-rises (cap job i k) (unit i k) (charges.price i j k) (price_at prices k) h (under.units i j k some admits)) in
    let times = least_times-wider h (least_total job area i) (greatest_total job area i) (low job i j) (high job i j) (t.below j admits) (t.above j admits) in
    let fees = under.fees i in
    omega (arith, ints, supplier_dual-is job area unit prices h i, gains-are charges job prices h i j)

-- so they come to no more than the supplier's value
supplier_reaches : (charges : Charges) (job : Job) (area : IntervalBox) (unit : ℕ → ℕ → ℕ) (fee : ℕ → ℕ) → AreUnder job area charges unit fee
    → (prices : List ℤ) (h : ℤ) (at : ℕ → ℤ) (i : ℕ) → i < suppliers job → IsRangeOf job area i → ((j : ℕ) → 1 ≤ j → Admits area i j → at j ≡ h)
    → (pos (fee i) +ℤ supplier_dual job area unit prices h i) ≤ℤ supplier_value charges job area prices at i
unfolding supplier_value
supplier_reaches charges job area unit fee under prices h at i supplier range same =
    le-least_from (low_of area i) (high_of area i - low_of area i) (λ j. segment_value charges job prices (at j) i j) (pos (fee i) +ℤ supplier_dual job area unit prices h i)
    (λ j from to. each j (record { from_low = from; to_high = omega (arith, range.ordered) }))
  where
    each : (j : ℕ) → Admits area i j → (pos (fee i) +ℤ supplier_dual job area unit prices h i) ≤ℤ segment_value charges job prices (at j) i j
    each j admits = elim (cases_lt 0 j) [
      | inl some ↦
          rw (same j some admits) (in_some charges job area unit fee under prices h i j supplier range some admits)
      | inr none ↦
          (let first : low_of area i ≡ 0 = omega (arith, admits.from_low) in
          let value = segment_value-none charges job prices (at j) i j (omega arith) in
          let dual = in_none job area unit prices h i supplier first in
          let free = under.none i first in
          omega (arith, ints))
    ]

-- what an arc comes to at node numbers, where a unit costs so much
abbrev pub arc_dual : (ℕ → ℤ) → ℕ → Arc → ℤ
arc_dual number charge arc = least_times (pos charge +ℤ number arc.tail -ℤ number arc.head) arc.low arc.cap

-- charges for a unit on the arcs of a net: those of the suppliers for their goods, and no others
pub record AreCharges (job : Job) (unit : ℕ → ℕ → ℕ) (charge : ℕ → ℕ) : Type 0 where
  pub totals : (i : ℕ) → i < suppliers job → charge i ≡ 0
  pub offers : (i k : ℕ) → i < suppliers job → k < goods job → charge (offer_place job i k) ≡ unit i k
  pub needs : (k : ℕ) → k < goods job → charge (need_place job k) ≡ 0

abbrev pub net_dual : Network → (ℕ → ℤ) → (ℕ → ℕ) → ℤ
net_dual net number charge = signed_sum_to (length net.arcs) (λ a. arc_dual number (charge a) (arc_of net a))

goods_value-is : (job : Job) (prices : List ℤ) → goods_value job prices ≡ signed_sum_to (goods job) (λ k. least_times (price_at prices k) (need job k) (most job k))
unfolding goods_value
goods_value-is job prices = refl

-- what all arcs come to, good by good and supplier by supplier
net_dual-is : (job : Job) (area : IntervalBox) (net : Network) → IsNetOf job area net → (number : ℕ → ℤ) → number 0 ≡ pos 0
    → (unit : ℕ → ℕ → ℕ) (charge : ℕ → ℕ) → AreCharges job unit charge
    → (prices : List ℤ) → ((k : ℕ) → k < goods job → price_at prices k ≡ number (good_node job k))
    → net_dual net number charge ≡ goods_value job prices +ℤ signed_sum_to (suppliers job) (λ i. supplier_dual job area unit prices (neg_ℤ (number (supplier_node i))) i)
net_dual-is job area net n number hub unit charge c prices same =
    let s = suppliers job in
    let g = goods job in
    let h : ℕ → ℤ = λ i. neg_ℤ (number (supplier_node i)) in
    let f : ℕ → ℤ = λ a. arc_dual number (charge a) (arc_of net a) in
    let gains : ℕ → ℤ = λ i. signed_sum_to g (λ k. least_gain (cap job i k) (unit i k) (price_at prices k) (h i)) in
    let times : ℕ → ℤ = λ i. least_times (h i) (least_total job area i) (greatest_total job area i) in
    let split = signed_over_arcs job area net n f in
    let totals = signed_sum_to-same s f times (λ i row. total i row) in
    let offers = signed_sum_to-same s (λ i. signed_sum_to g (λ k. f (offer_place job i k))) gains
    (λ i row. signed_sum_to-same g (λ k. f (offer_place job i k)) (λ k. least_gain (cap job i k) (unit i k) (price_at prices k) (h i)) (λ k small. offer i k row small)) in
    let needs = signed_sum_to-same g (λ k. f (need_place job k)) (λ k. least_times (price_at prices k) (need job k) (most job k)) (λ k small. need_is k small) in
    let both = signed_sum_to-same s (λ i. supplier_dual job area unit prices (h i) i) (λ i. gains i +ℤ times i) (λ i row. supplier_dual-is job area unit prices (h i) i) in
    let add = signed_sum_to-add s gains times in
    let all = goods_value-is job prices in
    omega (arith, ints)
  where
    total : (i : ℕ) → i < suppliers job
        → arc_dual number (charge i) (arc_of net i) ≡ least_times (neg_ℤ (number (supplier_node i))) (least_total job area i) (greatest_total job area i)
    total i row =
        let price : pos (charge i) +ℤ number 0 -ℤ number (supplier_node i) ≡ neg_ℤ (number (supplier_node i)) = omega (arith, ints, c.totals i row, hub) in
        ap (arc_dual number (charge i)) (n.totals i row) ∙ ap (λ z. least_times z (least_total job area i) (greatest_total job area i)) price

    offer : (i k : ℕ) → i < suppliers job → k < goods job
        → arc_dual number (charge (offer_place job i k)) (arc_of net (offer_place job i k))
        ≡ least_gain (cap job i k) (unit i k) (price_at prices k) (neg_ℤ (number (supplier_node i)))
    offer i k row small =
        let price : pos (charge (offer_place job i k)) +ℤ number (supplier_node i) -ℤ number (good_node job k)
        ≡ pos (unit i k) -ℤ price_at prices k -ℤ neg_ℤ (number (supplier_node i)) = omega (arith, ints, c.offers i k row small, same k small) in
        ap (arc_dual number (charge (offer_place job i k))) (n.offers i k row small)
        ∙ sym (least_gain-times (cap job i k) (unit i k) (price_at prices k) (neg_ℤ (number (supplier_node i))) _ price)

    need_is : (k : ℕ) → k < goods job
        → arc_dual number (charge (need_place job k)) (arc_of net (need_place job k)) ≡ least_times (price_at prices k) (need job k) (most job k)
    need_is k small =
        let price : pos (charge (need_place job k)) +ℤ number (good_node job k) -ℤ number 0 ≡ price_at prices k = omega (arith, ints, c.needs k small, same k small, hub) in
        ap (arc_dual number (charge (need_place job k))) (n.needs k small) ∙ ap (λ z. least_times z (need job k) (most job k)) price

-- the value of the row of node numbers is at least what all arcs come to, and the fees
pub value_reaches : (charges : Charges) (job : Job) (area : IntervalBox) → IsBoxOf job area → (net : Network) → IsNetOf job area net
    → (numbers : List ℤ) → number_of numbers 0 ≡ pos 0 → (row : Prices) → IsRowOf job area numbers row
    → (unit : ℕ → ℕ → ℕ) (fee : ℕ → ℕ) → AreUnder job area charges unit fee → (charge : ℕ → ℕ) → AreCharges job unit charge
    → (net_dual net (number_of numbers) charge +ℤ pos (sum_to (suppliers job) fee)) ≤ℤ value_by charges job area row
unfolding value_by
value_reaches charges job area box net n numbers hub row r unit fee under charge c =
    let s = suppliers job in
    let number = number_of numbers in
    let dual : ℕ → ℤ = λ i. supplier_dual job area unit row.goods (neg_ℤ (number (supplier_node i))) i in
    let all = net_dual-is job area net n number hub unit charge c row.goods r.goods in
    let each = signed_sum_to-le s (λ i. pos (fee i) +ℤ dual i) (λ i. supplier_value charges job area row.goods (segment_price area row i) i)
    (λ i supplier. supplier_reaches charges job area unit fee under row.goods (neg_ℤ (number (supplier_node i))) (segment_price area row i) i supplier (box.ranges i supplier)
    (λ j some admits. r.segments i j supplier some admits)) in
    let add = signed_sum_to-add s (λ i. pos (fee i)) dual in
    let fees = signed_sum_to-pos s fee in
    omega (arith, ints)
