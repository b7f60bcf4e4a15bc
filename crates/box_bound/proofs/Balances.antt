-- What comes to each node of a box's net, and what leaves it, whatever flows.
use Rattle.std.proofs.Common.{ℕ, ◌≡◌, ◌+◌, ◌*◌, ◌<◌, ◌==◌, if◌then◌else◌, length, ap, ◌∙◌, arith, ℤ, ◌+ℤ◌}
use Rattle.std.proofs.lemmas.Int.{ints}
use Rattle.tqd_instance.specs.declared.job.Job.{Job}
use Rattle.tqd_instance.specs.Job.{goods, suppliers}
use Rattle.tqd_base.specs.Sum.{sum_to, signed_sum_to}
use Rattle.mcf_lower.specs.Net.{Network, arc_of}
use Rattle.mcf_lower.specs.Circulation.{inflow, outflow}
use Rattle.mcf_lower.proofs.Sums.{if_same, if_other}
use Rattle.tqd_instance.proofs.SumLemmas.{sum_to-same, sum_to-zeros}
use Rattle.interval_box.specs.declared.boxes.IntervalBox.{IntervalBox}
use Rattle.box_bound.specs.BoxNet.{supplier_node, good_node, offer_place, need_place, IsNetOf}
use Rattle.box_bound.proofs.FlatSums.{sum_to-cut, signed_sum_to-cut, sum_to-rows, signed_sum_to-rows, sum_to-only}

-- a sum over the arcs by their kinds
pub over_arcs : (job : Job) (area : IntervalBox) (net : Network) → IsNetOf job area net → (f : ℕ → ℕ)
    → sum_to (length net.arcs) f ≡ sum_to (suppliers job) f
    + (sum_to (suppliers job) (λ i. sum_to (goods job) (λ k. f (offer_place job i k))) + sum_to (goods job) (λ k. f (need_place job k)))
over_arcs job area net n f =
    let s = suppliers job in
    let g = goods job in
    let all = ap (λ m. sum_to m f) n.arcs in
    let first = sum_to-cut s (s * g + g) f in
    let second = sum_to-cut (s * g) g (λ b. f (s + b)) in
    let rows = sum_to-rows s g (λ b. f (s + b)) in
    omega arith

pub signed_over_arcs : (job : Job) (area : IntervalBox) (net : Network) → IsNetOf job area net → (f : ℕ → ℤ)
    → signed_sum_to (length net.arcs) f ≡ signed_sum_to (suppliers job) f
    +ℤ (signed_sum_to (suppliers job) (λ i. signed_sum_to (goods job) (λ k. f (offer_place job i k))) +ℤ signed_sum_to (goods job) (λ k. f (need_place job k)))
signed_over_arcs job area net n f =
    let s = suppliers job in
    let g = goods job in
    let all = ap (λ m. signed_sum_to m f) n.arcs in
    let first = signed_sum_to-cut s (s * g + g) f in
    let second = signed_sum_to-cut (s * g) g (λ b. f (s + b)) in
    let rows = signed_sum_to-rows s g (λ b. f (s + b)) in
    omega (arith, ints)

-- to a supplier comes its total
pub supplier_in : (job : Job) (area : IntervalBox) (net : Network) → IsNetOf job area net → (flow : ℕ → ℕ) (i : ℕ) → i < suppliers job
    → inflow net flow (supplier_node i) ≡ flow i
supplier_in job area net n flow i below =
    let s = suppliers job in
    let g = goods job in
    let f : ℕ → ℕ = λ a. if (arc_of net a).head == supplier_node i then flow a else 0 in
    let totals = sum_to-only s f i below (λ j l other. if_other (arc_of net j).head (supplier_node i) (flow j)
    (λ e. other (omega (arith, e, ap (λ a. a.head) (n.totals j l))))) in
    let here : f i ≡ flow i = if_same (arc_of net i).head (supplier_node i) (flow i) (ap (λ a. a.head) (n.totals i below)) in
    let offers = sum_to-zeros s (λ j. sum_to g (λ k. f (offer_place job j k)))
    (λ j l. sum_to-zeros g (λ k. f (offer_place job j k)) (λ k m. if_other (arc_of net (offer_place job j k)).head (supplier_node i) (flow (offer_place job j k))
    (λ e. omega (arith, e, below, ap (λ a. a.head) (n.offers j k l m))))) in
    let needs = sum_to-zeros g (λ k. f (need_place job k))
    (λ k m. if_other (arc_of net (need_place job k)).head (supplier_node i) (flow (need_place job k)) (λ e. omega (arith, e, ap (λ a. a.head) (n.needs k m)))) in
    omega (arith, over_arcs job area net n f)

-- from a supplier go the units of all goods
pub supplier_out : (job : Job) (area : IntervalBox) (net : Network) → IsNetOf job area net → (flow : ℕ → ℕ) (i : ℕ) → i < suppliers job
    → outflow net flow (supplier_node i) ≡ sum_to (goods job) (λ k. flow (offer_place job i k))
supplier_out job area net n flow i below =
    let s = suppliers job in
    let g = goods job in
    let f : ℕ → ℕ = λ a. if (arc_of net a).tail == supplier_node i then flow a else 0 in
    let totals = sum_to-zeros s f (λ j l. if_other (arc_of net j).tail (supplier_node i) (flow j) (λ e. omega (arith, e, ap (λ a. a.tail) (n.totals j l)))) in
    let offers = sum_to-only s (λ j. sum_to g (λ k. f (offer_place job j k))) i below
    (λ j l other. sum_to-zeros g (λ k. f (offer_place job j k)) (λ k m. if_other (arc_of net (offer_place job j k)).tail (supplier_node i) (flow (offer_place job j k))
    (λ e. other (omega (arith, e, ap (λ a. a.tail) (n.offers j k l m)))))) in
    let here = sum_to-same g (λ k. f (offer_place job i k)) (λ k. flow (offer_place job i k))
    (λ k m. if_same (arc_of net (offer_place job i k)).tail (supplier_node i) (flow (offer_place job i k)) (ap (λ a. a.tail) (n.offers i k below m))) in
    let needs = sum_to-zeros g (λ k. f (need_place job k))
    (λ k m. if_other (arc_of net (need_place job k)).tail (supplier_node i) (flow (need_place job k)) (λ e. omega (arith, e, below, ap (λ a. a.tail) (n.needs k m)))) in
    omega (arith, over_arcs job area net n f)

-- to a good come the units of all suppliers
pub good_in : (job : Job) (area : IntervalBox) (net : Network) → IsNetOf job area net → (flow : ℕ → ℕ) (k : ℕ) → k < goods job
    → inflow net flow (good_node job k) ≡ sum_to (suppliers job) (λ i. flow (offer_place job i k))
good_in job area net n flow k below =
    let s = suppliers job in
    let g = goods job in
    let f : ℕ → ℕ = λ a. if (arc_of net a).head == good_node job k then flow a else 0 in
    let totals = sum_to-zeros s f (λ j l. if_other (arc_of net j).head (good_node job k) (flow j) (λ e. omega (arith, e, l, ap (λ a. a.head) (n.totals j l)))) in
    let offers = sum_to-same s (λ j. sum_to g (λ m. f (offer_place job j m))) (λ j. flow (offer_place job j k))
    (λ j l. sum_to-only g (λ m. f (offer_place job j m)) k below (λ m b other. if_other (arc_of net (offer_place job j m)).head (good_node job k) (flow (offer_place job j m))
    (λ e. other (omega (arith, e, ap (λ a. a.head) (n.offers j m l b)))))
    ∙ if_same (arc_of net (offer_place job j k)).head (good_node job k) (flow (offer_place job j k)) (ap (λ a. a.head) (n.offers j k l below))) in
    let needs = sum_to-zeros g (λ m. f (need_place job m))
    (λ m b. if_other (arc_of net (need_place job m)).head (good_node job k) (flow (need_place job m)) (λ e. omega (arith, e, ap (λ a. a.head) (n.needs m b)))) in
    omega (arith, over_arcs job area net n f)

-- from a good goes what is bought of it
pub good_out : (job : Job) (area : IntervalBox) (net : Network) → IsNetOf job area net → (flow : ℕ → ℕ) (k : ℕ) → k < goods job
    → outflow net flow (good_node job k) ≡ flow (need_place job k)
good_out job area net n flow k below =
    let s = suppliers job in
    let g = goods job in
    let f : ℕ → ℕ = λ a. if (arc_of net a).tail == good_node job k then flow a else 0 in
    let totals = sum_to-zeros s f (λ j l. if_other (arc_of net j).tail (good_node job k) (flow j) (λ e. omega (arith, e, ap (λ a. a.tail) (n.totals j l)))) in
    let offers = sum_to-zeros s (λ j. sum_to g (λ m. f (offer_place job j m)))
    (λ j l. sum_to-zeros g (λ m. f (offer_place job j m)) (λ m b. if_other (arc_of net (offer_place job j m)).tail (good_node job k) (flow (offer_place job j m))
    (λ e. omega (arith, e, l, ap (λ a. a.tail) (n.offers j m l b))))) in
    let needs = sum_to-only g (λ m. f (need_place job m)) k below (λ m b other. if_other (arc_of net (need_place job m)).tail (good_node job k) (flow (need_place job m))
    (λ e. other (omega (arith, e, ap (λ a. a.tail) (n.needs m b))))) in
    let here : f (need_place job k) ≡ flow (need_place job k) =
    if_same (arc_of net (need_place job k)).tail (good_node job k) (flow (need_place job k)) (ap (λ a. a.tail) (n.needs k below)) in
    omega (arith, over_arcs job area net n f)

-- to the hub comes what is bought of all goods, and from it go all totals
pub hub_in : (job : Job) (area : IntervalBox) (net : Network) → IsNetOf job area net → (flow : ℕ → ℕ)
    → inflow net flow 0 ≡ sum_to (goods job) (λ k. flow (need_place job k))
hub_in job area net n flow =
    let s = suppliers job in
    let g = goods job in
    let f : ℕ → ℕ = λ a. if (arc_of net a).head == 0 then flow a else 0 in
    let totals = sum_to-zeros s f (λ j l. if_other (arc_of net j).head 0 (flow j) (λ e. omega (arith, e, ap (λ a. a.head) (n.totals j l)))) in
    let offers = sum_to-zeros s (λ j. sum_to g (λ m. f (offer_place job j m)))
    (λ j l. sum_to-zeros g (λ m. f (offer_place job j m)) (λ m b. if_other (arc_of net (offer_place job j m)).head 0 (flow (offer_place job j m))
    (λ e. omega (arith, e, ap (λ a. a.head) (n.offers j m l b))))) in
    let needs = sum_to-same g (λ m. f (need_place job m)) (λ m. flow (need_place job m))
    (λ m b. if_same (arc_of net (need_place job m)).head 0 (flow (need_place job m)) (ap (λ a. a.head) (n.needs m b))) in
    omega (arith, over_arcs job area net n f)

pub hub_out : (job : Job) (area : IntervalBox) (net : Network) → IsNetOf job area net → (flow : ℕ → ℕ) → outflow net flow 0 ≡ sum_to (suppliers job) flow
hub_out job area net n flow =
    let s = suppliers job in
    let g = goods job in
    let f : ℕ → ℕ = λ a. if (arc_of net a).tail == 0 then flow a else 0 in
    let totals = sum_to-same s f flow (λ j l. if_same (arc_of net j).tail 0 (flow j) (ap (λ a. a.tail) (n.totals j l))) in
    let offers = sum_to-zeros s (λ j. sum_to g (λ m. f (offer_place job j m)))
    (λ j l. sum_to-zeros g (λ m. f (offer_place job j m)) (λ m b. if_other (arc_of net (offer_place job j m)).tail 0 (flow (offer_place job j m))
    (λ e. omega (arith, e, ap (λ a. a.tail) (n.offers j m l b))))) in
    let needs = sum_to-zeros g (λ m. f (need_place job m))
    (λ m b. if_other (arc_of net (need_place job m)).tail 0 (flow (need_place job m)) (λ e. omega (arith, e, ap (λ a. a.tail) (n.needs m b)))) in
    omega (arith, over_arcs job area net n f)
