-- Each relaxed purchase of a box is a circulation of its net.
use Rattle.std.proofs.Common.{ℕ, suc, ◌≡◌, ◌+◌, ◌-◌, ◌*◌, ◌<◌, ◌≤◌, if◌then◌else◌, refl, ap, subst, sym, ◌∙◌, arith, inl, inr}
use Rattle.std.specs.Prelude.{nat_lt}
use Rattle.std.proofs.lemmas.Bool.{cases_lt, lt-ltb, le-ltb}
use Rattle.tqd_base.specs.Sum.{sum_to}
use Rattle.mcf_lower.specs.Net.{Network, arc_of}
use Rattle.mcf_lower.specs.Circulation.{IsCirculation, inflow, outflow}
use Rattle.tqd_instance.specs.declared.job.Job.{Job}
use Rattle.tqd_instance.specs.Job.{goods, suppliers}
use Rattle.tqd_instance.specs.Purchase.{Purchase, total, bought}
use Rattle.tqd_instance.proofs.SumLemmas.{sum_to-same, sum_to-swap, sum_to-term}
use Rattle.interval_box.specs.declared.boxes.IntervalBox.{IntervalBox}
use Rattle.bound_tree.specs.Value.{cap}
use Rattle.box_bound.specs.Relaxed.{Relaxed}
use Rattle.box_bound.specs.BoxNet.{supplier_node, good_node, offer_place, need_place, IsNetOf}
use Rattle.box_bound.proofs.FlatSums.{flat, flat-at, by_rows}
use Rattle.box_bound.proofs.Balances.{supplier_in, supplier_out, good_in, good_out, hub_in, hub_out}

-- a flow that carries a purchase
pub record Carries (job : Job) (x : Purchase) (flow : ℕ → ℕ) : Type 0 where
  pub totals : (i : ℕ) → i < suppliers job → flow i ≡ total job x i
  pub offers : (i k : ℕ) → i < suppliers job → k < goods job → flow (offer_place job i k) ≡ x i k
  pub needs : (k : ℕ) → k < goods job → flow (need_place job k) ≡ bought job x k

-- the rows of a purchase, and below them what is bought of each good
abbrev with_bought : Job → Purchase → ℕ → ℕ → ℕ
with_bought job x i k = if nat_lt i (suppliers job) then x i k else bought job x k

abbrev pub flow_of : Job → Purchase → ℕ → ℕ
flow_of job x a = if nat_lt a (suppliers job) then total job x a else flat (goods job) (with_bought job x) (suc (suppliers job)) (a - suppliers job)

in_table : (job : Job) (x : Purchase) (i k : ℕ) → i < suc (suppliers job) → k < goods job → flow_of job x (offer_place job i k) ≡ with_bought job x i k
in_table job x i k row below =
    let s = suppliers job in
    let g = goods job in
    let at : offer_place job i k - s ≡ i * g + k = omega arith in
    rw (le-ltb (offer_place job i k) s (omega arith))
    (ap (λ b. flat g (with_bought job x) (suc s) b) at ∙ flat-at g (with_bought job x) (suc s) i k row below)

pub carries : (job : Job) (x : Purchase) → Carries job x (flow_of job x)
carries job x = record {
  totals = λ i below. total_at i below;
  offers = λ i k row below. in_table job x i k (omega arith) below ∙ inside i k row;
  needs = λ k below. in_table job x (suppliers job) k (omega arith) below ∙ outside k;
}
  where
    total_at : (i : ℕ) → i < suppliers job → flow_of job x i ≡ total job x i
    total_at i below = rw (lt-ltb i (suppliers job) below) refl

    inside : (i k : ℕ) → i < suppliers job → with_bought job x i k ≡ x i k
    inside i k row = rw (lt-ltb i (suppliers job) row) refl

    outside : (k : ℕ) → with_bought job x (suppliers job) k ≡ bought job x k
    outside k = rw (le-ltb (suppliers job) (suppliers job) (omega arith)) refl

-- what holds of each kind of arc holds of all
pub every_arc : (job : Job) (P : ℕ → Type 0) → ((i : ℕ) → i < suppliers job → P i)
    → ((i k : ℕ) → i < suppliers job → k < goods job → P (offer_place job i k)) → ((k : ℕ) → k < goods job → P (need_place job k))
    → (a : ℕ) → a < suppliers job + (suppliers job * goods job + goods job) → P a
every_arc job P totals offers needs a below = elim (cases_lt a (suppliers job)) [
  | inl first ↦ totals a first
  | inr past ↦
      (let at : suppliers job + (a - suppliers job) ≡ a = omega arith in
      let within : a - suppliers job < suc (suppliers job) * goods job = omega arith in
      subst P at (by_rows (λ b. P (suppliers job + b)) (suc (suppliers job)) (goods job) (λ i k row small. in_row i k row small) (a - suppliers job) within))
]
  where
    in_row : (i k : ℕ) → i < suc (suppliers job) → k < goods job → P (offer_place job i k)
    in_row i k row small = elim (cases_lt i (suppliers job)) [
      | inl before ↦ offers i k before small
      | inr last ↦ (let here : suppliers job ≡ i = omega arith in subst (λ j. P (offer_place job j k)) here (needs k small))
    ]

-- and likewise of nodes
pub every_node : (job : Job) (P : ℕ → Type 0) → P 0 → ((i : ℕ) → i < suppliers job → P (supplier_node i)) → ((k : ℕ) → k < goods job → P (good_node job k))
    → (v : ℕ) → v < 1 + suppliers job + goods job → P v
every_node job P hub sells goods_too v below = elim (cases_lt 0 v) [
  | inl some ↦ elim (cases_lt v (1 + suppliers job)) [
    | inl supplier ↦ (let at : supplier_node (v - 1) ≡ v = omega arith in subst P at (sells (v - 1) (omega arith)))
    | inr good ↦
        (let at : good_node job (v - (1 + suppliers job)) ≡ v = omega arith in
        subst P at (goods_too (v - (1 + suppliers job)) (omega arith)))
  ]
  | inr none ↦ (let at : 0 ≡ v = omega arith in subst P at hub)
]

-- what a supplier sells of a good in a relaxed purchase is within its cap
within_cap : (job : Job) (area : IntervalBox) (x : Purchase) → Relaxed job area x → (i k : ℕ) → i < suppliers job → k < goods job → x i k ≤ cap job i k
unfolding cap bought
within_cap job area x r i k supplier good = omega (arith, r.stocks i k supplier good, (r.needs k good).not_more, sum_to-term (suppliers job) (λ j. x j k) i supplier)

-- all totals together are all that is bought
all_bought : (job : Job) (x : Purchase) → sum_to (suppliers job) (total job x) ≡ sum_to (goods job) (bought job x)
unfolding total bought
all_bought job x = sum_to-swap (suppliers job) (goods job) x

total_is : (job : Job) (x : Purchase) (i : ℕ) → total job x i ≡ sum_to (goods job) (x i)
unfolding total
total_is job x i = refl

bought_is : (job : Job) (x : Purchase) (k : ℕ) → bought job x k ≡ sum_to (suppliers job) (λ i. x i k)
unfolding bought
bought_is job x k = refl

balanced : (job : Job) (area : IntervalBox) (net : Network) → IsNetOf job area net → (x : Purchase) (flow : ℕ → ℕ) → Carries job x flow
    → (v : ℕ) → v < 1 + suppliers job + goods job → inflow net flow v ≡ outflow net flow v
balanced job area net n x flow c = every_node job (λ v. inflow net flow v ≡ outflow net flow v)
    (hub_in job area net n flow
    ∙ sum_to-same (goods job) (λ k. flow (need_place job k)) (bought job x) c.needs
    ∙ sym (all_bought job x)
    ∙ sym (sum_to-same (suppliers job) flow (total job x) c.totals)
    ∙ sym (hub_out job area net n flow))
    (λ i below. supplier_in job area net n flow i below
    ∙ c.totals i below
    ∙ total_is job x i
    ∙ sym (sum_to-same (goods job) (λ k. flow (offer_place job i k)) (x i) (λ k small. c.offers i k below small))
    ∙ sym (supplier_out job area net n flow i below))
    (λ k below. good_in job area net n flow k below
    ∙ sum_to-same (suppliers job) (λ i. flow (offer_place job i k)) (λ i. x i k) (λ i row. c.offers i k row below)
    ∙ sym (bought_is job x k)
    ∙ sym (c.needs k below)
    ∙ sym (good_out job area net n flow k below))

pub circulates : (job : Job) (area : IntervalBox) (net : Network) → IsNetOf job area net → (x : Purchase) → Relaxed job area x
    → (flow : ℕ → ℕ) → Carries job x flow → IsCirculation net flow
circulates job area net n x r flow c = record {
  low = λ a below. every_arc job (λ a. (arc_of net a).low ≤ flow a)
      (λ i row. omega (arith, ap (λ a. a.low) (n.totals i row), c.totals i row, (r.totals i row).from_least))
      (λ i k row small. omega (arith, ap (λ a. a.low) (n.offers i k row small)))
      (λ k small. omega (arith, ap (λ a. a.low) (n.needs k small), c.needs k small, (r.needs k small).enough))
      a (omega (arith, n.arcs));
  cap = λ a below. every_arc job (λ a. flow a ≤ (arc_of net a).cap)
      (λ i row. omega (arith, ap (λ a. a.cap) (n.totals i row), c.totals i row, (r.totals i row).to_greatest))
      (λ i k row small. omega (arith, ap (λ a. a.cap) (n.offers i k row small), c.offers i k row small, within_cap job area x r i k row small))
      (λ k small. omega (arith, ap (λ a. a.cap) (n.needs k small), c.needs k small, (r.needs k small).not_more))
      a (omega (arith, n.arcs));
  balance = λ v below. balanced job area net n x flow c v (omega (arith, n.nodes));
}
