-- A net grows arc by arc, and becomes the net of a box.
use Rattle.std.proofs.Common.{ℕ, ◌≡◌, ◌+◌, ◌*◌, ◌<◌, ◌≤◌, ◌++◌, ◌∷◌, min, [], length, ap, subst, sym, ◌∙◌, arith, inl, inr, refl}
use Rattle.std.proofs.Common.{length-append}
use Rattle.std.proofs.lemmas.Bool.{cases_lt}
use Rattle.std.proofs.Math.ListN.{get_or-append}
use Rattle.std.proofs.lemmas.List.{get_or_push}
use Rattle.std.proofs.lemmas.Nat.{mul-le}
use Rattle.mcf_lower.specs.declared.net.Arc.{Arc}
use Rattle.mcf_lower.specs.Net.{Network, arc_of}
use Rattle.tqd_instance.specs.declared.job.Job.{Job}
use Rattle.tqd_instance.specs.Job.{goods, suppliers, stock, most}
use Rattle.tqd_instance.proofs.Jobs.{job_in_range}
use Rattle.interval_box.specs.declared.boxes.IntervalBox.{IntervalBox}
use Rattle.bound_tree.specs.Value.{cap}
use Rattle.box_bound.specs.BoxNet.{total_arc, offer_arc, need_arc, IsNetOf, HasMore, HasOffers}
use Rattle.box_bound.proofs.FlatSums.{place_before}

-- one arc more
old_arc : (net : Network) (arc : Arc) (new : Network) (a : ℕ) → new ≡ record net { arcs = net.arcs ++ arc ∷ [] } → a < length net.arcs → arc_of new a ≡ arc_of net a
old_arc net arc new a is below = ap (λ (n : Network). arc_of n a) is ∙ get_or-append net.arcs (arc ∷ []) _ a below

new_arc : (net : Network) (arc : Arc) (new : Network) (a : ℕ) → new ≡ record net { arcs = net.arcs ++ arc ∷ [] } → length net.arcs ≡ a → arc_of new a ≡ arc
new_arc net arc new a is here = ap (λ (n : Network). arc_of n a) is ∙ get_or_push net.arcs arc _ a here

length_new : (net : Network) (arc : Arc) (new : Network) → new ≡ record net { arcs = net.arcs ++ arc ∷ [] } → length new.arcs ≡ length net.arcs + 1
length_new net arc new is = ap (λ (n : Network). length n.arcs) is ∙ length-append net.arcs (arc ∷ []) ∙ refl

pub has_none : (net : Network) (next : ℕ → Arc) → HasMore net net 0 next
has_none net next = record { nodes = refl; arcs = omega arith; kept = λ a below. refl; each = λ k none. absurd (omega arith) }

pub has_one_more : (old mid new : Network) (n : ℕ) (next : ℕ → Arc) (arc : Arc) → HasMore old mid n next → new ≡ record mid { arcs = mid.arcs ++ arc ∷ [] } → arc ≡ next n
    → HasMore old new (n + 1) next
has_one_more old mid new n next arc h is here = record {
  nodes = ap (λ (n : Network). n.nodes) is ∙ h.nodes;
  arcs = omega (arith, length_new mid arc new is, h.arcs);
  kept = λ a below. old_arc mid arc new a is (omega (arith, h.arcs)) ∙ h.kept a below;
  each = λ k small. elim (cases_lt k n) [
    | inl before ↦ old_arc mid arc new (length old.arcs + k) is (omega (arith, h.arcs)) ∙ h.each k before
    | inr last ↦ (let at : n ≡ k = omega arith in new_arc mid arc new (length old.arcs + k) is (omega (arith, h.arcs)) ∙ here ∙ ap next at)
  ];
}

pub has_no_offers : (job : Job) (area : IntervalBox) (net : Network) → HasOffers job area net net 0
has_no_offers job area net = record { nodes = refl; arcs = omega arith; kept = λ a below. refl; each = λ i k none. absurd (omega arith) }

-- one supplier's arcs more
pub has_more_offers : (job : Job) (area : IntervalBox) (old mid new : Network) (n : ℕ) (next : ℕ → Arc) → HasOffers job area old mid n
    → HasMore mid new (goods job) next → ((k : ℕ) → k < goods job → next k ≡ offer_arc job area n k) → HasOffers job area old new (n + 1)
has_more_offers job area old mid new n next h m same = record {
  nodes = m.nodes ∙ h.nodes;
  arcs = omega (arith, h.arcs, m.arcs);
  kept = λ a below. m.kept a (omega (arith, h.arcs)) ∙ h.kept a below;
  each = λ i k row small. elim (cases_lt i n) [
    | inl before ↦
        m.kept (length old.arcs + (i * goods job + k)) (omega (arith, h.arcs, place_before n i (goods job) k before small)) ∙ h.each i k before small
    | inr last ↦
        (let at : n ≡ i = omega arith in
        subst (λ r. arc_of new (length old.arcs + (r * goods job + k)) ≡ offer_arc job area r k) at (here k small))
  ];
}
  where
    here : (k : ℕ) → k < goods job → arc_of new (length old.arcs + (n * goods job + k)) ≡ offer_arc job area n k
    here k small =
        let at : length old.arcs + (n * goods job + k) ≡ length mid.arcs + k = omega (arith, h.arcs) in
        ap (arc_of new) at ∙ m.each k small ∙ same k small

-- all arcs of a box's net
pub is_net : (job : Job) (area : IntervalBox) (first second third net : Network) → first ≡ record { nodes = 1 + suppliers job + goods job; arcs = [] }
    → HasMore first second (suppliers job) (total_arc job area) → HasOffers job area second third (suppliers job) → HasMore third net (goods job) (need_arc job)
    → IsNetOf job area net
is_net job area first second third net is totals offers needs =
    let none : length first.arcs ≡ 0 = ap (λ (n : Network). length n.arcs) is in
    record {
      nodes = needs.nodes ∙ offers.nodes ∙ totals.nodes ∙ ap (λ (n : Network). n.nodes) is;
      arcs = omega (arith, none, totals.arcs, offers.arcs, needs.arcs);
      totals = λ i row.
          (let at : length first.arcs + i ≡ i = omega arith in
          needs.kept i (omega (arith, none, totals.arcs, offers.arcs)) ∙ offers.kept i (omega (arith, none, totals.arcs)) ∙ sym (ap (arc_of second) at) ∙ totals.each i row);
      offers = λ i k row small.
          (let at : suppliers job + (i * goods job + k) ≡ length second.arcs + (i * goods job + k) = omega (arith, none, totals.arcs) in
          needs.kept (suppliers job + (i * goods job + k)) (omega (arith, none, totals.arcs, offers.arcs, place_before (suppliers job) i (goods job) k row small))
          ∙ ap (arc_of third) at ∙ offers.each i k row small);
      needs = λ k small.
          (let at : suppliers job + (suppliers job * goods job + k) ≡ length third.arcs + k = omega (arith, none, totals.arcs, offers.arcs) in
          ap (arc_of net) at ∙ needs.each k small);
    }

-- the arc from a supplier to a good, as the code has it
abbrev pub arc_up_to : ℕ → ℕ → ℕ → ℕ → Arc
arc_up_to tail head cap cost = record { tail = tail; head = head; low = 0; cap = cap; cost = cost }

pub same_arc : (t h u p s g v q : ℕ) → t ≡ s → h ≡ g → u ≡ v → p ≡ q → arc_up_to t h u p ≡ arc_up_to s g v q
same_arc t h u p s g v q a b c d = rw (a, b, c, d) refl

pub cap_is : (job : Job) (i k a b u : ℕ) → a ≡ stock job i k → b ≡ most job k → u ≡ min a b → u ≡ cap job i k
unfolding cap
cap_is job i k a b u s m e = omega (arith, s, m, e)

-- there is room for each arc
pub few_arcs : (job : Job) (n : ℕ) → n ≤ suppliers job + (suppliers job * goods job + goods job) → n ≤ 65064
few_arcs job n le =
    let j = job_in_range job in
    let m = mul-le (suppliers job) (goods job) 64 1000 (omega (arith, j.few_suppliers)) (omega (arith, j.few_goods)) in
    omega (arith, j.few_suppliers, j.few_goods)

-- the arcs up to those of a supplier, and one for a good, are within them
pub row_within : (job : Job) (i k : ℕ) → i < suppliers job → k < goods job → suppliers job + i * goods job + k < suppliers job + suppliers job * goods job
row_within job i k row small = omega (arith, place_before (suppliers job) i (goods job) k row small)
