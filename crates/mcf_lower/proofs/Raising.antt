use Rattle.std.proofs.Common.{◌≡◌, ℕ, ◌+◌, ◌-◌, ◌<◌, ◌≤◌, ◌≢◌, List, get_or, set, ap, ◌∙◌, ⊎_elim, arith}
use Rattle.std.proofs.lemmas.Bool.{cases_lt, cases_eq}
use Rattle.mcf_lower.specs.declared.labels.Labels.{Labels}
use Rattle.mcf_lower.specs.declared.labels.TheConstants.{UNSETTLED}
use Rattle.mcf_lower.specs.declared.net.TheConstants.{NODES_MAX}
use Rattle.mcf_lower.specs.Net.{Network, IsNetwork}
use Rattle.mcf_lower.specs.Edges.{edge_of}
use Rattle.mcf_lower.specs.Tree.{IsPriced, Tree}
use Rattle.mcf_lower.specs.Search.{IsFound, number_max, start_max}
use Rattle.mcf_lower.specs.Pseudoflow.{IsRaised, IsPath}
use Rattle.mcf_lower.proofs.Edges.{IsEdge-of}
use Rattle.mcf_lower.proofs.Trees.{set_other}

far_settled : (net : Network) (room supply numbers : List ℕ) (l : Labels) (s : ℕ) → Tree net room numbers l → IsFound net room supply numbers l s
    → (v : ℕ) → v < net.nodes → get_or l.distance.items v 0 < get_or l.distance.items s 0 → get_or l.rank.items v 0 < UNSETTLED
far_settled net room supply numbers l s t f v h d = ⊎_elim
    (λ (z : get_or l.rank.items v 0 < UNSETTLED). z)
    (λ (z : UNSETTLED ≤ get_or l.rank.items v 0). absurd (omega (arith, t.order s v f.last.inside h f.last.settled (omega (arith, t.most v h)))))
    (cases_lt (get_or l.rank.items v 0) UNSETTLED)

pub IsPriced-raised : (net : Network) (room supply numbers : List ℕ) (l : Labels) (s : ℕ) (raised : List ℕ) → IsNetwork net → Tree net room numbers l
    → IsFound net room supply numbers l s → IsPriced net room numbers → IsRaised numbers l.distance.items (get_or l.distance.items s 0) raised → IsPriced net room raised
IsPriced-raised net room supply numbers l s raised n t f p r = record {
  rooms = p.rooms;
  nodes = r.length_same ∙ p.nodes;
  each = λ e h x.
      let d = IsEdge-of net n e h in
      let a = r.each (edge_of net e).start (omega (arith, p.nodes, d.start)) in
      let b = r.each (edge_of net e).finish (omega (arith, p.nodes, d.finish)) in
      ⊎_elim
      (λ (z : get_or l.distance.items (edge_of net e).finish 0 < get_or l.distance.items s 0).
      let k = far_settled net room supply numbers l s t f (edge_of net e).finish d.finish z in
      let c = f.closed.each e h (λ q. let w = ap (λ y. get_or l.distance.items y 0) q in omega arith) k x in
      omega (arith, p.each e h x))
      (λ (z : get_or l.distance.items s 0 ≤ get_or l.distance.items (edge_of net e).finish 0). omega (arith, p.each e h x))
      (cases_lt (get_or l.distance.items (edge_of net e).finish 0) (get_or l.distance.items s 0));
}

pub IsPath-raised : (net : Network) (room supply numbers : List ℕ) (l : Labels) (s : ℕ) (raised : List ℕ) → IsNetwork net → Tree net room numbers l
    → IsFound net room supply numbers l s → IsPriced net room numbers → IsRaised numbers l.distance.items (get_or l.distance.items s 0) raised
    → IsPath net room raised l (get_or l.distance.items s 0)
IsPath-raised net room supply numbers l s raised n t f p r = record {
  parents = t.parents;
  step = λ v h d nr.
      let q = t.settled s f.last.inside f.last.settled in
      let o = t.tree v h (omega arith) nr in
      let w = t.near v h (omega arith) in
      let e : ℕ = get_or l.parent.items v 0 in
      let k = IsEdge-of net n e o.inside in
      let a = r.each v (omega (arith, p.nodes)) in
      let b = r.each (edge_of net e).finish (omega (arith, p.nodes, k.finish)) in
      let c = p.each e o.inside (omega (arith, o.takes, w.wide)) in
      let g = ap (λ y. get_or numbers y 0) o.start in
      record {
        inside = o.inside;
        start = o.start;
        earlier = o.earlier;
        nearer = omega (arith, o.longer);
        takes = o.takes;
        narrower = o.narrower;
        even = omega (arith, o.longer);
      };
}

-- a number that is raised comes to at most two paths' cost above the number of the node with supply
pub small_raised : (net : Network) (room supply numbers : List ℕ) (l : Labels) (s : ℕ) → Tree net room numbers l → l.settled ≤ NODES_MAX
    → IsFound net room supply numbers l s → get_or numbers s 0 ≤ start_max → (v : ℕ) → v < net.nodes → get_or numbers v 0 ≤ number_max
    → get_or numbers v 0 + (get_or l.distance.items s 0 - get_or l.distance.items v 0) ≤ number_max
small_raised net room supply numbers l s t few f b v h m = ⊎_elim
    (λ (z : get_or l.distance.items v 0 < get_or l.distance.items s 0).
    let q = t.settled s f.last.inside f.last.settled in
    let o = t.near v h (omega arith) in
    let w = t.near s f.last.inside q in
    omega (arith, o.below, w.above))
    (λ (z : get_or l.distance.items s 0 ≤ get_or l.distance.items v 0). omega arith)
    (cases_lt (get_or l.distance.items v 0) (get_or l.distance.items s 0))

pub still_supplied : (supply : List ℕ) (s x v : ℕ) → 0 < get_or supply s 0 → 0 < get_or (set supply s x) v 0 → 0 < get_or supply v 0
still_supplied supply s x v h k = ⊎_elim
    (λ (z : v ≡ s). let q = ap (λ w. get_or supply w 0) z in omega arith)
    (λ (z : v ≢ s). omega (arith, set_other supply s x v z))
    (cases_eq v s)
