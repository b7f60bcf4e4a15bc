use Rattle.std.proofs.Common.{◌≡◌, ℕ, ◌+◌, ◌-◌, ◌*◌, ◌<◌, ◌≤◌, ◌==◌, ◌&&◌, not, if◌then◌else◌, Bool, true, false, ltb, List, length, get_or, refl, subst, sym, ap, ◌∙◌, ⊎_elim, arith, pos}
use Rattle.std.proofs.lemmas.Bool.{cases_lt, ltb-true, ltb-false, lt-ltb, cases_Bool}
use Rattle.std.proofs.lemmas.Int.{ints}
use Rattle.mcf_lower.specs.declared.edge.Edge.{Edge}
use Rattle.mcf_lower.specs.declared.labels.Labels.{Labels}
use Rattle.mcf_lower.specs.declared.labels.TheConstants.{UNSETTLED}
use Rattle.mcf_lower.specs.declared.pseudoflow.Pseudoflow.{Pseudoflow}
use Rattle.tqd_base.specs.Sum.{sum_to}
use Rattle.mcf_lower.specs.Net.{Network, IsNetwork, arc_of}
use Rattle.mcf_lower.specs.Circulation.{IsCut, Fits, inflow, outflow}
use Rattle.mcf_lower.specs.Edges.{edges, edge_of, back}
use Rattle.mcf_lower.specs.Tree.{IsPriced}
use Rattle.mcf_lower.specs.Pseudoflow.{carried, IsBounded, IsBalanced, IsPseudoflow, IsCutOff, AreCarried, AreSettled}
use Rattle.mcf_lower.specs.Units.{AreUnits}
use Rattle.mcf_lower.specs.Answers.{units_of, has_of, IsFlow, IsCutSet}
use Rattle.mcf_lower.proofs.Sums.{sum_to-ext, sum_to-add, sum_to-swap, sum_to-zero, sum_to-times_add, term-le-sum_to}
use Rattle.mcf_lower.proofs.Circulations.{cut_excludes}
use Rattle.mcf_lower.proofs.Edges.{edge_of-along, edge_of-back, IsEdge-of}
use Rattle.mcf_lower.proofs.Rooms.{carried-le}

-- weighed by nodes, what comes and what lacks are what leaves and what is to be sent on
weighed : (net : Network) (room : List ℕ) (supply demand w : ℕ → ℕ) → IsNetwork net → IsBalanced net room supply demand
    → sum_to (length net.arcs) (λ a. w (arc_of net a).head * carried net room a) + sum_to net.nodes (λ v. w v * demand v)
    ≡ sum_to (length net.arcs) (λ a. w (arc_of net a).tail * carried net room a) + sum_to net.nodes (λ v. w v * supply v)
weighed net room supply demand w n b =
    let i = sum_to-swap net.nodes (length net.arcs) w (carried net room) (λ a. (arc_of net a).head) (λ a l. (n.each a l).head) in
    let o = sum_to-swap net.nodes (length net.arcs) w (carried net room) (λ a. (arc_of net a).tail) (λ a l. (n.each a l).tail) in
    let e = sum_to-ext net.nodes (λ v. w v * (inflow net (carried net room) v + demand v)) (λ v. w v * (outflow net (carried net room) v + supply v)) (λ v l. ap (λ x. w v * x) (b.each v l)) in
    let x = sum_to-times_add net.nodes w (inflow net (carried net room)) demand in
    let y = sum_to-times_add net.nodes w (outflow net (carried net room)) supply in
    omega arith

-- where no node lacks a unit, none has one to send on
no_supply : (net : Network) (room : List ℕ) (supply demand : ℕ → ℕ) → IsNetwork net → IsBalanced net room supply demand
    → ((v : ℕ) → v < net.nodes → demand v ≡ 0) → (v : ℕ) → v < net.nodes → supply v ≡ 0
no_supply net room supply demand n b z v l =
    let w = weighed net room supply demand (λ u. 1) n b in
    let d = sum_to-zero net.nodes (λ u. 1 * demand u) (λ u h. omega (arith, z u h)) in
    let s = term-le-sum_to net.nodes (λ u. 1 * supply u) v l in
    omega arith

pub IsFlow-served : (net : Network) (p : Pseudoflow) (flow : List ℕ) → IsNetwork net → IsPseudoflow net p → ((v : ℕ) → v < net.nodes → get_or p.demand.items v 0 ≡ 0)
    → AreCarried net p.room.items flow → IsFlow net flow
IsFlow-served net p flow n f z c = record {
  arcs = c.arcs;
  circulation = record {
    low = λ a l. omega (arith, c.each a l);
    cap = λ a l. omega (arith, c.each a l, f.bounded.each a l);
    balance = λ v l.
        let s = no_supply net p.room.items (λ u. get_or p.supply.items u 0) (λ u. get_or p.demand.items u 0) n f.balanced z v l in
        let i = sum_to-ext (length net.arcs) (λ a. if (arc_of net a).head == v then units_of flow a else 0) (λ a. if (arc_of net a).head == v then carried net p.room.items a else 0)
        (λ a h. ap (λ x. if (arc_of net a).head == v then x else 0) (c.each a h)) in
        let o = sum_to-ext (length net.arcs) (λ a. if (arc_of net a).tail == v then units_of flow a else 0) (λ a. if (arc_of net a).tail == v then carried net p.room.items a else 0)
        (λ a h. ap (λ x. if (arc_of net a).tail == v then x else 0) (c.each a h)) in
        omega (arith, f.balanced.each v l, z v l);
  };
}

abbrev IsPricedEdge : List ℕ → Edge → Type 0
IsPricedEdge numbers edge = get_or numbers edge.finish 0 + edge.minus ≤ get_or numbers edge.start 0 + edge.plus

pub Fits-priced : (net : Network) (room numbers flow : List ℕ) → IsBounded net room → IsPriced net room numbers → AreCarried net room flow
    → Fits net (units_of flow) (λ v. pos (get_or numbers v 0))
Fits-priced net room numbers flow b p c = record {
  low = λ a l r. ⊎_elim
      (λ (z : 0 < get_or room (a + length net.arcs) 0).
      let q : edge_of net (a + length net.arcs) ≡ back (arc_of net a) =
      edge_of-back net (a + length net.arcs) (omega arith) ∙ ap (λ x. back (arc_of net x)) (let w : a + length net.arcs - length net.arcs ≡ a = omega arith in w) in
      let k = subst (IsPricedEdge numbers) q (p.each (a + length net.arcs) (omega arith) z) in
      absurd (omega (arith, ints)))
      (λ (z : get_or room (a + length net.arcs) 0 ≤ 0). omega (arith, c.each a l))
      (cases_lt 0 (get_or room (a + length net.arcs) 0));
  cap = λ a l r. ⊎_elim
      (λ (z : 0 < get_or room a 0).
      let k = subst (IsPricedEdge numbers) (edge_of-along net a l) (p.each a (omega arith) z) in
      absurd (omega (arith, ints)))
      (λ (z : get_or room a 0 ≤ 0). omega (arith, c.each a l, b.each a l))
      (cases_lt 0 (get_or room a 0));
}

pub AreUnits-carried : (net : Network) (room flow : List ℕ) → IsNetwork net → IsBounded net room → AreCarried net room flow → AreUnits flow
AreUnits-carried net room flow n b c = record {
  most = λ a l. let h : a < length net.arcs = omega (arith, c.arcs) in omega (arith, c.each a h, carried-le net room a b h, (n.each a h).flow);
}

-- no edge with room leads from a node that is not settled to one that is
no_room : (net : Network) (p : Pseudoflow) (l : Labels) (e : ℕ) → IsPseudoflow net p → IsCutOff net p l → e < edges net
    → get_or l.rank.items (edge_of net e).finish 0 < UNSETTLED → UNSETTLED ≤ get_or l.rank.items (edge_of net e).start 0 → get_or p.room.items e 0 ≡ 0
no_room net p l e f o h s u = ⊎_elim
    (λ (z : 0 < get_or p.room.items e 0).
    let d = IsEdge-of net o.network e h in
    let m = o.stuck.closed.each e h s z in
    let w = o.tree.near (edge_of net e).finish d.finish (o.tree.settled (edge_of net e).finish d.finish s) in
    absurd (omega (arith, o.stuck.far (edge_of net e).start d.start (omega (arith, m, w.above, o.few, f.small (edge_of net e).finish d.finish, f.small (edge_of net e).start d.start, d.plus)))))
    (λ (z : get_or p.room.items e 0 ≤ 0). omega arith)
    (cases_lt 0 (get_or p.room.items e 0))

-- an arc that crosses a set carries its low outward and its cap inward
exact_crossing : (t h : Bool) (low cap f : ℕ) → (t ≡ true → h ≡ false → f ≡ low) → (t ≡ false → h ≡ true → f ≡ cap)
    → (if t && not h then low else 0) + (if h then 1 else 0) * f ≡ (if not t && h then cap else 0) + (if t then 1 else 0) * f
exact_crossing true true low cap f l c = omega arith
exact_crossing true false low cap f l c = omega (arith, l refl refl)
exact_crossing false true low cap f l c = omega (arith, c refl refl)
exact_crossing false false low cap f l c = omega arith

leaving : (net : Network) (p : Pseudoflow) (l : Labels) (a : ℕ) → IsPseudoflow net p → IsCutOff net p l → a < length net.arcs
    → get_or l.rank.items (arc_of net a).tail 0 < UNSETTLED → UNSETTLED ≤ get_or l.rank.items (arc_of net a).head 0 → carried net p.room.items a ≡ (arc_of net a).low
leaving net p l a f o h s u =
    let q : edge_of net (a + length net.arcs) ≡ back (arc_of net a) =
    edge_of-back net (a + length net.arcs) (omega arith) ∙ ap (λ x. back (arc_of net x)) (let w : a + length net.arcs - length net.arcs ≡ a = omega arith in w) in
    let x = ap (λ (e : Edge). get_or l.rank.items e.finish 0) q in
    let y = ap (λ (e : Edge). get_or l.rank.items e.start 0) q in
    omega (arith, no_room net p l (a + length net.arcs) f o (omega arith) (omega arith) (omega arith))

entering : (net : Network) (p : Pseudoflow) (l : Labels) (a : ℕ) → IsPseudoflow net p → IsCutOff net p l → a < length net.arcs
    → UNSETTLED ≤ get_or l.rank.items (arc_of net a).tail 0 → get_or l.rank.items (arc_of net a).head 0 < UNSETTLED → carried net p.room.items a ≡ (arc_of net a).cap
entering net p l a f o h u s =
    let q = edge_of-along net a h in
    let x = ap (λ (e : Edge). get_or l.rank.items e.finish 0) q in
    let y = ap (λ (e : Edge). get_or l.rank.items e.start 0) q in
    omega (arith, no_room net p l a f o (omega arith) (omega arith) (omega arith), f.bounded.each a h)

abbrev one_if : Bool → ℕ
one_if b = if b then 1 else 0

IsCut-off : (net : Network) (p : Pseudoflow) (l : Labels) (members : List Bool) → IsPseudoflow net p → IsCutOff net p l → AreSettled l.rank.items members
    → IsCut net (has_of members)
IsCut-off net p l members f o a =
    let m = length net.arcs in
    let has : ℕ → Bool = has_of members in
    let tail : ℕ → ℕ = λ k. (arc_of net k).tail in
    let head : ℕ → ℕ = λ k. (arc_of net k).head in
    let is : (v : ℕ) → v < net.nodes → has v ≡ ltb (get_or l.rank.items v 0) UNSETTLED = λ v h. a.each v (omega (arith, o.tree.ranks)) in
    let yes : (v : ℕ) → v < net.nodes → has v ≡ true → get_or l.rank.items v 0 < UNSETTLED = λ v h e. ltb-true _ _ (sym (is v h) ∙ e) in
    let no : (v : ℕ) → v < net.nodes → has v ≡ false → UNSETTLED ≤ get_or l.rank.items v 0 = λ v h e. ltb-false _ _ (sym (is v h) ∙ e) in
    let go : ℕ → ℕ = λ k. if has (tail k) && not (has (head k)) then (arc_of net k).low else 0 in
    let come : ℕ → ℕ = λ k. if not (has (tail k)) && has (head k) then (arc_of net k).cap else 0 in
    let heads : ℕ → ℕ = λ k. one_if (has (head k)) * carried net p.room.items k in
    let tails : ℕ → ℕ = λ k. one_if (has (tail k)) * carried net p.room.items k in
    let cross = sum_to-ext m (λ k. go k + heads k) (λ k. come k + tails k)
    (λ k h. let r = o.network.each k h in exact_crossing (has (tail k)) (has (head k)) (arc_of net k).low (arc_of net k).cap (carried net p.room.items k)
    (λ x y. leaving net p l k f o h (yes (tail k) r.tail x) (no (head k) r.head y))
    (λ x y. entering net p l k f o h (no (tail k) r.tail x) (yes (head k) r.head y))) in
    let x = sum_to-add m go heads in
    let y = sum_to-add m come tails in
    let w = weighed net p.room.items (λ v. get_or p.supply.items v 0) (λ v. get_or p.demand.items v 0) (λ v. one_if (has v)) o.network f.balanced in
    let none = sum_to-zero net.nodes (λ v. one_if (has v) * get_or p.supply.items v 0) (λ v h. ⊎_elim
    (λ (e : has v ≡ true). let z = ap (λ b. one_if b * get_or p.supply.items v 0) e in omega (arith, o.stuck.unsupplied v h (yes v h e)))
    (λ (e : has v ≡ false). let z = ap (λ b. one_if b * get_or p.supply.items v 0) e in omega arith)
    (cases_Bool (has v))) in
    let root = o.tree.root_inside in
    let there : has l.root ≡ true = is l.root root ∙ lt-ltb (get_or l.rank.items l.root 0) UNSETTLED (o.stuck.far l.root root (omega (arith, o.tree.root_near))) in
    let some = term-le-sum_to net.nodes (λ v. one_if (has v) * get_or p.demand.items v 0) l.root root in
    let one = ap (λ b. one_if b * get_or p.demand.items l.root 0) there in
    omega (arith, o.lacks)

pub IsCutSet-off : (net : Network) (p : Pseudoflow) (l : Labels) (members : List Bool) → IsPseudoflow net p → IsCutOff net p l → AreSettled l.rank.items members
    → IsCutSet net members
IsCutSet-off net p l members f o a = record {
  nodes = a.nodes ∙ o.tree.ranks;
  cut = IsCut-off net p l members f o a;
  none = cut_excludes net o.network (has_of members) (IsCut-off net p l members f o a);
}
