use Rattle.std.proofs.Common.{◌≡◌, ℕ, ◌+◌, ◌-◌, ◌<◌, ◌≤◌, ◌≢◌, ◌==◌, if◌then◌else◌, List, length, get_or, set, refl, subst, sym, ap, ◌∙◌, ⊎_elim, arith}
use Rattle.std.proofs.lemmas.Bool.{cases_lt, cases_eq}
use Rattle.mcf_lower.specs.declared.edge.Edge.{Edge}
use Rattle.mcf_lower.specs.declared.backs.Backs.{Backs}
use Rattle.mcf_lower.specs.declared.labels.Labels.{Labels}
use Rattle.tqd_base.specs.Sum.{sum_to}
use Rattle.mcf_lower.specs.Net.{Network, IsNetwork, arc_of, flow_max}
use Rattle.mcf_lower.specs.Edges.{edges, along, back, edge_of, partner_of}
use Rattle.mcf_lower.specs.Tree.{IsPriced}
use Rattle.mcf_lower.specs.Ends.{AreBacks, IsListed, ListsBacks}
use Rattle.mcf_lower.specs.Pseudoflow.{carried, IsBounded, IsBalanced, IsPath, at_node, BalanceMoves, ArePseudoflow}
use Rattle.mcf_lower.proofs.Sums.{sum_to-change, if_same, if_other}
use Rattle.mcf_lower.proofs.Edges.{edge_of-along, edge_of-back, partner_of-along, partner_of-back}
use Rattle.mcf_lower.proofs.Trees.{set_same, set_other, set_length}

-- so much room goes from edge e to its partner b
pub record IsMoved (net : Network) (before : List ℕ) (e b amount : ℕ) (after : List ℕ) : Type 0 where
  pub inside : e < edges net
  pub partner : b ≡ partner_of net e
  pub rooms : length after ≡ edges net
  pub less : get_or after e 0 + amount ≡ get_or before e 0
  pub more : get_or after b 0 ≡ get_or before b 0 + amount
  pub other : (x : ℕ) → x ≢ e → x ≢ b → get_or after x 0 ≡ get_or before x 0

pub partner_of-inside : (net : Network) (e : ℕ) → e < edges net → (partner_of net e ≢ e) × (partner_of net e < edges net)
partner_of-inside net e h = ⊎_elim
    (λ (z : e < length net.arcs). let w = partner_of-along net e z in (λ r. omega arith, omega arith))
    (λ (z : length net.arcs ≤ e). let w = partner_of-back net e z in (λ r. omega arith, omega arith))
    (cases_lt e (length net.arcs))

pub IsMoved-set : (net : Network) (room : List ℕ) (e b amount x y : ℕ) → length room ≡ edges net → e < edges net → b ≡ partner_of net e
    → amount ≤ get_or room e 0 → x ≡ get_or room e 0 - amount → y ≡ get_or (set room e x) b 0 + amount
    → IsMoved net room e b amount (set (set room e x) b y)
IsMoved-set net room e b amount x y l h p k ex ey =
    let q = partner_of-inside net e h in
    let nb : b ≢ e = λ z. q.0 (sym p ∙ z) in
    record {
      inside = h;
      partner = p;
      rooms = set_length (set room e x) b y (edges net) (set_length room e x (edges net) l);
      less = let u = set_other (set room e x) b y e (λ z. nb (sym z)) in let v = set_same room e x e (omega arith) refl in omega arith;
      more = let u = set_same (set room e x) b y b (omega (arith, q.1, set_length room e x (edges net) l)) refl in let v = set_other room e x b nb in omega arith;
      other = λ z nz mz. set_other (set room e x) b y z mz ∙ set_other room e x z nz;
    }

-- the arc of an edge: the edge goes along it, or back
data OfArc (net : Network) (e b : ℕ) : Type 0 where
  goes : (e < length net.arcs) → (b ≡ e + length net.arcs) → OfArc net e b
  comes : (a : ℕ) → (a < length net.arcs) → (e ≡ a + length net.arcs) → (b ≡ a) → OfArc net e b

of_arc : (net : Network) (e : ℕ) → e < edges net → OfArc net e (partner_of net e)
of_arc net e h = ⊎_elim
    (λ (z : e < length net.arcs). goes z (partner_of-along net e z))
    (λ (z : length net.arcs ≤ e). comes (e - length net.arcs) (omega arith) (omega arith) (partner_of-back net e z))
    (cases_lt e (length net.arcs))

-- an arc's two edges have no more room than its cap
pub pair_most : (net : Network) (room : List ℕ) (e : ℕ) → IsNetwork net → IsBounded net room → e < edges net
    → get_or room e 0 + get_or room (partner_of net e) 0 ≤ flow_max
pair_most net room e n b h = ⊎_elim
    (λ (z : e < length net.arcs). let w = ap (λ x. get_or room x 0) (partner_of-along net e z) in omega (arith, b.each e z, (n.each e z).flow))
    (λ (z : length net.arcs ≤ e). let w = ap (λ x. get_or room x 0) (partner_of-back net e z) in
    let l : e - length net.arcs < length net.arcs = omega arith in
    let q : e - length net.arcs + length net.arcs ≡ e = omega arith in
    let v = ap (λ x. get_or room x 0) q in omega (arith, b.each (e - length net.arcs) l, (n.each (e - length net.arcs) l).flow))
    (cases_lt e (length net.arcs))

pub IsBounded-moved : (net : Network) (before : List ℕ) (e b amount : ℕ) (after : List ℕ) → IsMoved net before e b amount after → IsBounded net before → IsBounded net after
IsBounded-moved net before e b amount after m h = record {
  rooms = m.rooms;
  each = λ a l. elim (of_arc net e m.inside) [
    | goes p q ↦ ⊎_elim
        (λ (z : a ≡ e). let w = ap (λ x. get_or before x 0) z in let v = ap (λ x. get_or after x 0) z in
        let f : a + length net.arcs ≡ b = omega (arith, m.partner) in let u = ap (λ x. get_or before x 0) f in let t = ap (λ x. get_or after x 0) f in
        omega (arith, h.each a l, m.less, m.more))
        (λ (z : a ≢ e). omega (arith, h.each a l, m.other a z (omega (arith, m.partner)), m.other (a + length net.arcs) (omega (arith, m.partner)) (omega (arith, m.partner))))
        (cases_eq a e)
    | comes d p q r ↦ ⊎_elim
        (λ (z : a ≡ d). let f : a ≡ b = omega (arith, m.partner) in let w = ap (λ x. get_or before x 0) f in let v = ap (λ x. get_or after x 0) f in
        let g : a + length net.arcs ≡ e = omega arith in let u = ap (λ x. get_or before x 0) g in let t = ap (λ x. get_or after x 0) g in
        omega (arith, h.each a l, m.less, m.more))
        (λ (z : a ≢ d). omega (arith, h.each a l, m.other a (omega (arith, m.partner)) (omega (arith, m.partner)), m.other (a + length net.arcs) (omega (arith, m.partner)) (omega (arith, m.partner))))
        (cases_eq a d)
  ];
}

-- the partner goes the other way
pub record IsReverse (net : Network) (e b : ℕ) : Type 0 where
  pub start : (edge_of net b).start ≡ (edge_of net e).finish
  pub finish : (edge_of net b).finish ≡ (edge_of net e).start
  pub plus : (edge_of net b).plus ≡ (edge_of net e).minus
  pub minus : (edge_of net b).minus ≡ (edge_of net e).plus

pub IsReverse-of : (net : Network) (e : ℕ) → e < edges net → IsReverse net e (partner_of net e)
IsReverse-of net e h = ⊎_elim
    (λ (z : e < length net.arcs).
    let w : e + length net.arcs - length net.arcs ≡ e = omega arith in
    let p : edge_of net e ≡ along (arc_of net e) = edge_of-along net e z in
    let q : edge_of net (partner_of net e) ≡ back (arc_of net e) =
    ap (edge_of net) (partner_of-along net e z) ∙ edge_of-back net (e + length net.arcs) (omega arith) ∙ ap (λ x. back (arc_of net x)) w in
    record {
      start = ap (λ (x : Edge). x.start) q ∙ sym (ap (λ (x : Edge). x.finish) p);
      finish = ap (λ (x : Edge). x.finish) q ∙ sym (ap (λ (x : Edge). x.start) p);
      plus = ap (λ (x : Edge). x.plus) q ∙ sym (ap (λ (x : Edge). x.minus) p);
      minus = ap (λ (x : Edge). x.minus) q ∙ sym (ap (λ (x : Edge). x.plus) p);
    })
    (λ (z : length net.arcs ≤ e).
    let p : edge_of net e ≡ back (arc_of net (e - length net.arcs)) = edge_of-back net e z in
    let q : edge_of net (partner_of net e) ≡ along (arc_of net (e - length net.arcs)) =
    ap (edge_of net) (partner_of-back net e z) ∙ edge_of-along net (e - length net.arcs) (omega arith) in
    record {
      start = ap (λ (x : Edge). x.start) q ∙ sym (ap (λ (x : Edge). x.finish) p);
      finish = ap (λ (x : Edge). x.finish) q ∙ sym (ap (λ (x : Edge). x.start) p);
      plus = ap (λ (x : Edge). x.plus) q ∙ sym (ap (λ (x : Edge). x.minus) p);
      minus = ap (λ (x : Edge). x.minus) q ∙ sym (ap (λ (x : Edge). x.plus) p);
    })
    (cases_lt e (length net.arcs))

pub IsPriced-moved : (net : Network) (numbers before : List ℕ) (e b amount : ℕ) (after : List ℕ) → IsMoved net before e b amount after → 1 ≤ amount
    → get_or numbers (edge_of net e).finish 0 + (edge_of net e).minus ≡ get_or numbers (edge_of net e).start 0 + (edge_of net e).plus
    → IsPriced net before numbers → IsPriced net after numbers
IsPriced-moved net numbers before e b amount after m some even h = record {
  rooms = m.rooms;
  nodes = h.nodes;
  each = λ x l r. ⊎_elim
      (λ (z : x ≡ b). let v = IsReverse-of net e m.inside in let w : x ≡ partner_of net e = z ∙ m.partner in
      subst (λ (y : ℕ). get_or numbers (edge_of net y).finish 0 + (edge_of net y).minus ≤ get_or numbers (edge_of net y).start 0 + (edge_of net y).plus) (sym w)
      (let f = ap (λ y. get_or numbers y 0) v.finish in let g = ap (λ y. get_or numbers y 0) v.start in omega (arith, v.plus, v.minus)))
      (λ (z : x ≢ b). ⊎_elim
      (λ (y : x ≡ e). let w = ap (λ y. get_or before y 0) y in h.each x l (omega (arith, m.less)))
      (λ (y : x ≢ e). h.each x l (omega (arith, m.other x y z)))
      (cases_eq x e))
      (cases_eq x b);
}

-- an edge that goes along an arc gives room to the edge back alone, and one that goes back to none
pub ListsBacks-moved : (net : Network) (before : List ℕ) (e b amount : ℕ) (after : List ℕ) (old new : Backs) → IsMoved net before e b amount after
    → ListsBacks net before old → AreBacks net new → ((a : ℕ) → a < length net.arcs → IsListed old a → IsListed new a)
    → (e < length net.arcs → IsListed new e) → ListsBacks net after new
ListsBacks-moved net before e b amount after old new m h k kept here = record {
  backs = k;
  listed = λ a l r. elim (of_arc net e m.inside) [
    | goes p q ↦ ⊎_elim
        (λ (z : a ≡ e). subst (IsListed new) (sym z) (here p))
        (λ (z : a ≢ e). kept a l (h.listed a l (omega (arith, r, m.other (a + length net.arcs) (omega (arith, m.partner)) (omega (arith, m.partner))))))
        (cases_eq a e)
    | comes d p q y ↦ ⊎_elim
        (λ (z : a ≡ d). let f : a + length net.arcs ≡ e = omega arith in let u = ap (λ x. get_or before x 0) f in let t = ap (λ x. get_or after x 0) f in
        kept a l (h.listed a l (omega (arith, r, m.less))))
        (λ (z : a ≢ d). kept a l (h.listed a l (omega (arith, r, m.other (a + length net.arcs) (omega (arith, m.partner)) (omega (arith, m.partner))))))
        (cases_eq a d)
  ];
}

-- a sum over the arcs that end at a node, as one arc carries more
end_more : (m : ℕ) (end f g : ℕ → ℕ) (a x v : ℕ) → a < m → ((k : ℕ) → k < m → k ≢ a → f k ≡ g k) → f a + x ≡ g a
    → sum_to m (λ k. if end k == v then f k else 0) + (if end a == v then x else 0) ≡ sum_to m (λ k. if end k == v then g k else 0)
end_more m end f g a x v l h q =
    let c = sum_to-change m (λ k. if end k == v then f k else 0) (λ k. if end k == v then g k else 0) a l
    (λ k b n. ap (λ y. if end k == v then y else 0) (h k b n)) in
    ⊎_elim
    (λ (z : end a ≡ v). omega (arith, if_same (end a) v (f a) z, if_same (end a) v (g a) z, if_same (end a) v x z))
    (λ (z : end a ≢ v). omega (arith, if_other (end a) v (f a) z, if_other (end a) v (g a) z, if_other (end a) v x z))
    (cases_eq (end a) v)

pub BalanceMoves-moved : (net : Network) (before : List ℕ) (e b amount : ℕ) (after : List ℕ) → IsMoved net before e b amount after
    → BalanceMoves net before after (edge_of net e).start (edge_of net e).finish amount
BalanceMoves-moved net before e b amount after m supply demand h = record {
  each = λ v l. elim (of_arc net e m.inside) [
    | goes p q ↦
        let k : b ≡ e + length net.arcs = m.partner ∙ q in
        let f = ap (λ x. get_or before x 0) k in let g = ap (λ x. get_or after x 0) k in
        let same : (a : ℕ) → a < length net.arcs → a ≢ e → carried net before a ≡ carried net after a =
        λ a la n. omega (arith, m.other (a + length net.arcs) (omega arith) (omega arith)) in
        let one : carried net before e + amount ≡ carried net after e = omega (arith, m.more) in
        let i = end_more (length net.arcs) (λ a. (arc_of net a).head) (carried net before) (carried net after) e amount v p same one in
        let o = end_more (length net.arcs) (λ a. (arc_of net a).tail) (carried net before) (carried net after) e amount v p same one in
        let s = ap (λ (x : Edge). if x.start == v then amount else 0) (edge_of-along net e p) in
        let t = ap (λ (x : Edge). if x.finish == v then amount else 0) (edge_of-along net e p) in
        omega (arith, h.each v l)
    | comes d p q r ↦
        let k : b ≡ d = m.partner ∙ r in
        let f = ap (λ x. get_or before x 0) q in let g = ap (λ x. get_or after x 0) q in
        let same : (a : ℕ) → a < length net.arcs → a ≢ d → carried net after a ≡ carried net before a =
        λ a la n. omega (arith, m.other (a + length net.arcs) (omega arith) (omega arith)) in
        let one : carried net after d + amount ≡ carried net before d = omega (arith, m.less) in
        let i = end_more (length net.arcs) (λ a. (arc_of net a).head) (carried net after) (carried net before) d amount v p same one in
        let o = end_more (length net.arcs) (λ a. (arc_of net a).tail) (carried net after) (carried net before) d amount v p same one in
        let z : edge_of net e ≡ back (arc_of net d) = edge_of-back net e (omega arith) ∙ ap (λ x. back (arc_of net x)) (let w : e - length net.arcs ≡ d = omega arith in w) in
        let s = ap (λ (x : Edge). if x.start == v then amount else 0) z in
        let t = ap (λ (x : Edge). if x.finish == v then amount else 0) z in
        omega (arith, h.each v l)
  ];
}

-- the edges that the rest of the path takes are not those that were just used
pub takes_more : (net : Network) (numbers before : List ℕ) (l : Labels) (far u b amount : ℕ) (after : List ℕ) → IsMoved net before (get_or l.parent.items u 0) b amount after
    → (room : List ℕ) → IsPath net room numbers l far → u < net.nodes → get_or l.distance.items u 0 ≤ far → u ≢ l.root
    → ((w : ℕ) → w < net.nodes → get_or l.rank.items w 0 ≤ get_or l.rank.items u 0 → get_or l.distance.items w 0 ≤ far → w ≢ l.root → get_or l.width.items w 0 ≤ get_or before (get_or l.parent.items w 0) 0)
    → (w : ℕ) → w < net.nodes → get_or l.rank.items w 0 ≤ get_or l.rank.items (edge_of net (get_or l.parent.items u 0)).finish 0 → get_or l.distance.items w 0 ≤ far → w ≢ l.root
    → get_or l.width.items w 0 ≤ get_or after (get_or l.parent.items w 0) 0
takes_more net numbers before l far u b amount after m room path lu du nu h w lw rw dw nw =
    let s = path.step u lu du nu in
    let t = path.step w lw dw nw in
    let e : ℕ = get_or l.parent.items u 0 in
    let x : ℕ = get_or l.parent.items w 0 in
    let ne : x ≢ e = λ z. let q : w ≡ u = sym t.start ∙ ap (λ y. (edge_of net y).start) z ∙ s.start in
    let r = ap (λ y. get_or l.rank.items y 0) q in omega (arith, s.earlier) in
    let nb : x ≢ b = λ z.
    let v = IsReverse-of net e m.inside in
    let y : x ≡ partner_of net e = z ∙ m.partner in
    let q : (edge_of net x).finish ≡ u = ap (λ y. (edge_of net y).finish) y ∙ v.finish ∙ s.start in
    let r = ap (λ y. get_or l.rank.items y 0) q in omega (arith, s.earlier, t.earlier) in
    omega (arith, m.other x ne nb, h w lw (omega (arith, s.earlier)) dw nw)

pub ArePseudoflow-at : (net : Network) (room supply demand numbers room' supply' demand' numbers' : List ℕ) (backs backs' : Backs)
    → room' ≡ room → supply' ≡ supply → demand' ≡ demand → numbers' ≡ numbers → backs' ≡ backs
    → ArePseudoflow net room supply demand numbers backs → ArePseudoflow net room' supply' demand' numbers' backs'
ArePseudoflow-at net room supply demand numbers room' supply' demand' numbers' backs backs' a b c d e h = rw (a, b, c, d, e) h

pub takes_after : (net : Network) (numbers before : List ℕ) (l : Labels) (far u e b amount : ℕ) (after : List ℕ) → IsMoved net before e b amount after → e ≡ get_or l.parent.items u 0
    → (room : List ℕ) → IsPath net room numbers l far → u < net.nodes → get_or l.distance.items u 0 ≤ far → u ≢ l.root
    → ((w : ℕ) → w < net.nodes → get_or l.rank.items w 0 ≤ get_or l.rank.items u 0 → get_or l.distance.items w 0 ≤ far → w ≢ l.root → get_or l.width.items w 0 ≤ get_or before (get_or l.parent.items w 0) 0)
    → (w : ℕ) → w < net.nodes → get_or l.rank.items w 0 ≤ get_or l.rank.items (edge_of net (get_or l.parent.items u 0)).finish 0 → get_or l.distance.items w 0 ≤ far → w ≢ l.root
    → get_or l.width.items w 0 ≤ get_or after (get_or l.parent.items w 0) 0
takes_after net numbers before l far u e b amount after m q room path lu du nu h w lw rw dw nw =
    takes_more net numbers before l far u b amount after (subst (λ (x : ℕ). IsMoved net before x b amount after) q m) room path lu du nu h w lw rw dw nw

-- units leave the supply of one node and the demand of another
pub IsBalanced-sent : (net : Network) (before after supply demand : List ℕ) (s r amount x y : ℕ) → BalanceMoves net before after s r amount
    → length supply ≡ net.nodes → length demand ≡ net.nodes → s < net.nodes → r < net.nodes
    → x + amount ≡ get_or supply s 0 → y + amount ≡ get_or demand r 0
    → IsBalanced net before (λ v. get_or supply v 0) (λ v. get_or demand v 0)
    → IsBalanced net after (λ v. get_or (set supply s x) v 0) (λ v. get_or (set demand r y) v 0)
IsBalanced-sent net before after supply demand s r amount x y moves ls ld hs hr ex ey h =
    let fewer : (v : ℕ) → at_node s amount (λ w. get_or (set supply s x) w 0) v ≡ get_or supply v 0 = λ v. ⊎_elim
    (λ (z : s ≡ v). let q = ap (λ w. get_or supply w 0) z in omega (arith, if_same s v amount z, set_same supply s x v (omega arith) (sym z)))
    (λ (z : s ≢ v). omega (arith, if_other s v amount z, set_other supply s x v (λ w. z (sym w))))
    (cases_eq s v) in
    let less : (v : ℕ) → at_node r amount (λ w. get_or (set demand r y) w 0) v ≡ get_or demand v 0 = λ v. ⊎_elim
    (λ (z : r ≡ v). let q = ap (λ w. get_or demand w 0) z in omega (arith, if_same r v amount z, set_same demand r y v (omega arith) (sym z)))
    (λ (z : r ≢ v). omega (arith, if_other r v amount z, set_other demand r y v (λ w. z (sym w))))
    (cases_eq r v) in
    let m = moves (λ v. get_or (set supply s x) v 0) (λ v. get_or demand v 0) (record { each = λ v l. omega (arith, h.each v l, fewer v) }) in
    record { each = λ v l. omega (arith, m.each v l, less v) }
