use Rattle.std.proofs.Common.{◌≡◌, ℕ, zero, suc, ◌+◌, ◌-◌, ◌*◌, ◌<◌, ◌≤◌, ◌≢◌, ◌==◌, if◌then◌else◌, List, length, get_or, set, subst, sym, ap, ◌∙◌, ⊎_elim, arith}
use Rattle.std.proofs.lemmas.Bool.{cases_lt, cases_eq, lt-ltb, le-ltb}
use Rattle.mcf_lower.specs.declared.net.Arc.{Arc}
use Rattle.mcf_lower.specs.declared.edge.Edge.{Edge}
use Rattle.tqd_base.specs.Sum.{sum_to}
use Rattle.mcf_lower.specs.Net.{Network, IsNetwork, arc_of, flow_max}
use Rattle.mcf_lower.specs.Tree.{IsPriced}
use Rattle.mcf_lower.specs.Pseudoflow.{carried, IsBounded, IsBalanced, first_along, first_back, first_room, AreFirstRooms, AreSums}
use Rattle.mcf_lower.proofs.Sums.{if_same, if_other}
use Rattle.mcf_lower.proofs.Edges.{edge_of-along, edge_of-back}
use Rattle.mcf_lower.proofs.Trees.{set_same, set_other, set_length}

pub first_room-along : (net : Network) (numbers : List ℕ) (e : ℕ) → e < length net.arcs → first_room net numbers e ≡ first_along numbers (arc_of net e)
unfolding first_room
first_room-along net numbers e l = rw (lt-ltb e (length net.arcs) l)

pub first_room-back : (net : Network) (numbers : List ℕ) (e : ℕ) → length net.arcs ≤ e → first_room net numbers e ≡ first_back numbers (arc_of net (e - length net.arcs))
unfolding first_room
first_room-back net numbers e l = rw (le-ltb e (length net.arcs) l)

pub along_gain : (numbers : List ℕ) (arc : Arc) → get_or numbers arc.tail 0 + arc.cost < get_or numbers arc.head 0 → first_along numbers arc ≡ 0
along_gain numbers arc l = rw (lt-ltb _ _ l)

pub along_else : (numbers : List ℕ) (arc : Arc) → get_or numbers arc.head 0 ≤ get_or numbers arc.tail 0 + arc.cost → first_along numbers arc ≡ arc.cap - arc.low
along_else numbers arc l = rw (le-ltb _ _ l)

pub back_gain : (numbers : List ℕ) (arc : Arc) → get_or numbers arc.tail 0 + arc.cost < get_or numbers arc.head 0 → first_back numbers arc ≡ arc.cap - arc.low
back_gain numbers arc l = rw (lt-ltb _ _ l)

pub back_else : (numbers : List ℕ) (arc : Arc) → get_or numbers arc.head 0 ≤ get_or numbers arc.tail 0 + arc.cost → first_back numbers arc ≡ 0
back_else numbers arc l = rw (le-ltb _ _ l)

pub IsBounded-first : (net : Network) (numbers room : List ℕ) → IsNetwork net → AreFirstRooms net numbers room → IsBounded net room
IsBounded-first net numbers room n f = record {
  rooms = f.rooms;
  each = λ a l.
      let m = length net.arcs in
      let p : get_or room a 0 ≡ first_along numbers (arc_of net a) = f.each a (omega arith) ∙ first_room-along net numbers a l in
      let z : a + m - m ≡ a = omega arith in
      let q : get_or room (a + m) 0 ≡ first_back numbers (arc_of net a) =
      f.each (a + m) (omega arith) ∙ first_room-back net numbers (a + m) (omega arith) ∙ ap (λ x. first_back numbers (arc_of net x)) z in
      ⊎_elim
      (λ (g : get_or numbers (arc_of net a).tail 0 + (arc_of net a).cost < get_or numbers (arc_of net a).head 0).
      omega (arith, p, q, along_gain numbers (arc_of net a) g, back_gain numbers (arc_of net a) g, (n.each a l).bounds))
      (λ (g : get_or numbers (arc_of net a).head 0 ≤ get_or numbers (arc_of net a).tail 0 + (arc_of net a).cost).
      omega (arith, p, q, along_else numbers (arc_of net a) g, back_else numbers (arc_of net a) g, (n.each a l).bounds))
      (cases_lt (get_or numbers (arc_of net a).tail 0 + (arc_of net a).cost) (get_or numbers (arc_of net a).head 0));
}

abbrev IsPricedEdge : List ℕ → Edge → Type 0
IsPricedEdge numbers edge = get_or numbers edge.finish 0 + edge.minus ≤ get_or numbers edge.start 0 + edge.plus

pub IsPriced-first : (net : Network) (numbers room : List ℕ) → length numbers ≡ net.nodes → AreFirstRooms net numbers room → IsPriced net room numbers
IsPriced-first net numbers room s f = record {
  rooms = f.rooms;
  nodes = s;
  each = λ e l r. ⊎_elim
      (λ (h : e < length net.arcs). subst (IsPricedEdge numbers) (sym (edge_of-along net e h)) (⊎_elim
      (λ (g : get_or numbers (arc_of net e).tail 0 + (arc_of net e).cost < get_or numbers (arc_of net e).head 0).
      absurd (omega (arith, f.each e l, first_room-along net numbers e h, along_gain numbers (arc_of net e) g)))
      (λ (g : get_or numbers (arc_of net e).head 0 ≤ get_or numbers (arc_of net e).tail 0 + (arc_of net e).cost). omega arith)
      (cases_lt (get_or numbers (arc_of net e).tail 0 + (arc_of net e).cost) (get_or numbers (arc_of net e).head 0))))
      (λ (h : length net.arcs ≤ e). let a = e - length net.arcs in subst (IsPricedEdge numbers) (sym (edge_of-back net e h)) (⊎_elim
      (λ (g : get_or numbers (arc_of net a).tail 0 + (arc_of net a).cost < get_or numbers (arc_of net a).head 0). omega arith)
      (λ (g : get_or numbers (arc_of net a).head 0 ≤ get_or numbers (arc_of net a).tail 0 + (arc_of net a).cost).
      absurd (omega (arith, f.each e l, first_room-back net numbers e h, back_else numbers (arc_of net a) g)))
      (cases_lt (get_or numbers (arc_of net a).tail 0 + (arc_of net a).cost) (get_or numbers (arc_of net a).head 0))))
      (cases_lt e (length net.arcs));
}

pub carried-le : (net : Network) (room : List ℕ) (a : ℕ) → IsBounded net room → a < length net.arcs → carried net room a ≤ (arc_of net a).cap
carried-le net room a b l = omega (arith, b.each a l)

-- the sums of one more arc
sum_to-more : (n : ℕ) (f : ℕ → ℕ) → sum_to (n + 1) f ≡ sum_to n f + f n
sum_to-more n f = let e : n + 1 ≡ suc n = omega arith in ap (λ x. sum_to x f) e

pub sum_to-most : (n : ℕ) (f : ℕ → ℕ) (m : ℕ) → ((k : ℕ) → k < n → f k ≤ m) → sum_to n f ≤ n * m
sum_to-most zero f m h = omega arith
sum_to-most (suc n) f m h = let e = sum_to-most n f m (λ k l. h k (omega arith)) in let d = h n (omega arith) in omega arith

-- adds to one place of a list what an arc ends there
sum_placed : (xs : List ℕ) (count i v x : ℕ) (f : ℕ → ℕ) (end : ℕ → ℕ) → i < length xs → end count ≡ i → f count ≡ x
    → get_or xs v 0 ≡ sum_to count (λ a. if end a == v then f a else 0)
    → get_or (set xs i (get_or xs i 0 + x)) v 0 ≡ sum_to (count + 1) (λ a. if end a == v then f a else 0)
sum_placed xs count i v x f end l e q h =
    let m = sum_to-more count (λ a. if end a == v then f a else 0) in
    ⊎_elim
    (λ (z : v ≡ i). let s = set_same xs i (get_or xs i 0 + x) v l z in let g = ap (λ y. get_or xs y 0) z in
    let y = if_same (end count) v (f count) (e ∙ sym z) in omega arith)
    (λ (z : v ≢ i). let s = set_other xs i (get_or xs i 0 + x) v z in
    let y = if_other (end count) v (f count) (λ k. z (sym k ∙ e)) in omega arith)
    (cases_eq v i)

pub AreSums-more : (net : Network) (room : List ℕ) (count : ℕ) (supply demand : List ℕ) (t h x : ℕ) → AreSums net room count supply demand
    → h < net.nodes → t < net.nodes → (arc_of net count).head ≡ h → (arc_of net count).tail ≡ t → carried net room count ≡ x
    → AreSums net room (count + 1) (set supply h (get_or supply h 0 + x)) (set demand t (get_or demand t 0 + x))
AreSums-more net room count supply demand t h x s lh lt eh et ex = record {
  supplies = set_length supply h _ net.nodes s.supplies;
  demands = set_length demand t _ net.nodes s.demands;
  brought = λ v l. sum_placed supply count h v x (carried net room) (λ a. (arc_of net a).head) (omega (arith, s.supplies)) eh ex (s.brought v l);
  taken = λ v l. sum_placed demand count t v x (carried net room) (λ a. (arc_of net a).tail) (omega (arith, s.demands)) et ex (s.taken v l);
}

-- at first what an arc brings is to be sent on, and what it takes is lacking
pub IsBalanced-sums : (net : Network) (room supply demand : List ℕ) → AreSums net room (length net.arcs) supply demand
    → IsBalanced net room (λ v. get_or supply v 0) (λ v. get_or demand v 0)
IsBalanced-sums net room supply demand s = record { each = λ v l. omega (arith, s.brought v l, s.taken v l) }

-- a sum of what few arcs carry is small
pub placed_most : (net : Network) (room : List ℕ) (count v : ℕ) (end : ℕ → ℕ) → IsNetwork net → IsBounded net room → count ≤ length net.arcs
    → sum_to count (λ a. if end a == v then carried net room a else 0) ≤ count * flow_max
placed_most net room count v end n b l = sum_to-most count (λ a. if end a == v then carried net room a else 0) flow_max
    (λ k h. let c = carried-le net room k b (omega arith) in let f = (n.each k (omega arith)).flow in ⊎_elim
    (λ (z : end k ≡ v). omega (arith, if_same (end k) v (carried net room k) z))
    (λ (z : end k ≢ v). omega (arith, if_other (end k) v (carried net room k) z))
    (cases_eq (end k) v))
