use Rattle.std.proofs.Common.{◌≡◌, ℕ, ◌+◌, ◌-◌, ◌<◌, ◌≤◌, ◌≢◌, List, [], ◌∷◌, ◌++◌, length, get_or, set, subst, sym, ap, ◌∙◌, ⊎_elim, arith}
use Rattle.std.proofs.lemmas.Bool.{cases_lt, cases_eq, lt-ltb, le-ltb}
use Rattle.std.proofs.lemmas.Grind.{common_steps}
use Rattle.mcf_lower.specs.Net.{Network, IsNetwork, arc_of}
use Rattle.mcf_lower.specs.Edges.{edges, along, back, edge_of, partner_of, IsEdge, IsChain}

pub edge_of-along : (net : Network) (e : ℕ) → e < length net.arcs → edge_of net e ≡ along (arc_of net e)
unfolding edge_of
edge_of-along net e l = rw (lt-ltb e (length net.arcs) l)

pub edge_of-back : (net : Network) (e : ℕ) → length net.arcs ≤ e → edge_of net e ≡ back (arc_of net (e - length net.arcs))
unfolding edge_of
edge_of-back net e l = rw (le-ltb e (length net.arcs) l)

pub partner_of-along : (net : Network) (e : ℕ) → e < length net.arcs → partner_of net e ≡ e + length net.arcs
unfolding partner_of
partner_of-along net e l = rw (lt-ltb e (length net.arcs) l)

pub partner_of-back : (net : Network) (e : ℕ) → length net.arcs ≤ e → partner_of net e ≡ e - length net.arcs
unfolding partner_of
partner_of-back net e l = rw (le-ltb e (length net.arcs) l)

pub IsEdge-of : (net : Network) → IsNetwork net → (e : ℕ) → e < edges net → IsEdge net.nodes (edge_of net e)
IsEdge-of net n e l = ⊎_elim
    (λ (h : e < length net.arcs). let a = n.each e h in
    subst (IsEdge net.nodes) (sym (edge_of-along net e h)) (record { start = a.tail; finish = a.head; plus = a.price; minus = omega arith }))
    (λ (h : length net.arcs ≤ e). let a = n.each (e - length net.arcs) (omega arith) in
    subst (IsEdge net.nodes) (sym (edge_of-back net e h)) (record { start = a.head; finish = a.tail; plus = omega arith; minus = a.price }))
    (cases_lt e (length net.arcs))

index_first : (first : List ℕ) (f x v : ℕ) → f < length first → v ≡ f → get_or (set first f x) v 0 ≡ x
index_first first f x v l e = grind (arith, common_steps)

index_other : (first : List ℕ) (f x v : ℕ) → v ≢ f → get_or (set first f x) v 0 ≡ get_or first v 0
index_other first f x v ne = grind (arith, common_steps)

pub next_old : (next : List ℕ) (x b : ℕ) → b < length next → get_or (next ++ x ∷ []) b 0 ≡ get_or next b 0
next_old next x b l = grind (arith, common_steps)

pub next_new : (next : List ℕ) (x b : ℕ) → b ≡ length next → get_or (next ++ x ∷ []) b 0 ≡ x
next_new next x b e = grind (arith, common_steps)

pub IsChain-more : (nodes : ℕ) (finish : ℕ → ℕ) (e : ℕ) (first next : List ℕ) → IsChain nodes finish e first next → finish e < nodes
    → IsChain nodes finish (e + 1) (set first (finish e) (e + 1)) (next ++ get_or first (finish e) 0 ∷ [])
IsChain-more nodes finish e first next ix fl =
    let f = finish e in
    let same : (v : ℕ) → v ≡ f → get_or (set first f (e + 1)) v 0 ≡ e + 1 = λ v q. index_first first f (e + 1) v (omega (arith, ix.firsts)) q in
    let other : (v : ℕ) → v ≢ f → get_or (set first f (e + 1)) v 0 ≡ get_or first v 0 = λ v q. index_other first f (e + 1) v q in
    let old : (b : ℕ) → b < e → get_or (next ++ get_or first f 0 ∷ []) b 0 ≡ get_or next b 0 = λ b l. next_old next (get_or first f 0) b (omega (arith, ix.nexts)) in
    let new : (b : ℕ) → b ≡ e → get_or (next ++ get_or first f 0 ∷ []) b 0 ≡ get_or first f 0 = λ b q. next_new next (get_or first f 0) b (omega (arith, ix.nexts)) in
    record {
      firsts = grind (arith, common_steps, ix.firsts);
      nexts = grind (arith, common_steps, ix.nexts);
      first_below = λ v l. ⊎_elim
          (λ (q : v ≡ f). omega (arith, same v q))
          (λ (q : v ≢ f). omega (arith, other v q, ix.first_below v l))
          (cases_eq v f);
      first_there = λ v l p. ⊎_elim
          (λ (q : v ≡ f). ap (λ x. finish (x - 1)) (same v q) ∙ (ap finish (let z : e + 1 - 1 ≡ e = omega arith in z)) ∙ sym q)
          (λ (q : v ≢ f). ap (λ x. finish (x - 1)) (other v q) ∙ ix.first_there v l (omega (arith, other v q)))
          (cases_eq v f);
      next_below = λ b l. ⊎_elim
          (λ (q : b < e). omega (arith, old b q, ix.next_below b q))
          (λ (q : e ≤ b). omega (arith, new b (omega arith), ix.first_below f fl))
          (cases_lt b e);
      next_there = λ b l p. ⊎_elim
          (λ (q : b < e). ap (λ x. finish (x - 1)) (old b q) ∙ ix.next_there b q (omega (arith, old b q)))
          (λ (q : e ≤ b). let z : b ≡ e = omega arith in
          ap (λ x. finish (x - 1)) (new b z) ∙ ix.first_there f fl (omega (arith, new b z)) ∙ ap finish (sym z))
          (cases_lt b e);
      all_first = λ b l. ⊎_elim
          (λ (q : finish b ≡ f). omega (arith, same (finish b) q))
          (λ (q : finish b ≢ f). ⊎_elim
          (λ (k : b < e). omega (arith, other (finish b) q, ix.all_first b k))
          (λ (k : e ≤ b). let z : b ≡ e = omega arith in absurd (q (ap finish z)))
          (cases_lt b e))
          (cases_eq (finish b) f);
      all_next = λ d b k l q. ⊎_elim
          (λ (h : b < e). omega (arith, old b h, ix.all_next d b k h q))
          (λ (h : e ≤ b). let z : b ≡ e = omega arith in
          let w : get_or first (finish d) 0 ≡ get_or first f 0 = ap (λ x. get_or first x 0) (q ∙ ap finish z) in
          omega (arith, new b z, ix.all_first d (omega arith), w))
          (cases_lt b e);
    }

-- what is said of the things below `count` alone
pub IsChain-ext : (nodes : ℕ) (f g : ℕ → ℕ) (count : ℕ) (first next : List ℕ) → ((k : ℕ) → k < count → f k ≡ g k)
    → IsChain nodes f count first next → IsChain nodes g count first next
IsChain-ext nodes f g count first next h ix = record {
  firsts = ix.firsts;
  nexts = ix.nexts;
  first_below = ix.first_below;
  first_there = λ v l p. sym (h (get_or first v 0 - 1) (omega (arith, ix.first_below v l))) ∙ ix.first_there v l p;
  next_below = ix.next_below;
  next_there = λ e l p. sym (h (get_or next e 0 - 1) (omega (arith, ix.next_below e l))) ∙ ix.next_there e l p ∙ h e l;
  all_first = λ e l. let q = ap (λ x. get_or first x 0) (h e l) in omega (arith, ix.all_first e l);
  all_next = λ d e l m q. ix.all_next d e l m (h d (omega arith) ∙ q ∙ sym (h e m));
}

-- the same, as the code reads and writes
pub IsChain-step : (nodes : ℕ) (finish : ℕ → ℕ) (e : ℕ) (first next : List ℕ) (f x : ℕ) (longer : List ℕ) → IsChain nodes finish e first next
    → f ≡ finish e → f < nodes → x ≡ get_or first f x → longer ≡ next ++ x ∷ []
    → IsChain nodes finish (e + 1) (set first f (e + 1)) longer
IsChain-step nodes finish e first next f x longer ix p l q r =
    let z : x ≡ get_or first f 0 = grind (arith, common_steps, ix.firsts) in
    rw (r, z, p) (IsChain-more nodes finish e first next ix (omega (arith, p)))
