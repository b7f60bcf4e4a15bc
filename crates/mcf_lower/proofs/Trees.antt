use Rattle.std.proofs.Common.{◌≡◌, ℕ, ◌+◌, ◌<◌, ◌≤◌, ◌≢◌, List, length, get_or, set, subst, sym, ap, ◌∙◌, ⊎_elim, arith}
use Rattle.std.proofs.lemmas.Bool.{cases_lt, cases_eq}
use Rattle.std.proofs.lemmas.Grind.{common_steps}
use Rattle.mcf_lower.specs.declared.edge.Edge.{Edge}
use Rattle.mcf_lower.specs.declared.labels.TheConstants.{FAR, UNSETTLED}
use Rattle.mcf_lower.specs.Net.{Network, IsNetwork}
use Rattle.mcf_lower.specs.Edges.{edges, edge_of}
use Rattle.mcf_lower.specs.Tree.{IsPriced, IsParent, IsTree, IsLast}
use Rattle.mcf_lower.proofs.Edges.{IsEdge-of}

pub set_same : (xs : List ℕ) (i x v : ℕ) → i < length xs → v ≡ i → get_or (set xs i x) v 0 ≡ x
set_same xs i x v l e = grind (arith, common_steps)

pub set_other : (xs : List ℕ) (i x v : ℕ) → v ≢ i → get_or (set xs i x) v 0 ≡ get_or xs v 0
set_other xs i x v n = grind (arith, common_steps)

pub set_length : (xs : List ℕ) (i x n : ℕ) → length xs ≡ n → length (set xs i x) ≡ n
set_length xs i x n e = grind (arith, common_steps)

-- a node that an edge into the node settled last brings nearer is not settled
pub unsettled : (net : Network) (room numbers : List ℕ) (root k : ℕ) (distance rank parent width : List ℕ) (e d : ℕ)
    → IsTree net room numbers root k distance rank parent width → IsPriced net room numbers → IsLast net numbers root k distance rank (edge_of net e).finish
    → e < edges net → 0 < get_or room e 0 → (edge_of net e).start < net.nodes
    → d + get_or numbers (edge_of net e).finish 0 + (edge_of net e).minus ≡ get_or distance (edge_of net e).finish 0 + get_or numbers (edge_of net e).start 0 + (edge_of net e).plus
    → d < get_or distance (edge_of net e).start 0 → get_or rank (edge_of net e).start 0 ≡ UNSETTLED
unsettled net room numbers root k distance rank parent width e d t p l h r s q lt = ⊎_elim
    (λ (b : get_or rank (edge_of net e).start 0 < UNSETTLED). absurd (omega (arith, l.latest (edge_of net e).start s b, p.each e h r)))
    (λ (b : UNSETTLED ≤ get_or rank (edge_of net e).start 0). omega (arith, t.most (edge_of net e).start s))
    (cases_lt (get_or rank (edge_of net e).start 0) UNSETTLED)

pub IsTree-label : (net : Network) (room numbers : List ℕ) (root k : ℕ) (distance rank parent width : List ℕ) (e d w : ℕ)
    → IsNetwork net → IsTree net room numbers root k distance rank parent width → IsPriced net room numbers → IsLast net numbers root k distance rank (edge_of net e).finish
    → e < edges net → 0 < get_or room e 0
    → d + get_or numbers (edge_of net e).finish 0 + (edge_of net e).minus ≡ get_or distance (edge_of net e).finish 0 + get_or numbers (edge_of net e).start 0 + (edge_of net e).plus
    → d < get_or distance (edge_of net e).start 0
    → 1 ≤ w → w ≤ get_or room e 0 → w ≤ get_or width (edge_of net e).finish 0
    → IsTree net room numbers root k (set distance (edge_of net e).start d) rank (set parent (edge_of net e).start e) (set width (edge_of net e).start w)
IsTree-label net room numbers root k distance rank parent width e d w n t p l h r q lt w1 wr ww =
    let u : ℕ = (edge_of net e).start in
    let f : ℕ = (edge_of net e).finish in
    let ed = IsEdge-of net n e h in
    let un = unsettled net room numbers root k distance rank parent width e d t p l h r ed.start q lt in
    let df : get_or distance f 0 < FAR = t.settled f ed.finish l.settled in
    let ne_root : root ≢ u = λ z. let y = ap (λ x. get_or distance x 0) z in omega (arith, t.root_near) in
    let ne_settled : (v : ℕ) → get_or rank v 0 < UNSETTLED → v ≢ u = λ v s z. let y = ap (λ x. get_or rank x 0) z in omega arith in
    let d_same : (v : ℕ) → v ≡ u → get_or (set distance u d) v 0 ≡ d = λ v z. set_same distance u d v (omega (arith, t.distances, ed.start)) z in
    let d_other : (v : ℕ) → v ≢ u → get_or (set distance u d) v 0 ≡ get_or distance v 0 = λ v z. set_other distance u d v z in
    let w_same : (v : ℕ) → v ≡ u → get_or (set width u w) v 0 ≡ w = λ v z. set_same width u w v (omega (arith, t.widths, ed.start)) z in
    let w_other : (v : ℕ) → v ≢ u → get_or (set width u w) v 0 ≡ get_or width v 0 = λ v z. set_other width u w v z in
    let p_same : (v : ℕ) → v ≡ u → get_or (set parent u e) v 0 ≡ e = λ v z. set_same parent u e v (omega (arith, t.parents, ed.start)) z in
    let p_other : (v : ℕ) → v ≢ u → get_or (set parent u e) v 0 ≡ get_or parent v 0 = λ v z. set_other parent u e v z in
    let ne_f : f ≢ u = ne_settled f l.settled in
    record {
      distances = set_length distance u d net.nodes t.distances;
      ranks = t.ranks;
      parents = set_length parent u e net.nodes t.parents;
      widths = set_length width u w net.nodes t.widths;
      root_inside = t.root_inside;
      root_near = d_other root ne_root ∙ t.root_near;
      most = t.most;
      early = t.early;
      settled = λ v b s. omega (arith, d_other v (ne_settled v s), t.settled v b s);
      order = λ x v bx bv s z. ⊎_elim
          (λ (y : v ≡ u). omega (arith, d_same v y, d_other x (ne_settled x s), l.latest x bx s, p.each e h r))
          (λ (y : v ≢ u). omega (arith, d_other v y, d_other x (ne_settled x s), t.order x v bx bv s z))
          (cases_eq v u);
      near = λ v b s. ⊎_elim
          (λ (y : v ≡ u). let m = ap (λ x. get_or numbers x 0) y in record {
            above = omega (arith, d_same v y, l.above, ed.plus, m);
            below = omega (arith, d_same v y, l.below, ed.minus, m);
            wide = omega (arith, w_same v y);
          })
          (λ (y : v ≢ u). let o = t.near v b (omega (arith, d_other v y)) in record {
            above = omega (arith, d_other v y, o.above);
            below = omega (arith, d_other v y, o.below);
            wide = omega (arith, w_other v y, o.wide);
          })
          (cases_eq v u);
      tree = λ v b s nr. ⊎_elim
          (λ (y : v ≡ u). let m = ap (λ x. get_or numbers x 0) y in let g = ap (λ x. get_or rank x 0) y in
          subst (IsParent net room numbers (set distance u d) rank (set width u w) v) (sym (p_same v y)) (record {
            inside = h;
            start = sym y;
            earlier = omega (arith, un, l.settled, g);
            takes = omega (arith, w_same v y);
            narrower = omega (arith, w_same v y, w_other f ne_f);
            longer = omega (arith, d_same v y, d_other f ne_f, m);
          }))
          (λ (y : v ≢ u). let o = t.tree v b (omega (arith, d_other v y)) nr in
          let g : ℕ = (edge_of net (get_or parent v 0)).finish in
          let ne_g : g ≢ u = ne_settled g (omega (arith, o.earlier, t.most v b)) in
          subst (IsParent net room numbers (set distance u d) rank (set width u w) v) (sym (p_other v y)) (record {
            inside = o.inside;
            start = o.start;
            earlier = o.earlier;
            takes = omega (arith, w_other v y, o.takes);
            narrower = omega (arith, w_other v y, w_other g ne_g, o.narrower);
            longer = omega (arith, d_other v y, d_other g ne_g, o.longer);
          }))
          (cases_eq v u);
    }

-- the same two, as the code reads the edge
pub unsettled-offer : (net : Network) (room numbers : List ℕ) (root k : ℕ) (distance rank parent width : List ℕ) (edge : Edge) (e d : ℕ) → edge ≡ edge_of net e
    → IsTree net room numbers root k distance rank parent width → IsPriced net room numbers → IsLast net numbers root k distance rank edge.finish
    → e < edges net → 0 < get_or room e 0 → edge.start < net.nodes
    → d + get_or numbers edge.finish 0 + edge.minus ≡ get_or distance edge.finish 0 + get_or numbers edge.start 0 + edge.plus
    → d < get_or distance edge.start 0 → get_or rank edge.start 0 ≡ UNSETTLED
unsettled-offer net room numbers root k distance rank parent width edge e d is t p l h r s q lt =
    rw is (unsettled net room numbers root k distance rank parent width e d t p (rw is at l) h r (rw is at s) (rw is at q) (rw is at lt))

pub IsTree-offer : (net : Network) (room numbers : List ℕ) (root k : ℕ) (distance rank parent width : List ℕ) (edge : Edge) (e d w : ℕ)
    → edge ≡ edge_of net e
    → IsNetwork net → IsTree net room numbers root k distance rank parent width → IsPriced net room numbers → IsLast net numbers root k distance rank (edge_of net e).finish
    → e < edges net → 0 < get_or room e 0
    → d + get_or numbers edge.finish 0 + edge.minus ≡ get_or distance edge.finish 0 + get_or numbers edge.start 0 + edge.plus
    → d < get_or distance edge.start 0
    → 1 ≤ w → w ≤ get_or room e 0 → w ≤ get_or width edge.finish 0
    → IsTree net room numbers root k (set distance edge.start d) rank (set parent edge.start e) (set width edge.start w)
IsTree-offer net room numbers root k distance rank parent width edge e d w is n t p l h r q lt w1 wr ww =
    rw is (IsTree-label net room numbers root k distance rank parent width e d w n t p l h r (rw is at q) (rw is at lt) w1 wr (rw is at ww))
