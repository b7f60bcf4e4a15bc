use Rattle.std.proofs.Common.{◌≡◌, ℕ, ◌+◌, ◌-◌, ◌<◌, ◌≤◌, ◌≢◌, List, length, get_or, set, refl, subst, sym, ap, ◌∙◌, ⊎_elim, arith}
use Rattle.std.proofs.lemmas.Bool.{cases_lt, cases_eq}
use Rattle.mcf_lower.specs.declared.edge.Edge.{Edge}
use Rattle.mcf_lower.specs.declared.end.End.{End}
use Rattle.mcf_lower.specs.declared.index.Index.{Index}
use Rattle.mcf_lower.specs.declared.backs.Backs.{Backs}
use Rattle.mcf_lower.specs.declared.labels.Labels.{Labels}
use Rattle.mcf_lower.specs.declared.labels.TheConstants.{UNSETTLED}
use Rattle.mcf_lower.specs.Net.{Network, IsNetwork, arc_of}
use Rattle.mcf_lower.specs.Edges.{edges, edge_of}
use Rattle.mcf_lower.specs.Ends.{end_of, IsComing, IsLeaving, IsIndex, ListsBacks}
use Rattle.mcf_lower.specs.Tree.{Last, IsMet, IsClosedBut, IsClosed}
use Rattle.mcf_lower.specs.Search.{IsOffered, MeetsAlong, MeetsBack}
use Rattle.mcf_lower.proofs.Trees.{set_same, set_other}
use Rattle.mcf_lower.proofs.Edges.{edge_of-along, edge_of-back, IsEdge-of}

pub IsOffered-same : (nodes : ℕ) (l : Labels) → IsOffered nodes l l
IsOffered-same nodes l = record { root = refl; count = refl; rank = refl; places = refl; lower = λ v b. omega arith; kept = λ v b s. refl }

pub IsOffered-join : (nodes : ℕ) (a b c : Labels) → IsOffered nodes a b → IsOffered nodes b c → IsOffered nodes a c
IsOffered-join nodes a b c h k = record {
  root = k.root ∙ h.root;
  count = k.count ∙ h.count;
  rank = k.rank ∙ h.rank;
  places = k.places ∙ h.places;
  lower = λ v l. omega (arith, h.lower v l, k.lower v l);
  kept = λ v l s. k.kept v l (rw (h.rank) s) ∙ h.kept v l s;
}

-- a node that is not settled comes nearer
pub IsOffered-label : (nodes : ℕ) (l after : Labels) (u d : ℕ) → after.root ≡ l.root → after.settled ≡ l.settled → after.rank.items ≡ l.rank.items
    → after.keys.places ≡ l.keys.places → after.distance.items ≡ set l.distance.items u d → u < length l.distance.items
    → d < get_or l.distance.items u 0 → get_or l.rank.items u 0 ≡ UNSETTLED → IsOffered nodes l after
IsOffered-label nodes l after u d root count rank places distance h lt un = record {
  root = root;
  count = count;
  rank = rank;
  places = places;
  lower = λ v b. rw distance (⊎_elim
      (λ (z : v ≡ u). let q = ap (λ x. get_or l.distance.items x 0) z in omega (arith, set_same l.distance.items u d v h z))
      (λ (z : v ≢ u). omega (arith, set_other l.distance.items u d v z))
      (cases_eq v u));
  kept = λ v b s. rw distance (set_other l.distance.items u d v (λ z. let q = ap (λ x. get_or l.rank.items x 0) z in omega arith));
}

pub Last-offered : (net : Network) (numbers : List ℕ) (a b : Labels) (v : ℕ) → Last net numbers a v → IsOffered net.nodes a b → Last net numbers b v
Last-offered net numbers a b v l o =
    let d = o.kept v l.inside l.settled in
    rw (o.root, o.count, o.rank) (record {
      inside = l.inside;
      settled = l.settled;
      latest = λ u h s. omega (arith, l.latest u h s, o.kept u h s);
      above = omega (arith, l.above);
      below = omega (arith, l.below);
    })

-- an edge into a settled node that makes no path shorter makes none shorter later
pub IsMet-offered : (net : Network) (numbers : List ℕ) (a b : Labels) (e : ℕ) → IsNetwork net → IsOffered net.nodes a b → e < edges net
    → get_or a.rank.items (edge_of net e).finish 0 < UNSETTLED → IsMet net numbers a.distance.items e → IsMet net numbers b.distance.items e
IsMet-offered net numbers a b e n o l s m =
    let d = IsEdge-of net n e l in
    omega (arith, m, o.lower (edge_of net e).start d.start, o.kept (edge_of net e).finish d.finish s)

-- an arc as its head sees it, and as its tail does
pub edge-coming : (net : Network) (v : ℕ) (end : End) → IsComing net v end
    → (let edge : Edge = record { start = end.node; finish = v; plus = end.cost; minus = 0 } in edge ≡ edge_of net end.arc)
edge-coming net v end c = rw (edge_of-along net end.arc c.inside, c.tail, c.head, c.cost)

pub edge-leaving : (net : Network) (v : ℕ) (end : End) → IsLeaving net v end
    → (let edge : Edge = record { start = end.node; finish = v; plus = 0; minus = end.cost } in edge ≡ edge_of net (end.arc + length net.arcs))
edge-leaving net v end c =
    let z : end.arc + length net.arcs - length net.arcs ≡ end.arc = omega arith in
    rw (edge_of-back net (end.arc + length net.arcs) (omega arith), z, c.tail, c.head, c.cost)

-- what is met stays met
pub IsMet-coming : (net : Network) (numbers : List ℕ) (a b : Labels) (v : ℕ) (end : End) → IsNetwork net → IsOffered net.nodes a b → Last net numbers a v
    → IsComing net v end → IsMet net numbers a.distance.items end.arc → IsMet net numbers b.distance.items end.arc
IsMet-coming net numbers a b v end n o l c m =
    let f : (edge_of net end.arc).finish ≡ v = ap (λ (x : Edge). x.finish) (edge_of-along net end.arc c.inside) ∙ c.head in
    let r = ap (λ x. get_or a.rank.items x 0) f in
    IsMet-offered net numbers a b end.arc n o (omega (arith, c.inside)) (omega (arith, l.settled)) m

pub IsMet-leaving : (net : Network) (numbers : List ℕ) (a b : Labels) (v : ℕ) (end : End) → IsNetwork net → IsOffered net.nodes a b → Last net numbers a v
    → IsLeaving net v end → IsMet net numbers a.distance.items (end.arc + length net.arcs) → IsMet net numbers b.distance.items (end.arc + length net.arcs)
IsMet-leaving net numbers a b v end n o l c m =
    let f = ap (λ (x : Edge). x.finish) (sym (edge-leaving net v end c)) in
    let r = ap (λ x. get_or a.rank.items x 0) f in
    IsMet-offered net numbers a b (end.arc + length net.arcs) n o (omega (arith, c.inside)) (omega (arith, l.settled)) m

-- all arcs into a node were taken
pub MeetsAlong-taken : (net : Network) (room numbers distance : List ℕ) (index : Index) (v : ℕ) → IsIndex net index → v < net.nodes
    → ((p : ℕ) → get_or index.starts.items v 0 ≤ p → p < get_or index.starts.items (v + 1) 0 → 0 < get_or room (end_of index.ends.items p).arc 0
    → IsMet net numbers distance (end_of index.ends.items p).arc)
    → MeetsAlong net room numbers distance v
MeetsAlong-taken net room numbers distance index v ix vl h = record {
  each = λ a l q r.
      let w = ix.all a l (omega (arith, q)) in
      let low = ap (λ x. get_or index.starts.items x 0) q in
      let high = ap (λ x. get_or index.starts.items (x + 1) 0) q in
      let e : (end_of index.ends.items w.0).arc ≡ a = w.3 in
      let g = ap (λ x. get_or room x 0) e in
      subst (IsMet net numbers distance) e (h w.0 (omega (arith, w.1)) (omega (arith, w.2)) (omega arith));
}

-- all arcs that may carry something out of a node were taken
pub MeetsBack-taken : (net : Network) (room numbers distance : List ℕ) (b : Backs) (v : ℕ) → ListsBacks net room b → v < net.nodes
    → ((k : ℕ) → k < length b.ends.items → (arc_of net (end_of b.ends.items k).arc).tail ≡ v
    → 0 < get_or room ((end_of b.ends.items k).arc + length net.arcs) 0 → IsMet net numbers distance ((end_of b.ends.items k).arc + length net.arcs))
    → MeetsBack net room numbers distance v
MeetsBack-taken net room numbers distance b v lb vl h = record {
  each = λ a l q r.
      let w = lb.backs.there a l (lb.listed a l r) in
      let e : (end_of b.ends.items w.0).arc ≡ a = w.3 in
      let t = ap (λ x. (arc_of net x).tail) e in
      let g = ap (λ x. get_or room (x + length net.arcs) 0) e in
      subst (λ (x : ℕ). IsMet net numbers distance (x + length net.arcs)) e (h w.0 w.2 (t ∙ q) (omega arith));
}

-- all edges into the node settled last were taken
pub IsClosed-pulled : (net : Network) (room numbers : List ℕ) (a b d : Labels) (v : ℕ) → IsNetwork net → IsOffered net.nodes a b → IsOffered net.nodes b d
    → get_or a.rank.items v 0 < UNSETTLED → IsClosedBut net room numbers a.distance.items a.rank.items v
    → MeetsAlong net room numbers b.distance.items v → MeetsBack net room numbers d.distance.items v
    → IsClosed net room numbers d.distance.items d.rank.items
IsClosed-pulled net room numbers a b d v n o q s h along_ back_ = rw (q.rank, o.rank) (record {
  each = λ e l f r. ⊎_elim
      (λ (z : (edge_of net e).finish ≡ v). ⊎_elim
      (λ (y : e < length net.arcs).
      let head = ap (λ (x : Edge). x.finish) (edge_of-along net e y) in
      let m = along_.each e y (sym head ∙ z) r in
      IsMet-offered net numbers b d e n q l (rw (o.rank) f) m)
      (λ (y : length net.arcs ≤ e).
      let tail = ap (λ (x : Edge). x.finish) (edge_of-back net e y) in
      let i : e - length net.arcs + length net.arcs ≡ e = omega arith in
      let g = ap (λ x. get_or room x 0) i in
      subst (IsMet net numbers d.distance.items) i (back_.each (e - length net.arcs) (omega arith) (sym tail ∙ z) (omega arith)))
      (cases_lt e (length net.arcs)))
      (λ (z : (edge_of net e).finish ≢ v).
      IsMet-offered net numbers b d e n q l (rw (o.rank) f) (IsMet-offered net numbers a b e n o l f (h.each e l z f r)))
      (cases_eq (edge_of net e).finish v);
})
