use Rattle.std.proofs.Common.{◌≡◌, ℕ, ◌+◌, ◌-◌, ◌<◌, ◌≤◌, ◌≢◌, List, [], ◌∷◌, ◌++◌, length, get_or, set, Bool, true, false, IsTrue, refl, subst, sym, ap, ◌∙◌, inl, inr, ⊎_elim, arith}
use Rattle.std.proofs.lemmas.Bool.{cases_lt, cases_eq}
use Rattle.std.proofs.lemmas.Grind.{common_steps}
use Rattle.mcf_lower.specs.declared.end.End.{End}
use Rattle.mcf_lower.specs.declared.backs.Backs.{Backs}
use Rattle.mcf_lower.specs.Net.{Network, IsNetwork, arc_of}
use Rattle.mcf_lower.specs.Edges.{IsChain}
use Rattle.mcf_lower.specs.Ends.{end_of, IsComing, IsLeaving, StandsWithin, IsIndexTo, AreAdded, AreBacks, IsListed}
use Rattle.mcf_lower.proofs.Edges.{next_old, next_new, IsChain-ext, IsChain-step}

pub end_old : (ends : List End) (x : End) (p : ℕ) → p < length ends → end_of (ends ++ x ∷ []) p ≡ end_of ends p
end_old ends x p l = grind (arith, common_steps)

pub end_new : (ends : List End) (x : End) (p : ℕ) → p ≡ length ends → end_of (ends ++ x ∷ []) p ≡ x
end_new ends x p e = grind (arith, common_steps)

pub end_longer : (ends : List End) (x : End) → length (ends ++ x ∷ []) ≡ length ends + 1
end_longer ends x = grind (arith, common_steps)

-- arcs into node v from number `cursor` on are added to a list
pub record AreAddedFrom (net : Network) (v cursor : ℕ) (before after : List End) : Type 0 where
  pub longer : length before ≤ length after
  pub kept : (p : ℕ) → p < length before → end_of after p ≡ end_of before p
  pub each : (p : ℕ) → length before ≤ p → p < length after → IsComing net v (end_of after p)
  pub all : (a : ℕ) → a < length net.arcs → (arc_of net a).head ≡ v → cursor ≤ a → StandsWithin after (length before) (length after) a

abbrev head_of : Network → ℕ → ℕ
head_of net a = (arc_of net a).head

pub AreAddedFrom-first : (net : Network) (v c : ℕ) (ends : List End) (first next : List ℕ) → IsChain net.nodes (head_of net) (length net.arcs) first next
    → c ≡ get_or first v 0 → AreAddedFrom net v c ends ends
AreAddedFrom-first net v c ends first next ch e = record {
  longer = omega arith;
  kept = λ p l. refl;
  each = λ p l m. absurd (omega arith);
  all = λ a l q m. let w = ap (λ x. get_or first x 0) q in absurd (omega (arith, ch.all_first a l));
}

pub AreAddedFrom-next : (net : Network) (v c n : ℕ) (before ends longer : List End) (x : End) (first next : List ℕ)
    → IsChain net.nodes (head_of net) (length net.arcs) first next
    → 0 < c → c ≤ length net.arcs → head_of net (c - 1) ≡ v → n ≡ get_or next (c - 1) 0 → x.arc ≡ c - 1 → IsComing net (head_of net (c - 1)) x
    → longer ≡ ends ++ x ∷ [] → AreAddedFrom net v c before ends → AreAddedFrom net v n before longer
AreAddedFrom-next net v c n before ends longer x first next ch p b t q i m e h = rw e (record {
  longer = omega (arith, h.longer, end_longer ends x);
  kept = λ k l. end_old ends x k (omega (arith, h.longer)) ∙ h.kept k l;
  each = λ k l f. ⊎_elim
      (λ (z : k < length ends). subst (IsComing net v) (sym (end_old ends x k z)) (h.each k l z))
      (λ (z : length ends ≤ k). subst (IsComing net v) (sym (end_new ends x k (omega (arith, end_longer ends x)))) (rw t at m))
      (cases_lt k (length ends));
  all = λ a l f g. ⊎_elim
      (λ (z : c ≤ a). let w = h.all a l f z in (w.0, w.1, omega (arith, w.2, end_longer ends x), ap (λ (y : End). y.arc) (end_old ends x w.0 w.2) ∙ w.3))
      (λ (z : a < c). ⊎_elim
      (λ (y : a < c - 1). absurd (omega (arith, ch.all_next a (c - 1) y (omega arith) (f ∙ sym t))))
      (λ (y : c - 1 ≤ a). let d : c - 1 ≡ a = omega arith in
      (length ends, h.longer, omega (arith, end_longer ends x), ap (λ (y : End). y.arc) (end_new ends x (length ends) refl) ∙ i ∙ d))
      (cases_lt a (c - 1)))
      (⊎_elim (λ (z : a < c). inr z) (λ (z : c ≤ a). inl z) (cases_lt a c));
})

pub AreAdded-from : (net : Network) (v c : ℕ) (before after : List End) → c ≡ 0 → AreAddedFrom net v c before after → AreAdded net v before after
AreAdded-from net v c before after z h = record { longer = h.longer; kept = h.kept; each = h.each; all = λ a l q. h.all a l q (omega arith) }

-- no nodes yet
pub IsIndexTo-none : (net : Network) (starts : List ℕ) (ends : List End) → starts ≡ 0 ∷ [] → ends ≡ [] → IsIndexTo net 0 starts ends
IsIndexTo-none net starts ends p q = rw (p, q) (record {
  nodes = refl;
  last = refl;
  rising = λ v l. absurd (omega arith);
  within = λ v l. let z : v ≡ 0 = omega arith in rw z (omega arith);
  each = λ v k l. absurd (omega arith);
  all = λ a l f. absurd (omega arith);
})

-- one more node
pub IsIndexTo-more : (net : Network) (v x : ℕ) (starts longer : List ℕ) (ends more : List End) → IsIndexTo net v starts ends → AreAdded net v ends more
    → x ≡ length more → longer ≡ starts ++ x ∷ [] → IsIndexTo net (v + 1) longer more
IsIndexTo-more net v x starts longer ends more h a e q = rw q (
    let old : (u : ℕ) → u ≤ v → get_or (starts ++ x ∷ []) u 0 ≡ get_or starts u 0 = λ u l. next_old starts x u (omega (arith, h.nodes)) in
    let new : get_or (starts ++ x ∷ []) (v + 1) 0 ≡ x = next_new starts x (v + 1) (omega (arith, h.nodes)) in
    record {
      nodes = grind (arith, common_steps, h.nodes);
      last = new ∙ e;
      rising = λ u l. ⊎_elim
          (λ (z : u < v). omega (arith, old u (omega arith), old (u + 1) (omega arith), h.rising u z))
          (λ (z : v ≤ u). let y : u ≡ v = omega arith in rw y (omega (arith, old v (omega arith), new, h.last, a.longer)))
          (cases_lt u v);
      within = λ u l. ⊎_elim
          (λ (z : u ≤ v). omega (arith, old u z, h.within u z, a.longer))
          (λ (z : v < u). let y : u ≡ v + 1 = omega arith in rw y (omega (arith, new)))
          (⊎_elim (λ (z : v < u). inr z) (λ (z : u ≤ v). inl z) (cases_lt v u));
      each = λ u p l low high. ⊎_elim
          (λ (z : u < v).
          let k : p < length ends = omega (arith, old (u + 1) (omega arith), h.within (u + 1) (omega arith)) in
          subst (IsComing net u) (sym (a.kept p k)) (h.each u p z (omega (arith, old u (omega arith))) (omega (arith, old (u + 1) (omega arith)))))
          (λ (z : v ≤ u). let y : v ≡ u = omega arith in
          subst (λ (w : ℕ). IsComing net w (end_of more p)) y
          (a.each p (omega (arith, old v (omega arith), h.last, ap (λ w. get_or (starts ++ x ∷ []) w 0) y)) (omega (arith, new, ap (λ w. get_or (starts ++ x ∷ []) (w + 1) 0) y))))
          (cases_lt u v);
      all = λ b l f. ⊎_elim
          (λ (z : (arc_of net b).head < v).
          let w = h.all b l z in
          let s = old (arc_of net b).head (omega arith) in
          let t = old ((arc_of net b).head + 1) (omega arith) in
          let k : w.0 < length ends = omega (arith, w.2, h.within ((arc_of net b).head + 1) (omega arith)) in
          (w.0, omega (arith, w.1), omega (arith, w.2), ap (λ (y : End). y.arc) (a.kept w.0 k) ∙ w.3))
          (λ (z : v ≤ (arc_of net b).head).
          let y : (arc_of net b).head ≡ v = omega arith in
          let w = a.all b l y in
          let s = ap (λ u. get_or (starts ++ x ∷ []) u 0) y in
          let t = ap (λ u. get_or (starts ++ x ∷ []) (u + 1) 0) y in
          (w.0, omega (arith, w.1, old v (omega arith), h.last), omega (arith, w.2, new), w.3))
          (cases_lt (arc_of net b).head v);
    })

flag_same : (xs : List Bool) (i v : ℕ) → i < length xs → v ≡ i → IsTrue (get_or (set xs i true) v false)
flag_same xs i v l e = grind (arith, common_steps)

flag_other : (xs : List Bool) (i v : ℕ) → v ≢ i → get_or (set xs i true) v false ≡ get_or xs v false
flag_other xs i v n = grind (arith, common_steps)

flags_length : (xs : List Bool) (i n : ℕ) → length xs ≡ n → length (set xs i true) ≡ n
flags_length xs i n e = grind (arith, common_steps)

read_again : (xs : List ℕ) (i : ℕ) → i < length xs → get_or xs i 0 ≡ get_or xs i (get_or xs i 0)
read_again xs i l = grind (arith, common_steps)

-- one more arc is listed
pub record IsListedOne (b after : Backs) (a tail : ℕ) (x : End) : Type 0 where
  pub listed : after.listed.items ≡ set b.listed.items a true
  pub ends : after.ends.items ≡ b.ends.items ++ x ∷ []
  pub first : after.first.items ≡ set b.first.items tail (length b.ends.items + 1)
  pub next : after.next.items ≡ b.next.items ++ get_or b.first.items tail 0 ∷ []

pub AreBacks-list : (net : Network) (b after : Backs) (a tail : ℕ) (x : End) → IsNetwork net → AreBacks net b → a < length net.arcs → x.arc ≡ a
    → IsLeaving net (arc_of net a).tail x → tail ≡ (arc_of net a).tail → IsListedOne b after a tail x → AreBacks net after
AreBacks-list net b after a tail x n h l i m t o =
    let ends : List End = b.ends.items ++ x ∷ [] in
    let count : ℕ = length b.ends.items in
    let node_of : ℕ → ℕ = λ k. (arc_of net (end_of ends k).arc).tail in
    let longer : length ends ≡ count + 1 = end_longer b.ends.items x in
    let new : (k : ℕ) → k ≡ count → end_of ends k ≡ x = λ k e. end_new b.ends.items x k e in
    let same : (k : ℕ) → k < count → (arc_of net (end_of b.ends.items k).arc).tail ≡ node_of k =
    λ k e. ap (λ (y : End). (arc_of net y.arc).tail) (sym (end_old b.ends.items x k e)) in
    let here : tail ≡ node_of count = t ∙ sym (ap (λ (y : End). (arc_of net y.arc).tail) (new count refl) ∙ ap (λ y. (arc_of net y).tail) i) in
    let inside : tail < net.nodes = omega (arith, t, (n.each a l).tail) in
    let chain = IsChain-ext net.nodes (λ k. (arc_of net (end_of b.ends.items k).arc).tail) node_of count b.first.items b.next.items same h.chain in
    record {
      flags = ap length o.listed ∙ flags_length b.listed.items a (length net.arcs) h.flags;
      each = λ k e. let f : k < length ends = omega (arith, ap length o.ends) in
          rw (o.ends) (⊎_elim
          (λ (z : k < count). subst (λ (y : End). IsLeaving net (arc_of net y.arc).tail y) (sym (end_old b.ends.items x k z)) (h.each k z))
          (λ (z : count ≤ k). subst (λ (y : End). IsLeaving net (arc_of net y.arc).tail y) (sym (new k (omega arith))) (let q = ap (λ y. (arc_of net y).tail) i in subst (λ (y : ℕ). IsLeaving net y x) (sym q) m))
          (cases_lt k count));
      chain = rw (o.ends, o.first, o.next, longer)
          (IsChain-step net.nodes node_of count b.first.items b.next.items tail (get_or b.first.items tail 0) (b.next.items ++ get_or b.first.items tail 0 ∷ [])
          chain here inside (read_again b.first.items tail (omega (arith, h.chain.firsts))) refl);
      there = λ c e f. ⊎_elim
          (λ (z : c ≡ a). (
            count,
            omega arith,
            omega (arith, ap length o.ends, longer),
            ap (λ (y : List End). (end_of y count).arc) o.ends ∙ ap (λ (y : End). y.arc) (new count refl) ∙ i ∙ sym z,
          ))
          (λ (z : c ≢ a).
          let w = h.there c e (subst IsTrue (ap (λ y. get_or y c false) o.listed ∙ flag_other b.listed.items a c z) f) in (
            w.0,
            omega arith,
            omega (arith, w.2, ap length o.ends, longer),
            ap (λ (y : List End). (end_of y w.0).arc) o.ends ∙ ap (λ (y : End). y.arc) (end_old b.ends.items x w.0 w.2) ∙ w.3,
          ))
          (cases_eq c a);
    }

pub IsListed-kept : (b after : Backs) (a tail c : ℕ) (x : End) → IsListedOne b after a tail x → IsListed b c → a < length b.listed.items → IsListed after c
IsListed-kept b after a tail c x o h l = rw (o.listed) (⊎_elim
    (λ (z : c ≡ a). flag_same b.listed.items a c l z)
    (λ (z : c ≢ a). subst IsTrue (sym (flag_other b.listed.items a c z)) h)
    (cases_eq c a))

pub IsListed-here : (b after : Backs) (a tail : ℕ) (x : End) → IsListedOne b after a tail x → a < length b.listed.items → IsListed after a
IsListed-here b after a tail x o l = rw (o.listed) (flag_same b.listed.items a a l refl)
