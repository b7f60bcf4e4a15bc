use Rattle.std.proofs.Common.{◌≡◌, ℕ, ◌<◌, ◌≤◌, List, [], ◌∷◌, ◌++◌, length, subst, sym, ⊎_elim, arith}
use Rattle.std.proofs.lemmas.Bool.{cases_lt}
use Rattle.std.proofs.lemmas.Grind.{common_steps}
use Rattle.mcf_lower.specs.declared.net.Arc.{Arc}
use Rattle.mcf_lower.specs.declared.net.TheConstants.{ARCS_MAX}
use Rattle.mcf_lower.specs.Net.{IsNetwork, IsArc, arc_of}

before_push : (nodes : ℕ) (arcs : List Arc) (arc : Arc) (a : ℕ) → a < length arcs
    → arc_of (record { nodes = nodes; arcs = arcs ++ arc ∷ [] }) a ≡ arc_of (record { nodes = nodes; arcs = arcs }) a
before_push nodes arcs arc a l = grind (arith, common_steps)

at_push : (nodes : ℕ) (arcs : List Arc) (arc : Arc) (a : ℕ) → a ≡ length arcs
    → arc_of (record { nodes = nodes; arcs = arcs ++ arc ∷ [] }) a ≡ arc
at_push nodes arcs arc a e = grind (arith, common_steps)

-- a net with one more arc is a net
pub IsNetwork-push : (nodes : ℕ) (arcs : List Arc) (arc : Arc) → IsNetwork (record { nodes = nodes; arcs = arcs }) → IsArc nodes arc
    → length arcs < ARCS_MAX → IsNetwork (record { nodes = nodes; arcs = arcs ++ arc ∷ [] })
IsNetwork-push nodes arcs arc n h l = record {
  some = n.some;
  few = n.few;
  arcs_few = grind (arith, common_steps);
  each = λ a b. ⊎_elim
      (λ (lt : a < length arcs). subst (IsArc nodes) (sym (before_push nodes arcs arc a lt)) (n.each a lt))
      (λ (ge : length arcs ≤ a). subst (IsArc nodes) (sym (at_push nodes arcs arc a (grind (arith, common_steps)))) h)
      (cases_lt a (length arcs));
}
