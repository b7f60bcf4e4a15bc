use Rattle.std.proofs.Common.{◌≡◌, ℕ, ◌+◌, ◌<◌, ◌≤◌, ◌≢◌, List, length, get_or, set, cond, eqb, refl, ap, ⊎_elim, arith}
use Rattle.std.proofs.lemmas.Bool.{cases_eq, eq-eqb, ne_eqb}
use Rattle.std.proofs.lemmas.List.Sums.{sum_by-set, count_by-le-length}
use Rattle.std.specs.List.{sum_by}
use Rattle.mcf_lower.specs.declared.labels.Labels.{Labels}
use Rattle.mcf_lower.specs.declared.labels.TheConstants.{FAR, UNSETTLED}
use Rattle.mcf_lower.specs.Net.{Network, IsNetwork}
use Rattle.mcf_lower.specs.Edges.{edge_of}
use Rattle.mcf_lower.specs.Tree.{IsTree, Tree, IsLast, IsClosedBut, IsClosed, IsNearestNode, IsBegun}
use Rattle.mcf_lower.proofs.Edges.{IsEdge-of}
use Rattle.mcf_lower.proofs.Trees.{set_same, set_other, set_length}

pub Tree-begun : (net : Network) (room numbers : List ℕ) (root : ℕ) (l : Labels) → root < net.nodes → IsBegun net.nodes root l → Tree net room numbers l
Tree-begun net room numbers root l h b =
    let only : (v : ℕ) → v < net.nodes → get_or l.distance.items v 0 < FAR → v ≡ root = λ v k d. ⊎_elim
    (λ (z : v ≡ root). z)
    (λ (z : v ≢ root). absurd (omega (arith, b.far v k z)))
    (cases_eq v root) in
    rw (b.root_is, b.settled) (record {
      distances = b.distances;
      ranks = b.ranks;
      parents = b.parents;
      widths = b.widths;
      root_inside = h;
      root_near = b.near;
      most = λ v k. omega (arith, b.unsettled v k);
      early = λ v k s. absurd (omega (arith, b.unsettled v k));
      settled = λ v k s. absurd (omega (arith, b.unsettled v k));
      order = λ u v k m s z. absurd (omega (arith, b.unsettled u k));
      near = λ v k d. rw (only v k d) (record { above = omega (arith, b.near); below = omega (arith, b.near); wide = b.width });
      tree = λ v k d n. absurd (n (only v k d));
    })

pub IsClosed-begun : (net : Network) (room numbers : List ℕ) (root : ℕ) (l : Labels) → IsNetwork net → IsBegun net.nodes root l
    → IsClosed net room numbers l.distance.items l.rank.items
IsClosed-begun net room numbers root l n b = record {
  each = λ e h s r. absurd (omega (arith, b.unsettled (edge_of net e).finish (IsEdge-of net n e h).finish));
}

-- the nearest node becomes the last of the settled ones
pub IsTree-settle : (net : Network) (room numbers : List ℕ) (root k : ℕ) (distance rank parent width : List ℕ) (v : ℕ)
    → IsNetwork net → IsTree net room numbers root k distance rank parent width → IsNearestNode net.nodes distance rank v → k < UNSETTLED
    → IsTree net room numbers root (k + 1) distance (set rank v k) parent width
IsTree-settle net room numbers root k distance rank parent width v n t b few =
    let same : (u : ℕ) → u ≡ v → get_or (set rank v k) u 0 ≡ k = λ u z. set_same rank v k u (omega (arith, t.ranks, b.inside)) z in
    let other : (u : ℕ) → u ≢ v → get_or (set rank v k) u 0 ≡ get_or rank u 0 = λ u z. set_other rank v k u z in
    record {
      distances = t.distances;
      ranks = set_length rank v k net.nodes t.ranks;
      parents = t.parents;
      widths = t.widths;
      root_inside = t.root_inside;
      root_near = t.root_near;
      most = λ u h. ⊎_elim
          (λ (z : u ≡ v). omega (arith, same u z))
          (λ (z : u ≢ v). omega (arith, other u z, t.most u h))
          (cases_eq u v);
      early = λ u h s. ⊎_elim
          (λ (z : u ≡ v). omega (arith, same u z))
          (λ (z : u ≢ v). omega (arith, other u z, t.early u h (omega (arith, other u z))))
          (cases_eq u v);
      settled = λ u h s. ⊎_elim
          (λ (z : u ≡ v). let w = ap (λ x. get_or distance x 0) z in omega (arith, b.near))
          (λ (z : u ≢ v). t.settled u h (omega (arith, other u z)))
          (cases_eq u v);
      order = λ u w hu hw s z. ⊎_elim
          (λ (y : w ≡ v). absurd (omega (arith, same w y)))
          (λ (y : w ≢ v). ⊎_elim
          (λ (x : u ≡ v). let q = ap (λ x. get_or distance x 0) x in omega (arith, b.least w hw (omega (arith, other w y))))
          (λ (x : u ≢ v). t.order u w hu hw (omega (arith, other u x)) (omega (arith, other w y)))
          (cases_eq u v))
          (cases_eq w v);
      near = λ u h d. let o = t.near u h d in record { above = omega (arith, o.above); below = omega (arith, o.below); wide = o.wide };
      tree = λ u h d nr.
          let o = t.tree u h d nr in
          let g : ℕ = (edge_of net (get_or parent u 0)).finish in
          let hg = (IsEdge-of net n (get_or parent u 0) o.inside).finish in
          let ne : g ≢ v = λ z. let q = ap (λ x. get_or rank x 0) z in omega (arith, b.unsettled, o.earlier, t.most u h) in
          record {
            inside = o.inside;
            start = o.start;
            earlier = ⊎_elim
                (λ (z : u ≡ v). omega (arith, same u z, other g ne, t.early g hg (omega (arith, o.earlier, t.most u h))))
                (λ (z : u ≢ v). omega (arith, other u z, other g ne, o.earlier))
                (cases_eq u v);
            takes = o.takes;
            narrower = o.narrower;
            longer = o.longer;
          };
    }

pub IsLast-settle : (net : Network) (room numbers : List ℕ) (root k : ℕ) (distance rank parent width : List ℕ) (v : ℕ)
    → IsTree net room numbers root k distance rank parent width → IsNearestNode net.nodes distance rank v → k < UNSETTLED
    → IsLast net numbers root (k + 1) distance (set rank v k) v
IsLast-settle net room numbers root k distance rank parent width v t b few =
    let same = set_same rank v k v (omega (arith, t.ranks, b.inside)) refl in
    let o = t.near v b.inside b.near in
    record {
      inside = b.inside;
      settled = omega arith;
      latest = λ u h s. ⊎_elim
          (λ (z : u ≡ v). let q = ap (λ x. get_or distance x 0) z in omega arith)
          (λ (z : u ≢ v). t.order u v h b.inside (omega (arith, set_other rank v k u z)) b.unsettled)
          (cases_eq u v);
      above = omega (arith, o.above);
      below = omega (arith, o.below);
    }

pub IsClosedBut-settle : (net : Network) (room numbers distance rank : List ℕ) (v k : ℕ)
    → IsClosed net room numbers distance rank → IsClosedBut net room numbers distance (set rank v k) v
IsClosedBut-settle net room numbers distance rank v k h = record {
  each = λ e l q s r. h.each e l (omega (arith, set_other rank v k (edge_of net e).finish q)) r;
}

-- how many nodes are not settled
abbrev pub one_unsettled : ℕ → ℕ
one_unsettled r = cond (eqb r UNSETTLED) 1 0

abbrev pub unsettled : List ℕ → ℕ
unsettled rank = sum_by one_unsettled rank

one_at : (r : ℕ) → r ≡ UNSETTLED → one_unsettled r ≡ 1
one_at r e = rw (eq-eqb r UNSETTLED e)

none_at : (r : ℕ) → r < UNSETTLED → one_unsettled r ≡ 0
none_at r l = rw (ne_eqb r UNSETTLED (λ z. omega arith))

pub unsettled-settle : (rank : List ℕ) (v k : ℕ) → v < length rank → get_or rank v 0 ≡ UNSETTLED → k < UNSETTLED
    → unsettled (set rank v k) + 1 ≡ unsettled rank
unsettled-settle rank v k h u l =
    let s = sum_by-set one_unsettled rank v k 0 h in
    let p = one_at (get_or rank v 0) u in
    let q = none_at k l in
    omega arith

pub unsettled-le : (rank : List ℕ) → unsettled rank ≤ length rank
unsettled-le rank = count_by-le-length (λ r. eqb r UNSETTLED) rank
