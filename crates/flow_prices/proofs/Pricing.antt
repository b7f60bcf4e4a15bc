use Rattle.std.proofs.Common.{◌≡◌, ℕ, zero, suc, ◌+◌, ◌-◌, ◌*◌, ◌<◌, ◌≤◌, ◌≢◌, max, List, [], ◌∷◌, ◌++◌, length, get_or, ap, ◌∙◌, ⊎_elim, arith, ℤ, pos, ◌-ℤ◌}
use Rattle.std.proofs.lemmas.Bool.{cases_lt, cases_eq}
use Rattle.std.proofs.lemmas.Int.{ints}
use Rattle.std.proofs.lemmas.Grind.{common_steps}
use Rattle.mcf_lower.specs.Net.{Network, IsNetwork, arc_of}
use Rattle.mcf_lower.specs.Circulation.{Fits}
use Rattle.mcf_lower.specs.Answers.{units_of, IsPricedFlow}
use Rattle.flow_prices.specs.Narrow.{AreNarrowed}
use Rattle.flow_prices.specs.Prices.{greatest_to, greatest_cost, number_of, AreLess, AreNear, IsPriced}

pub greatest_to-more : (n : ℕ) (f : ℕ → ℕ) → greatest_to (n + 1) f ≡ max (greatest_to n f) (f n)
greatest_to-more n f = let e : n + 1 ≡ suc n = omega arith in ap (λ x. greatest_to x f) e

pub le-greatest_to : (n : ℕ) (f : ℕ → ℕ) (i : ℕ) → i < n → f i ≤ greatest_to n f
le-greatest_to zero f i l = omega arith
le-greatest_to (suc n) f i l = ⊎_elim
    (λ (e : i ≡ n). let d = ap f e in omega arith)
    (λ (e : i ≢ n). let r = le-greatest_to n f i (omega arith) in omega arith)
    (cases_eq i n)

-- numbers that fit still do when they are narrowed, as no cost is above the gap
pub Fits-narrowed : (net : Network) (flow : ℕ → ℕ) (numbers narrowed : List ℕ) (lowered : List ℤ) → IsNetwork net → length numbers ≡ net.nodes
    → Fits net flow (λ v. pos (get_or numbers v 0)) → AreNarrowed numbers (greatest_cost net) narrowed → AreLess narrowed lowered
    → Fits net flow (number_of lowered)
Fits-narrowed net flow numbers narrowed lowered n s f w d =
    let at : (v : ℕ) → v < net.nodes → number_of lowered v ≡ pos (get_or narrowed v 0) -ℤ pos (get_or narrowed 0 0) = λ v h. d.each v (omega (arith, w.length_same)) in
    record {
      low = λ a l r.
          let t = (n.each a l).tail in
          let h = (n.each a l).head in
          let e = at (arc_of net a).tail t in
          let g = at (arc_of net a).head h in
          ⊎_elim
          (λ (z : get_or numbers (arc_of net a).head 0 < (arc_of net a).cost + get_or numbers (arc_of net a).tail 0). f.low a l (omega (arith, ints)))
          (λ (z : (arc_of net a).cost + get_or numbers (arc_of net a).tail 0 ≤ get_or numbers (arc_of net a).head 0).
          let o = w.each (arc_of net a).tail (arc_of net a).head (omega arith) (omega arith) (omega arith) in
          let c = le-greatest_to (length net.arcs) (λ k. (arc_of net k).cost) a l in
          let b : (arc_of net a).cost + get_or narrowed (arc_of net a).tail 0 ≤ get_or narrowed (arc_of net a).head 0 = omega (arith, o.least) in
          absurd (omega (arith, ints)))
          (cases_lt (get_or numbers (arc_of net a).head 0) ((arc_of net a).cost + get_or numbers (arc_of net a).tail 0));
      cap = λ a l r.
          let t = (n.each a l).tail in
          let h = (n.each a l).head in
          let e = at (arc_of net a).tail t in
          let g = at (arc_of net a).head h in
          ⊎_elim
          (λ (z : (arc_of net a).cost + get_or numbers (arc_of net a).tail 0 < get_or numbers (arc_of net a).head 0). f.cap a l (omega (arith, ints)))
          (λ (z : get_or numbers (arc_of net a).head 0 ≤ (arc_of net a).cost + get_or numbers (arc_of net a).tail 0).
          let b : get_or narrowed (arc_of net a).head 0 ≤ (arc_of net a).cost + get_or narrowed (arc_of net a).tail 0 = ⊎_elim
          (λ (y : get_or numbers (arc_of net a).head 0 < get_or numbers (arc_of net a).tail 0).
          let o = w.each (arc_of net a).head (arc_of net a).tail (omega arith) (omega arith) (omega arith) in omega (arith, o.order))
          (λ (y : get_or numbers (arc_of net a).tail 0 ≤ get_or numbers (arc_of net a).head 0).
          let o = w.each (arc_of net a).tail (arc_of net a).head (omega arith) (omega arith) y in omega (arith, o.most))
          (cases_lt (get_or numbers (arc_of net a).head 0) (get_or numbers (arc_of net a).tail 0)) in
          absurd (omega (arith, ints)))
          (cases_lt ((arc_of net a).cost + get_or numbers (arc_of net a).tail 0) (get_or numbers (arc_of net a).head 0));
    }

-- the answer of the search, with its numbers narrowed and lowered
pub IsPriced-made : (net : Network) (flow numbers narrowed : List ℕ) (lowered : List ℤ) → IsNetwork net → IsPricedFlow net flow numbers
    → AreNarrowed numbers (greatest_cost net) narrowed → AreLess narrowed lowered → IsPriced net flow lowered
IsPriced-made net flow numbers narrowed lowered n s w d =
    let same : length narrowed ≡ net.nodes = w.length_same ∙ s.nodes in
    let bound : (v : ℕ) → v < net.nodes → get_or narrowed v 0 ≤ (net.nodes - 1) * greatest_cost net = λ v h. rw (s.nodes) at (w.most v (omega (arith, s.nodes))) in
    let first = bound 0 n.some in
    record {
      is_flow = s.is_flow;
      fits = Fits-narrowed net (units_of flow) numbers narrowed lowered n s.nodes s.fits w d;
      nodes = d.length_same ∙ same;
      zero = omega (arith, ints, d.each 0 (omega (arith, n.some)));
      least = λ v h. omega (arith, ints, d.each v (omega arith), bound v h);
      most = λ v h. omega (arith, ints, d.each v (omega arith), bound v h);
    }

-- numbers that fit still do less the first of them
pub Fits-lowered : (net : Network) (flow : ℕ → ℕ) (numbers : List ℕ) (lowered : List ℤ) → IsNetwork net → length numbers ≡ net.nodes
    → Fits net flow (λ v. pos (get_or numbers v 0)) → AreLess numbers lowered → Fits net flow (number_of lowered)
Fits-lowered net flow numbers lowered n s f d = record {
  low = λ a l r.
      let e = d.each (arc_of net a).tail (omega (arith, (n.each a l).tail)) in
      let g = d.each (arc_of net a).head (omega (arith, (n.each a l).head)) in
      f.low a l (omega (arith, ints));
  cap = λ a l r.
      let e = d.each (arc_of net a).tail (omega (arith, (n.each a l).tail)) in
      let g = d.each (arc_of net a).head (omega (arith, (n.each a l).head)) in
      f.cap a l (omega (arith, ints));
}

-- the answer of the search, with its numbers lowered
pub IsPriced-near : (net : Network) (flow numbers : List ℕ) (lowered : List ℤ) → IsNetwork net → IsPricedFlow net flow numbers
    → AreNear numbers ((net.nodes - 1) * greatest_cost net) → AreLess numbers lowered → IsPriced net flow lowered
IsPriced-near net flow numbers lowered n s w d = record {
  is_flow = s.is_flow;
  fits = Fits-lowered net (units_of flow) numbers lowered n s.nodes s.fits d;
  nodes = d.length_same ∙ s.nodes;
  zero = omega (arith, ints, d.each 0 (omega (arith, n.some, s.nodes)));
  least = λ v h. let k : v < length numbers = omega (arith, s.nodes) in omega (arith, ints, d.each v k, w.below v k);
  most = λ v h. let k : v < length numbers = omega (arith, s.nodes) in omega (arith, ints, d.each v k, w.above v k);
}

-- one more element
pub old_element : (xs : List ℤ) (x : ℤ) (ys : List ℤ) (v : ℕ) → ys ≡ xs ++ x ∷ [] → v < length xs → number_of ys v ≡ number_of xs v
old_element xs x ys v e l = rw e (grind (arith, common_steps))

pub new_element : (xs : List ℤ) (x : ℤ) (ys : List ℤ) (v : ℕ) → ys ≡ xs ++ x ∷ [] → v ≡ length xs → number_of ys v ≡ x
new_element xs x ys v e l = rw e (grind (arith, common_steps))

pub old_number : (xs : List ℕ) (x : ℕ) (ys : List ℕ) (v : ℕ) → ys ≡ xs ++ x ∷ [] → v < length xs → get_or ys v 0 ≡ get_or xs v 0
old_number xs x ys v e l = rw e (grind (arith, common_steps))

pub new_number : (xs : List ℕ) (x : ℕ) (ys : List ℕ) (v : ℕ) → ys ≡ xs ++ x ∷ [] → v ≡ length xs → get_or ys v 0 ≡ x
new_number xs x ys v e l = rw e (grind (arith, common_steps))
