-- Sums of what lines ask of a name, cut off where they pass what can be counted.
use Rattle.std.proofs.Common.{◌≡◌, ℕ, zero, suc, ◌+◌, ◌-◌, ◌*◌, ◌<◌, ◌≤◌, ◌≢◌, min, List, length, get_or, set, refl, sym, ap, ◌∙◌, ⊎_elim, arith}
use Rattle.std.proofs.lemmas.Bool.{cases_lt, cases_eq, eq-eqb, ne_eqb}
use Rattle.std.proofs.lemmas.List.{length-set}
use Rattle.bom_explode.specs.declared.amounts.TheConstants.{TOO_MANY}
use Rattle.bom_explode.specs.declared.structure.Way.TheVariants.{Up}
use Rattle.bom_explode.specs.Structure.{Structure, IsStructure}
use Rattle.bom_explode.specs.Ways.{along}
use Rattle.bom_explode.specs.Below.{HasNoCircle}
use Rattle.bom_explode.specs.Chains.{AreChains}
use Rattle.tqd_base.specs.Sum.{sum_to}
use Rattle.bom_explode.specs.Needs.{share, demand}
use Rattle.bom_explode.specs.Order.{IsOrder}
use Rattle.bom_explode.specs.Solution.{need_of, AreCapped, IsTotal}
use Rattle.bom_explode.proofs.Sums.{sum_to-skip}
use Rattle.bom_explode.proofs.Chaining.{set_same, set_other}
use Rattle.bom_explode.proofs.Climbing.{Solves-need_of}
use Rattle.bom_explode.proofs.Ordering.{order_falls}

-- a cut sum: m is where it is cut
cut_add : (m r q x : ℕ) → 1 ≤ q → min (min r m + q * min x m) m ≡ min (r + q * x) m
cut_add m r q x h = ⊎_elim
    (λ (z : x < m). let e : min x m ≡ x = omega arith in rw e (omega arith))
    (λ (z : m ≤ x). let e : min x m ≡ m = omega arith in
    let a : m ≤ q * m = times_le q m h in let b : x ≤ q * x = times_le q x h in rw e (omega arith))
    (cases_lt x m)
  where
    times_le : (q x : ℕ) → 1 ≤ q → x ≤ q * x
    times_le zero x l = absurd (omega arith)
    times_le (suc q) x l = omega arith

share-at : (s : Structure) (need : ℕ → ℕ) (n l : ℕ) → s.part l ≡ n → share s need n l ≡ s.quantity l * need (s.assembly l)
share-at s need n l e = rw (eq-eqb (s.part l) n e) refl

share-other : (s : Structure) (need : ℕ → ℕ) (n l : ℕ) → s.part l ≢ n → share s need n l ≡ 0
share-other s need n l e = rw (ne_eqb (s.part l) n e) refl

-- before the first line
pub IsTotal-start : (s : Structure) (first next : List ℕ) (n total : ℕ) → IsStructure s → AreChains (along Up s) first next → n < s.names
    → total ≡ s.ordered n → IsTotal s n (get_or first n 0) total
IsTotal-start s first next n total ok ch b e = record {
  rest = s.ordered n;
  whole = ap (λ x. s.ordered n + x) (sym (sum_to-skip s.lines (get_or first n 0) (share s (need_of s) n) (ch.first_most n b)
      (λ k p q. share-other s (need_of s) n k (λ z. let w = ap (λ x. get_or first x 0) z in absurd (omega (arith, ch.first_above k q))))));
  capped = omega (arith, e, ok.orders n b);
}

-- one line more
pub IsTotal-more : (s : Structure) (first next : List ℕ) (n cursor total a q x : ℕ) → IsStructure s → AreChains (along Up s) first next
    → 0 < cursor → cursor ≤ s.lines → s.part (cursor - 1) ≡ n → a ≡ s.assembly (cursor - 1) → q ≡ s.quantity (cursor - 1)
    → x ≡ min (need_of s a) TOO_MANY → IsTotal s n cursor total
    → IsTotal s n (get_or next (cursor - 1) 0) (min (total + q * x) TOO_MANY)
IsTotal-more s first next n cursor total a q x ok ch p b pe ae qe xe t =
    let l = cursor - 1 in
    let f = share s (need_of s) n in
    let inside : l < s.lines = omega arith in
    let low : get_or next l 0 ≤ l = ch.next_most l inside in
    let skip : sum_to l f ≡ sum_to (get_or next l 0) f = sum_to-skip l (get_or next l 0) f low
    (λ k g h. share-other s (need_of s) n k (λ z. absurd (omega (arith, ch.next_above k l h inside (z ∙ sym pe))))) in
    let whole : cursor ≡ suc l = omega arith in
    let split : sum_to cursor f ≡ sum_to l f + f l = ap (λ k. sum_to k f) whole in
    let here : f l ≡ q * need_of s a = rw (ae, qe) (share-at s (need_of s) n l pe) in
    record {
      rest = t.rest + q * need_of s a;
      whole = omega (arith, t.whole);
      capped = rw (xe, t.capped) (cut_add TOO_MANY t.rest q (need_of s a) (rw qe (ok.some l inside)));
    }

-- all lines
pub total-end : (s : Structure) (n cursor total : ℕ) → cursor ≡ 0 → IsTotal s n cursor total → total ≡ min (demand s (need_of s) n) TOO_MANY
total-end s n cursor total e t = let w = ap (λ k. sum_to k (share s (need_of s) n)) e in let h = t.whole in rw (t.capped) (ap (λ x. min x TOO_MANY) (omega arith))

-- the names at place i of the order and after it have their amounts
pub record AreAmountsFrom (s : Structure) (order : List ℕ) (i : ℕ) (amounts : List ℕ) : Type 0 where
  pub names : length amounts ≡ s.names
  pub small : (k : ℕ) → get_or amounts k 0 ≤ TOO_MANY
  pub each : (j : ℕ) → i ≤ j → j < length order → get_or amounts (get_or order j 0) 0 ≡ min (need_of s (get_or order j 0)) TOO_MANY

-- then so have all assemblies of the name before
pub known_amounts : (s : Structure) (order : List ℕ) (i : ℕ) (amounts : List ℕ) → IsStructure s → IsOrder s order → HasNoCircle s → i < length order
    → AreAmountsFrom s order (i + 1) amounts → (l : ℕ) → l < s.lines → s.part l ≡ get_or order i 0
    → get_or amounts (s.assembly l) 0 ≡ min (need_of s (s.assembly l)) TOO_MANY
known_amounts s order i amounts ok ord nc b h l c e =
    let p = ord.covers (s.assembly l) (ok.assemblies l c) in
    let f = order_falls s order l p.0 i ord nc c p.1 b p.2 (sym e) in
    rw (← p.2) (h.each p.0 (omega arith) p.1)

pub AreAmountsFrom-more : (s : Structure) (order : List ℕ) (i n x : ℕ) (amounts : List ℕ) → IsStructure s → HasNoCircle s → n ≡ get_or order i 0 → n < s.names
    → x ≡ min (demand s (need_of s) n) TOO_MANY → AreAmountsFrom s order (i + 1) amounts → AreAmountsFrom s order i (set amounts n x)
AreAmountsFrom-more s order i n x amounts ok nc ne b xe h =
    let solved : x ≡ min (need_of s n) TOO_MANY = rw ((Solves-need_of s ok nc).each n b) xe in
    let len : n < length amounts = omega (arith, h.names) in
    record {
      names = length-set amounts n x ∙ h.names;
      small = λ k. ⊎_elim
          (λ (z : k ≡ n). omega (arith, set_same amounts n x k len z))
          (λ (z : k ≢ n). omega (arith, set_other amounts n x k z, h.small k))
          (cases_eq k n);
      each = λ j p q. ⊎_elim
          (λ (z : get_or order j 0 ≡ n). rw z (set_same amounts n x n len refl ∙ solved))
          (λ (z : get_or order j 0 ≢ n). set_other amounts n x (get_or order j 0) z ∙ h.each j (⊎_elim
          (λ (y : i < j). let w : i + 1 ≤ j = omega arith in w)
          (λ (y : j ≤ i). let w : j ≡ i = omega arith in absurd (z (ap (λ u. get_or order u 0) w ∙ sym ne)))
          (cases_lt i j)) q)
          (cases_eq (get_or order j 0) n);
    }

pub AreCapped-from : (s : Structure) (order amounts : List ℕ) → IsOrder s order → AreAmountsFrom s order 0 amounts → AreCapped s amounts
AreCapped-from s order amounts ord h = record {
  names = h.names;
  each = λ n b. let c = ord.covers n b in rw (← c.2) (h.each c.0 (omega arith) c.1);
}
