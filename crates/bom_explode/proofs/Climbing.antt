-- On a bill without a circle no chain of lines is longer than there are names. So the equation of needs has one solution.
use Rattle.std.proofs.Common.{◌≡◌, ℕ, zero, suc, ◌+◌, ◌*◌, ◌<◌, ◌≤◌, true, false, eqb, List, [], ◌∷◌, length, refl, sym, ap, ◌∙◌, subst, ⊎_elim, arith}
use Rattle.std.specs.List.{IsDistinct, AllByRecursion, list_any}
use Rattle.std.proofs.lemmas.Bool.{cases_eq, false≢true, or_cases, or_parts, eqb-true, eq-eqb, ne_eqb, false_from_ne_true}
use Rattle.std.proofs.lemmas.Map.Keys.{IsDistinct-cons, IsDistinct-from_apart}
use Rattle.std.proofs.lemmas.Map.Steps.{length-le_from_distinct_below}
use Rattle.bom_explode.specs.Structure.{Structure, IsStructure}
use Rattle.bom_explode.specs.Below.{Leads, IsBelow, by_line, by_chain, HasNoCircle}
use Rattle.bom_explode.specs.Needs.{share, demand, Solves}
use Rattle.bom_explode.specs.Solution.{needs_within, need_of}
use Rattle.bom_explode.specs.Laws.{NeedsExist, NeedsAgree}
use Rattle.bom_explode.proofs.Sums.{sum_to-ext}

-- a chain of so many lines leads down to n
pub data Climbs (s : Structure) : ℕ → ℕ → Type 0 where
  here : {n : ℕ} → Climbs s zero n
  up : {k n a : ℕ} (l : ℕ) → Leads s l a n → Climbs s k a → Climbs s (suc k) n

-- names that a chain has passed: all different, and those after the first are below it
pub record ArePassed (s : Structure) (n : ℕ) (others : List ℕ) : Type 0 where
  pub distinct : IsDistinct eqb (n ∷ others)
  pub inside : (q : ℕ) → list_any (eqb q) (n ∷ others) ≡ true → q < s.names
  pub below : (q : ℕ) → list_any (eqb q) others ≡ true → IsBelow s q n

apart : (a : ℕ) (xs : List ℕ) → list_any (eqb a) xs ≡ false → AllByRecursion (λ y. eqb a y ≡ false) xs
apart a [] h = tt
apart a (x ∷ xs) h = let o = or_parts (eqb a x) (list_any (eqb a) xs) h in (o.0, apart a xs o.1)

ArePassed-up : (s : Structure) (n : ℕ) (others : List ℕ) (l a : ℕ) → IsStructure s → HasNoCircle s → ArePassed s n others → Leads s l a n
    → ArePassed s a (n ∷ others)
ArePassed-up s n others l a ok nc p d =
    let below : (q : ℕ) → list_any (eqb q) (n ∷ others) ≡ true → IsBelow s q a = λ q h. ⊎_elim
    (λ (z : eqb q n ≡ true). subst (λ (x : ℕ). IsBelow s x a) (sym (eqb-true q n z)) (by_line l d))
    (λ (z : list_any (eqb q) others ≡ true). by_chain l d (p.below q z))
    (or_cases (eqb q n) (list_any (eqb q) others) h) in
    record {
      distinct = IsDistinct-cons eqb a (n ∷ others) (apart a (n ∷ others) (false_from_ne_true (list_any (eqb a) (n ∷ others)) (λ h. nc a (below a h)))) p.distinct;
      inside = λ q h. ⊎_elim
          (λ (z : eqb q a ≡ true). rw (eqb-true q a z, ← d.from) (ok.assemblies l d.inside))
          (λ (z : list_any (eqb q) (n ∷ others) ≡ true). p.inside q z)
          (or_cases (eqb q a) (list_any (eqb q) (n ∷ others)) h);
      below = below;
    }

climbs_bound : (s : Structure) → IsStructure s → HasNoCircle s → (k n : ℕ) (others : List ℕ) → Climbs s k n → ArePassed s n others
    → k + length (n ∷ others) ≤ s.names
climbs_bound s ok nc zero n others here p = let e = length-le_from_distinct_below (n ∷ others) s.names p.distinct p.inside in omega arith
climbs_bound s ok nc (suc k) n others (up {a = a} l d c) p = let e = climbs_bound s ok nc k a (n ∷ others) c (ArePassed-up s n others l a ok nc p d) in omega arith

-- no chain has as many lines as there are names
pub no_climb : (s : Structure) → IsStructure s → HasNoCircle s → (n : ℕ) → n < s.names → Climbs s s.names n → ⊥
no_climb s ok nc n h c =
    let e = climbs_bound s ok nc s.names n [] c (record {
      distinct = IsDistinct-from_apart eqb (n ∷ []) (λ i j e z y. let w : j < 1 = y in absurd (omega arith));
      inside = λ q z. ⊎_elim
          (λ (y : eqb q n ≡ true). rw (eqb-true q n y) h)
          (λ (y : false ≡ true). absurd (false≢true y))
          (or_cases (eqb q n) false z);
      below = λ q z. absurd (false≢true z);
    }) in
    omega arith

share-same : (s : Structure) (x y : ℕ → ℕ) (n l : ℕ) → (s.part l ≡ n → x (s.assembly l) ≡ y (s.assembly l)) → share s x n l ≡ share s y n l
share-same s x y n l h = ⊎_elim
    (λ (z : s.part l ≡ n). rw (eq-eqb (s.part l) n z) (ap (λ u. s.quantity l * u) (h z)))
    (λ (z : s.part l ≡ n → ⊥). rw (ne_eqb (s.part l) n z) refl)
    (cases_eq (s.part l) n)

pub demand-same : (s : Structure) (x y : ℕ → ℕ) (n : ℕ) → ((l : ℕ) → l < s.lines → s.part l ≡ n → x (s.assembly l) ≡ y (s.assembly l))
    → demand s x n ≡ demand s y n
demand-same s x y n h = ap (λ u. s.ordered n + u) (sum_to-ext s.lines (share s x n) (share s y n) (λ l b. share-same s x y n l (h l b)))

agree_from : (s : Structure) → IsStructure s → (x y : ℕ → ℕ) → Solves s x → Solves s y → (k n : ℕ) → (Climbs s k n → ⊥) → n < s.names → x n ≡ y n
agree_from s ok x y p q zero n h b = absurd (h here)
agree_from s ok x y p q (suc k) n h b = p.each n b
    ∙ demand-same s x y n (λ l d e. agree_from s ok x y p q k (s.assembly l) (λ c. h (up l (record { inside = d; from = refl; to = e }) c)) (ok.assemblies l d))
    ∙ sym (q.each n b)

steady : (s : Structure) → IsStructure s → (k n : ℕ) → (Climbs s k n → ⊥) → needs_within s k n ≡ needs_within s (suc k) n
steady s ok zero n h = absurd (h here)
steady s ok (suc k) n h = demand-same s (needs_within s k) (needs_within s (suc k)) n
    (λ l d e. steady s ok k (s.assembly l) (λ c. h (up l (record { inside = d; from = refl; to = e }) c)))

-- the solution
pub Solves-need_of : (s : Structure) → IsStructure s → HasNoCircle s → Solves s (need_of s)
unfolding need_of
Solves-need_of s ok nc = record { each = λ n h. steady s ok s.names n (no_climb s ok nc n h) }

pub needs_exist : NeedsExist
needs_exist s ok nc = (need_of s, Solves-need_of s ok nc)

pub needs_agree : NeedsAgree
needs_agree s ok nc x y p q n h = agree_from s ok x y p q s.names n (no_climb s ok nc n h) h
