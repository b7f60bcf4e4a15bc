-- One line more in the chains.
use Rattle.std.proofs.Common.{◌≡◌, ℕ, ◌+◌, ◌-◌, ◌<◌, ◌≤◌, ◌≢◌, List, [], ◌∷◌, ◌++◌, length, get_or, set, sym, ap, ◌∙◌, ⊎_elim, arith}
use Rattle.std.proofs.lemmas.Bool.{cases_lt, cases_eq}
use Rattle.std.proofs.lemmas.Grind.{common_steps}
use Rattle.bom_explode.specs.Structure.{Structure}
use Rattle.bom_explode.specs.Chains.{AreChainsTo}

pub set_same : (xs : List ℕ) (i x k : ℕ) → i < length xs → k ≡ i → get_or (set xs i x) k 0 ≡ x
set_same xs i x k l e = grind (arith, common_steps)

pub set_other : (xs : List ℕ) (i x k : ℕ) → k ≢ i → get_or (set xs i x) k 0 ≡ get_or xs k 0
set_other xs i x k ne = grind (arith, common_steps)

pub push_old : (xs : List ℕ) (x k : ℕ) → k < length xs → get_or (xs ++ x ∷ []) k 0 ≡ get_or xs k 0
push_old xs x k l = grind (arith, common_steps)

pub push_new : (xs : List ℕ) (x k : ℕ) → k ≡ length xs → get_or (xs ++ x ∷ []) k 0 ≡ x
push_new xs x k e = grind (arith, common_steps)

AreChainsTo-more : (s : Structure) (l : ℕ) (first next : List ℕ) → AreChainsTo s l first next → s.assembly l < s.names
    → AreChainsTo s (l + 1) (set first (s.assembly l) (l + 1)) (next ++ get_or first (s.assembly l) 0 ∷ [])
AreChainsTo-more s l first next h b =
    let a = s.assembly l in
    let f = get_or first a 0 in
    let same : (n : ℕ) → n ≡ a → get_or (set first a (l + 1)) n 0 ≡ l + 1 = λ n e. set_same first a (l + 1) n (omega (arith, h.firsts)) e in
    let other : (n : ℕ) → n ≢ a → get_or (set first a (l + 1)) n 0 ≡ get_or first n 0 = λ n e. set_other first a (l + 1) n e in
    let old : (k : ℕ) → k < l → get_or (next ++ f ∷ []) k 0 ≡ get_or next k 0 = λ k d. push_old next f k (omega (arith, h.nexts)) in
    let new : (k : ℕ) → k ≡ l → get_or (next ++ f ∷ []) k 0 ≡ f = λ k e. push_new next f k (omega (arith, h.nexts)) in
    record {
      firsts = grind (arith, common_steps, h.firsts);
      nexts = grind (arith, common_steps, h.nexts);
      first_most = λ n d. ⊎_elim
          (λ (e : n ≡ a). omega (arith, same n e))
          (λ (e : n ≢ a). omega (arith, other n e, h.first_most n d))
          (cases_eq n a);
      first_from = λ n d p. ⊎_elim
          (λ (e : n ≡ a). let w : get_or (set first a (l + 1)) n 0 - 1 ≡ l = omega (arith, same n e) in ap s.assembly w ∙ sym e)
          (λ (e : n ≢ a). ap (λ x. s.assembly (x - 1)) (other n e) ∙ h.first_from n d (omega (arith, other n e)))
          (cases_eq n a);
      next_most = λ k d. ⊎_elim
          (λ (e : k < l). omega (arith, old k e, h.next_most k e))
          (λ (e : l ≤ k). omega (arith, new k (omega arith), h.first_most a b))
          (cases_lt k l);
      next_from = λ k d p. ⊎_elim
          (λ (e : k < l). ap (λ x. s.assembly (x - 1)) (old k e) ∙ h.next_from k e (omega (arith, old k e)))
          (λ (e : l ≤ k). let z : k ≡ l = omega arith in
          ap (λ x. s.assembly (x - 1)) (new k z) ∙ h.first_from a b (omega (arith, new k z)) ∙ ap s.assembly (sym z))
          (cases_lt k l);
      first_above = λ k d. ⊎_elim
          (λ (e : s.assembly k ≡ a). omega (arith, same (s.assembly k) e))
          (λ (e : s.assembly k ≢ a). ⊎_elim
          (λ (z : k < l). omega (arith, other (s.assembly k) e, h.first_above k z))
          (λ (z : l ≤ k). let w : k ≡ l = omega arith in absurd (e (ap s.assembly w)))
          (cases_lt k l))
          (cases_eq (s.assembly k) a);
      next_above = λ j k i d e. ⊎_elim
          (λ (z : k < l). omega (arith, old k z, h.next_above j k i z e))
          (λ (z : l ≤ k). let w : k ≡ l = omega arith in
          let v : get_or first (s.assembly j) 0 ≡ f = ap (λ x. get_or first x 0) (e ∙ ap s.assembly w) in
          omega (arith, new k w, h.first_above j (omega arith), v))
          (cases_lt k l);
    }

-- the same, as the code reads and writes
pub AreChainsTo-step : (s : Structure) (l : ℕ) (first next : List ℕ) (a x : ℕ) (longer : List ℕ) → AreChainsTo s l first next
    → a ≡ s.assembly l → a < s.names → x ≡ get_or first a x → longer ≡ next ++ x ∷ []
    → AreChainsTo s (l + 1) (set first a (l + 1)) longer
AreChainsTo-step s l first next a x longer h p b q r =
    let z : x ≡ get_or first a 0 = grind (arith, common_steps, h.firsts) in
    rw (r, z, p) (AreChainsTo-more s l first next h (omega (arith, p)))
