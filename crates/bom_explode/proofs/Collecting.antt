-- The goods, collected in the order of the names.
use Rattle.std.proofs.Common.{◌≡◌, ℕ, ◌+◌, ◌-◌, ◌<◌, ◌≤◌, ◌≢◌, List, [], ◌∷◌, ◌++◌, length, get_or, sym, ap, ◌∙◌, subst, ⊎_elim, arith}
use Rattle.std.proofs.lemmas.Bool.{cases_lt}
use Rattle.std.proofs.lemmas.List.{length_push}
use Rattle.std.proofs.lemmas.Map.Keys.{sorted_from_strictly_increasing, below_from_sorted}
use Rattle.std.specs.List.Sorted.{IsStrictlyIncreasing}
use Rattle.tqd_base.specs.declared.limits.TheConstants.{QTY_MAX}
use Rattle.bom_explode.specs.declared.structure.Way.TheVariants.{Down}
use Rattle.bom_explode.specs.Structure.{Structure, IsStructure}
use Rattle.bom_explode.specs.Ways.{along}
use Rattle.bom_explode.specs.Chains.{AreChains}
use Rattle.bom_explode.specs.Needs.{IsGood, AreGoods, IsNeeded}
use Rattle.bom_explode.specs.Search.{IsOn}
use Rattle.bom_explode.specs.Solution.{need_of, AreCapped}
use Rattle.bom_explode.proofs.Chaining.{push_old, push_new}
use Rattle.bom_explode.proofs.Searching.{IsOn-push, IsOn-pushed, each_push}

-- the goods among the names below count
pub record AreGoodsBelow (s : Structure) (need : ℕ → ℕ) (count : ℕ) (goods units : List ℕ) : Type 0 where
  pub rising : IsStrictlyIncreasing goods
  pub few : length goods ≤ count
  pub low : (k : ℕ) → k < length goods → get_or goods k 0 < count
  pub each : (k : ℕ) → k < length goods → IsGood s need (get_or goods k 0)
  pub all : (n : ℕ) → n < count → IsGood s need n → IsOn goods n
  pub as_many : length units ≡ length goods
  pub needs : (k : ℕ) → k < length goods → get_or units k 0 ≡ need (get_or goods k 0)

pub AreGoodsBelow-good : (s : Structure) (need : ℕ → ℕ) (n x : ℕ) (goods units : List ℕ) → AreGoodsBelow s need n goods units → IsGood s need n → x ≡ need n
    → AreGoodsBelow s need (n + 1) (goods ++ n ∷ []) (units ++ x ∷ [])
AreGoodsBelow-good s need n x goods units h g e =
    let longer = length_push goods n in
    let longer_units = length_push units x in
    record {
      rising = λ k b. ⊎_elim
          (λ (z : k + 1 < length goods). let p = push_old goods n k (omega arith) in let q = push_old goods n (k + 1) z in omega (arith, h.rising k z))
          (λ (z : length goods ≤ k + 1).
          let p = push_old goods n k (omega arith) in let q = push_new goods n (k + 1) (omega arith) in omega (arith, h.low k (omega arith)))
          (cases_lt (k + 1) (length goods));
      few = omega (arith, h.few);
      low = each_push (λ m. m < n + 1) goods n (λ k b. omega (arith, h.low k b)) (omega arith);
      each = each_push (IsGood s need) goods n h.each g;
      all = λ m b i. ⊎_elim
          (λ (z : m < n). IsOn-push goods n m (h.all m z i))
          (λ (z : n ≤ m). let w : m ≡ n = omega arith in subst (IsOn (goods ++ n ∷ [])) (sym w) (IsOn-pushed goods n))
          (cases_lt m n);
      as_many = omega (arith, h.as_many);
      needs = λ k b. ⊎_elim
          (λ (z : k < length goods). push_old units x k (omega (arith, h.as_many)) ∙ h.needs k z ∙ ap need (sym (push_old goods n k z)))
          (λ (z : length goods ≤ k). let w : k ≡ length goods = omega arith in
          push_new units x k (omega (arith, h.as_many)) ∙ e ∙ ap need (sym (push_new goods n k w)))
          (cases_lt k (length goods));
    }

pub AreGoodsBelow-other : (s : Structure) (need : ℕ → ℕ) (n : ℕ) (goods units : List ℕ) → AreGoodsBelow s need n goods units → (IsGood s need n → ⊥)
    → AreGoodsBelow s need (n + 1) goods units
AreGoodsBelow-other s need n goods units h not = record {
  rising = h.rising;
  few = omega (arith, h.few);
  low = λ k b. omega (arith, h.low k b);
  each = h.each;
  all = λ m b i. ⊎_elim
      (λ (z : m < n). h.all m z i)
      (λ (z : n ≤ m). let w : m ≡ n = omega arith in absurd (not (rw w at i)))
      (cases_lt m n);
  as_many = h.as_many;
  needs = h.needs;
}

pub AreGoods-all : (s : Structure) (need : ℕ → ℕ) (count : ℕ) (goods units : List ℕ) → s.names ≤ count → AreGoodsBelow s need count goods units → AreGoods s need goods units
AreGoods-all s need count goods units e h = record {
  rising = h.rising;
  each = h.each;
  all = λ n i. h.all n (omega (arith, i.inside)) i;
  as_many = h.as_many;
  needs = h.needs;
}

pub IsNeeded-counted : (s : Structure) (count : ℕ) (goods units : List ℕ) → IsStructure s → count ≤ s.names → ((n : ℕ) → n < s.names → need_of s n ≤ QTY_MAX)
    → AreGoodsBelow s (need_of s) count goods units → IsNeeded (record { goods = goods; units = units })
IsNeeded-counted s count goods units ok e counted h = record {
  few = omega (arith, h.few, ok.few_names);
  rising = h.rising;
  as_many = h.as_many;
  some = λ k b. omega (arith, h.needs k (omega (arith, h.as_many)), (h.each k (omega (arith, h.as_many))).needed);
  most = λ k b. omega (arith, h.needs k (omega (arith, h.as_many)), counted (get_or goods k 0) (h.each k (omega (arith, h.as_many))).inside);
}

-- whether a name is a good, by its chain of lines and its amount

module _ (s : Structure) (first next amounts : List ℕ) (n : ℕ) (ch : AreChains (along Down s) first next) (cap : AreCapped s amounts) (inside : n < s.names)
    (counted : need_of s n ≤ QTY_MAX) where
  pub amount_is : get_or amounts n 0 ≡ need_of s n
  amount_is = omega (arith, cap.each n inside)

  pub IsGood-tested : get_or first n 0 ≡ 0 → 0 < get_or amounts n 0 → IsGood s (need_of s) n
  IsGood-tested f a = record {
    inside = inside;
    bought = λ l b e. let w = ap (λ x. get_or first x 0) e in omega (arith, ch.first_above l b);
    needed = let q = amount_is in omega arith;
  }

  pub has_lines : get_or first n 0 ≢ 0 → IsGood s (need_of s) n → ⊥
  has_lines f g = g.bought (get_or first n 0 - 1) (omega (arith, ch.first_most n inside, not_zero (get_or first n 0) f)) (ch.first_from n inside (not_zero (get_or first n 0) f))
    where
      not_zero : (x : ℕ) → x ≢ 0 → 0 < x
      not_zero x e = omega arith

  pub has_no_need : get_or amounts n 0 ≡ 0 → IsGood s (need_of s) n → ⊥
  has_no_need a g = let q = amount_is in omega (arith, g.needed)

-- rising numbers, as a binary search asks for them
pub rising_pairs : (xs : List ℕ) → IsStrictlyIncreasing xs → (i j : ℕ) → i ≤ j → j < length xs → get_or xs i 0 ≤ get_or xs j 0
rising_pairs xs h i j l b = ⊎_elim
    (λ (z : i < j). omega (arith, below_from_sorted xs i j 0 (sorted_from_strictly_increasing xs h) z b))
    (λ (z : j ≤ i). let e : i ≡ j = omega arith in let w = ap (λ x. get_or xs x 0) e in omega arith)
    (cases_lt i j)
