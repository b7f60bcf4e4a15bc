-- Units that are shared among the goods up to a level, one good after another.
use Rattle.std.proofs.Common.{ℕ, ◌≡◌, ◌+◌, ◌-◌, ◌*◌, ◌<◌, min, List, length, set, slice_index, ap, sym, ◌∙◌, arith, subst, inl, inr, get_or-set_same, get_or-set_other, ◌≤◌}
use Rattle.std.proofs.lemmas.Bool.{cases_lt, cases_order}
use Rattle.std.proofs.lemmas.Bool.Decides.{nat_tests}
use Rattle.std.proofs.lemmas.Nat.{mul-le}
use Rattle.std.proofs.Math.Nat.{mul-add, mul_comm}
use Rattle.tqd_base.specs.Sum.{sum_to}
use Rattle.tqd_instance.proofs.SumLemmas.{sum_to-zero, sum_to-more, sum_to-same, sum_to-le, sum_to-add, sum_to-mul}
use Rattle.lagrangian.specs.Levels.{under, up_to, loss, goods_under, goods_up_to, goods_losses}
use Rattle.lagrangian.specs.Filling.{tied, goods_tied, IsShare, AreFilled}
use Rattle.lagrangian.proofs.OneLevel.{under-yes, under-no, up_to-yes, up_to-no, loss-is, loss-no}

pub tied-yes : (top level cap : ℕ) → level ≡ top → tied top level cap ≡ cap
unfolding tied
tied-yes top level cap h = grind (arith, nat_tests)

pub tied-no : (top level cap : ℕ) → (level ≡ top → ⊥) → tied top level cap ≡ 0
unfolding tied
tied-no top level cap h = grind (arith, nat_tests)

pub goods_tied-zero : (level cap : ℕ → ℕ) (top : ℕ) → goods_tied 0 level cap top ≡ 0
unfolding goods_tied
goods_tied-zero level cap top = sum_to-zero (λ k. tied top (level k) (cap k))

pub goods_tied-more : (n : ℕ) (level cap : ℕ → ℕ) (top : ℕ) → goods_tied (n + 1) level cap top ≡ goods_tied n level cap top + tied top (level n) (cap n)
unfolding goods_tied
goods_tied-more n level cap top = sum_to-more n (λ k. tied top (level k) (cap k))

pub goods_under-zero : (level cap : ℕ → ℕ) (top : ℕ) → goods_under 0 level cap top ≡ 0
unfolding goods_under
goods_under-zero level cap top = sum_to-zero (λ k. under top (level k) (cap k))

pub goods_under-more : (n : ℕ) (level cap : ℕ → ℕ) (top : ℕ) → goods_under (n + 1) level cap top ≡ goods_under n level cap top + under top (level n) (cap n)
unfolding goods_under
goods_under-more n level cap top = sum_to-more n (λ k. under top (level k) (cap k))

-- the units up to a level are those under it and those at it
parts_one : (top level cap : ℕ) → up_to top level cap ≡ under top level cap + tied top level cap
parts_one top level cap = elim (cases_order level top) [
  | inl at ↦ omega (arith, up_to-yes top level cap (omega arith), under-no top level cap (omega arith), tied-yes top level cap at)
  | inr other ↦ elim other [
    | inl below ↦ omega (arith, up_to-yes top level cap (omega arith), under-yes top level cap below, tied-no top level cap (λ e. omega arith))
    | inr above ↦ omega (arith, up_to-no top level cap above, under-no top level cap (omega arith), tied-no top level cap (λ e. omega arith))
  ]
]

pub parts : (n : ℕ) (level cap : ℕ → ℕ) (top : ℕ) → goods_up_to n level cap top ≡ goods_under n level cap top + goods_tied n level cap top
unfolding goods_up_to goods_under goods_tied
parts n level cap top =
    sum_to-same n (λ k. up_to top (level k) (cap k)) (λ k. under top (level k) (cap k) + tied top (level k) (cap k)) (λ k below. parts_one top (level k) (cap k))
    ∙ sum_to-add n (λ k. under top (level k) (cap k)) (λ k. tied top (level k) (cap k))

-- the first n goods are filled, and so many units are still spare
pub record IsFilledTo (n : ℕ) (level cap : ℕ → ℕ) (top spare rest : ℕ) (units : List ℕ) : Type 0 where
  pub left : rest ≡ spare - goods_tied n level cap top
  pub shares : (k : ℕ) → k < n → IsShare top (level k) (cap k) (slice_index units k)
  pub total : sum_to n (slice_index units) + rest ≡ goods_under n level cap top + spare

pub filled_none : (level cap : ℕ → ℕ) (top spare : ℕ) (units : List ℕ) → IsFilledTo 0 level cap top spare spare units
filled_none level cap top spare units = record {
  left = omega (arith, goods_tied-zero level cap top);
  shares = λ k below. absurd (omega arith);
  total = omega (arith, goods_under-zero level cap top, sum_to-zero (slice_index units));
}

-- the share of one good
share_one : (top level cap rest u : ℕ) → u ≡ under top level cap + min (tied top level cap) rest → IsShare top level cap u
share_one top level cap rest u e = elim (cases_order level top) [
  | inl at ↦
      (let a = under-no top level cap (omega arith) in
      let b = tied-yes top level cap at in
      record { within = omega arith; all_under = λ h. absurd (omega arith); none_above = λ h. absurd (omega arith) })
  | inr other ↦ elim other [
    | inl below ↦
        (let a = under-yes top level cap below in
        let b = tied-no top level cap (λ e. omega arith) in
        record { within = omega arith; all_under = λ h. omega arith; none_above = λ h. absurd (omega arith) })
    | inr above ↦
        (let a = under-no top level cap (omega arith) in
        let b = tied-no top level cap (λ e. omega arith) in
        record { within = omega arith; all_under = λ h. absurd (omega arith); none_above = λ h. omega arith })
  ]
]

-- one good more
pub filled_next : (n : ℕ) (level cap : ℕ → ℕ) (top spare rest next u : ℕ) (old new : List ℕ) → n < length old → new ≡ set old n u
    → u ≡ under top (level n) (cap n) + min (tied top (level n) (cap n)) rest → next ≡ rest - tied top (level n) (cap n)
    → IsFilledTo n level cap top spare rest old → IsFilledTo (n + 1) level cap top spare next new
filled_next n level cap top spare rest next u old new room is share less f =
    let here : slice_index new n ≡ u = ap (λ (l : List ℕ). slice_index l n) is ∙ get_or-set_same old n u 0 room in
    let kept : (k : ℕ) → k < n → slice_index new k ≡ slice_index old k = λ k below.
    ap (λ (l : List ℕ). slice_index l k) is ∙ get_or-set_other old n k u 0 (λ e. omega arith) in
    let before = sum_to-same n (slice_index new) (slice_index old) kept in
    let sum = sum_to-more n (slice_index new) in
    let same = f.total in
    let tie = goods_tied-more n level cap top in
    let low = goods_under-more n level cap top in
    record {
      left = omega (arith, f.left);
      shares = λ k below. elim (cases_lt k n) [
        | inl early ↦ rw (kept k early) (f.shares k early)
        | inr late ↦ (let at : n ≡ k = omega arith in subst (λ m. IsShare top (level m) (cap m) (slice_index new m)) at (rw here (share_one top (level n) (cap n) rest u share)))
      ];
      total = omega arith;
    }

pub filled_all : (m n : ℕ) (level cap : ℕ → ℕ) (top spare rest : ℕ) (units : List ℕ) → m ≡ n → length units ≡ n
    → IsFilledTo m level cap top spare rest units → AreFilled n level cap top spare units
filled_all m n level cap top spare rest units all count filled =
    let f : IsFilledTo n level cap top spare rest units = subst (λ (k : ℕ). IsFilledTo k level cap top spare rest units) all filled in
    let left = f.left in
    let total = f.total in
    record { count = count; shares = f.shares; total = omega arith }

-- what a share costs: its units at the level, less what they are under it
share_cost : (top level cap u : ℕ) → IsShare top level cap u → u * level + loss top level cap ≡ top * u
share_cost top level cap u s = elim (cases_lt level top) [
  | inl below ↦
      (let all = s.all_under below in
      let far : top ≡ level + (top - level) = omega arith in
      let cost = ap (λ n. n * level) all in
      let whole = ap (λ n. n * u) far in
      let most = ap (λ n. (level + (top - level)) * n) all in
      omega (arith, loss-is top level cap, mul_comm cap (level + (top - level)), mul-add cap level (top - level)))
  | inr from ↦ elim (cases_lt top level) [
    | inl above ↦
        (let none = s.none_above above in
        omega (arith, loss-no top level cap (omega arith), ap (λ n. n * level) none, ap (λ n. top * n) none))
    | inr to ↦
        (let at : level ≡ top = omega arith in
        omega (arith, loss-no top level cap (omega arith), ap (λ n. u * n) at, mul_comm u top))
  ]
]

pub shares_cost : (n : ℕ) (level cap : ℕ → ℕ) (top : ℕ) (units : ℕ → ℕ) → ((k : ℕ) → k < n → IsShare top (level k) (cap k) (units k))
    → sum_to n (λ k. units k * level k) + goods_losses n level cap top ≡ top * sum_to n units
unfolding goods_losses
shares_cost n level cap top units shares =
    sym (sum_to-add n (λ k. units k * level k) (λ k. loss top (level k) (cap k)))
    ∙ sum_to-same n (λ k. units k * level k + loss top (level k) (cap k)) (λ k. top * units k) (λ k below. share_cost top (level k) (cap k) (units k) (shares k below))
    ∙ sum_to-mul n top units

-- units within the cap cost no less than what they are at the level, less what all units are under it
within_cost : (top level cap u : ℕ) → u ≤ cap → top * u ≤ u * level + loss top level cap
within_cost top level cap u few = elim (cases_lt level top) [
  | inl below ↦
      (let far : top ≡ level + (top - level) = omega arith in
      let less = mul-le u (top - level) cap (top - level) few (omega arith) in
      omega (arith, ap (λ n. n * u) far, mul_comm u (level + (top - level)), mul-add u level (top - level), loss-is top level cap))
  | inr from ↦ (let less = mul-le u top u level (omega arith) from in omega (arith, mul_comm u top))
]

pub withins_cost : (n : ℕ) (level cap : ℕ → ℕ) (top : ℕ) (units : ℕ → ℕ) → ((k : ℕ) → k < n → units k ≤ cap k)
    → top * sum_to n units ≤ sum_to n (λ k. units k * level k) + goods_losses n level cap top
unfolding goods_losses
withins_cost n level cap top units few =
    let each = sum_to-le n (λ k. top * units k) (λ k. units k * level k + loss top (level k) (cap k)) (λ k below. within_cost top (level k) (cap k) (units k) (few k below)) in
    omega (arith, sum_to-mul n top units, sum_to-add n (λ k. units k * level k) (λ k. loss top (level k) (cap k)))
