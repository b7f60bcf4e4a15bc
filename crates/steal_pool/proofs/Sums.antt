-- Sums over the accounts of a lane, and what holds of each account.
use Rattle.std.proofs.Common.{◌≡◌, ◌≢◌, ℕ, zero, suc, ◌+◌, ◌≤◌, List, [], ◌∷◌, length, set, refl, sym, ap, subst, ⊎_elim, arith}
use Rattle.std.specs.List.{sum_by}
use Rattle.std.proofs.lemmas.List.Sums.{sum_by-cons}
use mathlib.Core.Option.{some, some-ne-none, some-injective}
use lib.ListN.{get_elem?}
use Rattle.crossbeam_deque.proofs.Lists.{at_set}
use Rattle.steal_pool.specs.declared.account.Account.{Account}

-- the sum after one account has changed
pub sum_set : (f : Account → ℕ) (l : List Account) (at : ℕ) (v w : Account) → get_elem? l at ≡ some v → sum_by f (set l at w) + f v ≡ sum_by f l + f w
sum_set f [] at v w e = absurd (some-ne-none v (sym e))
sum_set f (x ∷ xs) zero v w e = let s : f x ≡ f v = ap f (some-injective x v e) in let c = sum_by-cons f x xs in let d : sum_by f (set (x ∷ xs) 0 w) ≡ f w + sum_by f xs = sum_by-cons f w xs in omega arith
sum_set f (x ∷ xs) (suc at) v w e = let p = sum_set f xs at v w e in let c = sum_by-cons f x xs in let d : sum_by f (set (x ∷ xs) (suc at) w) ≡ f x + sum_by f (set xs at w) = sum_by-cons f x (set xs at w) in omega arith

sum_at : (f : Account → ℕ) (l : List Account) (at : ℕ) (v : Account) → get_elem? l at ≡ some v → f v ≤ sum_by f l
sum_at f [] at v e = absurd (some-ne-none v (sym e))
sum_at f (x ∷ xs) zero v e = let s : f x ≡ f v = ap f (some-injective x v e) in let c = sum_by-cons f x xs in omega arith
sum_at f (x ∷ xs) (suc at) v e = let p = sum_at f xs at v e in let c = sum_by-cons f x xs in omega arith

pub sum_two : (f : Account → ℕ) (l : List Account) (at other : ℕ) (v u : Account) → at ≢ other → get_elem? l at ≡ some v → get_elem? l other ≡ some u → f v + f u ≤ sum_by f l
sum_two f [] at other v u apart e g = absurd (some-ne-none v (sym e))
sum_two f (x ∷ xs) zero zero v u apart e g = absurd (apart refl)
sum_two f (x ∷ xs) zero (suc other) v u apart e g = let s : f x ≡ f v = ap f (some-injective x v e) in let p = sum_at f xs other u g in let c = sum_by-cons f x xs in omega arith
sum_two f (x ∷ xs) (suc at) zero v u apart e g = let s : f x ≡ f u = ap f (some-injective x u g) in let p = sum_at f xs at v e in let c = sum_by-cons f x xs in omega arith
sum_two f (x ∷ xs) (suc at) (suc other) v u apart e g = let p = sum_two f xs at other v u (λ same. apart (ap suc same)) e g in let c = sum_by-cons f x xs in omega arith

sum_none : (f : Account → ℕ) (l : List Account) → ((j : ℕ) (u : Account) → get_elem? l j ≡ some u → f u ≡ 0) → sum_by f l ≡ 0
sum_none f [] none = refl
sum_none f (x ∷ xs) none = let p = none 0 x refl in let q = sum_none f xs (λ j. none (suc j)) in let c = sum_by-cons f x xs in omega arith

-- the sum where all others are none
pub sum_alone : (f : Account → ℕ) (l : List Account) (at : ℕ) (v : Account) → get_elem? l at ≡ some v → ((j : ℕ) (u : Account) → j ≢ at → get_elem? l j ≡ some u → f u ≡ 0) → sum_by f l ≡ f v
sum_alone f [] at v e none = absurd (some-ne-none v (sym e))
sum_alone f (x ∷ xs) zero v e none = let s : f x ≡ f v = ap f (some-injective x v e) in let q = sum_none f xs (λ j u. none (suc j) u (λ same. omega arith)) in let c = sum_by-cons f x xs in omega arith
sum_alone f (x ∷ xs) (suc at) v e none = let p = none 0 x (λ same. omega arith) refl in let q = sum_alone f xs at v e (λ j u apart. none (suc j) u (λ same. apart (omega arith))) in let c = sum_by-cons f x xs in omega arith

pub weight_one : (xs : List ℕ) → sum_by (λ (_ : ℕ). 1) xs ≡ length xs
weight_one [] = refl
weight_one (x ∷ xs) = let p = weight_one xs in let c = sum_by-cons (λ (_ : ℕ). 1) x xs in omega arith

-- a fact of each account, by its place, after one of them has changed
pub each_set : (F : ℕ → Account → Type 0) (l : List Account) (at : ℕ) (w : Account) → F at w → ((j : ℕ) (u : Account) → j ≢ at → get_elem? l j ≡ some u → F j u) → (j : ℕ) (u : Account) → get_elem? (set l at w) j ≡ some u → F j u
each_set F l at w mine others j u e = ⊎_elim (λ (x : (j ≡ at) × (w ≡ u)). subst (λ (y : ℕ × Account). F y.0 y.1) (λ i. (sym x.0 i, x.1 i)) mine)
    (λ (x : (j ≢ at) × (get_elem? l j ≡ some u)). others j u x.0 x.1) (at_set l at j w u e)
