-- The account of a lane in the form in which steps are checked: each account is spoken of by its place, and all alike.
use Rattle.std.proofs.Common.{◌≡◌, ◌⊎◌, ℕ, zero, suc, ◌≤◌, Bool, true, false, true≢false, List, [], ◌∷◌, ◌++◌, set, refl, sym, ap, ◌∙◌, subst, inl, inr, ⊎_elim, arith}
use Rattle.std.specs.List.{All, sum_by}
use Rattle.std.proofs.lemmas.List.Elements.{All-nil, All-cons, All-head, All-tail}
use Rattle.std.proofs.lemmas.List.Sums.{sum_by-cons}
use mathlib.Core.Option.{some, some-ne-none, some-injective}
use lib.ListN.{get_elem?}
use Rattle.steal_pool.specs.declared.account.Account.{Account}
use Rattle.steal_pool.specs.LaneAccount.{spent, weight_of, LaneAccount}

abbrev pub parts_of : Account → ℕ
parts_of account = account.parts

abbrev pub IsOwnerOf : List ℕ → ℕ → ℕ → Account → Type 0
IsOwnerOf all parts at account = account.owns ≡ true → (at ≡ 0) × (account.put ≡ all) × (account.whole ≡ parts)

abbrev pub IsPassAt : ℕ → Account → Type 0
IsPassAt at account = account.owns ≡ false → (1 ≤ account.parts) ⊎ (account ≡ spent)

abbrev pub IsPassAccount : Account → Type 0
IsPassAccount account = ((account.owns ≡ false) × (1 ≤ account.parts)) ⊎ (account ≡ spent)

abbrev pub Led : List Account → Type 0
Led l = (owner : Account) × (get_elem? l 0 ≡ some owner) × (owner.owns ≡ true)

pub led_set : (l : List Account) (at : ℕ) (v w : Account) → get_elem? l at ≡ some v → w.owns ≡ v.owns → Led l → Led (set l at w)
led_set [] at v w e same led = absurd (some-ne-none v (sym e))
led_set (x ∷ xs) zero v w e same led = (w, refl, same ∙ (ap (λ (y : Account). y.owns) (some-injective v led.0 (sym e ∙ led.1)) ∙ led.2))
led_set (x ∷ xs) (suc at) v w e same led = led

suc_none : (n : ℕ) → suc n ≡ 0 → ⊥
suc_none n e = omega arith

pub not_both : (b : Bool) → b ≡ true → b ≡ false → ⊥
not_both b is not = true≢false (sym is ∙ not)

pub record Kept (tickets : List ℕ) (accounts : List Account) : Type 0 where
  pub taken : List ℕ
  pub led : Led accounts
  pub owner : (at : ℕ) (account : Account) → get_elem? accounts at ≡ some account → IsOwnerOf (taken ++ tickets) (sum_by parts_of accounts) at account
  pub pass : (at : ℕ) (account : Account) → get_elem? accounts at ≡ some account → IsPassAt at account
  pub as_often : (h : ℕ → ℕ) → sum_by h taken ≡ sum_by (weight_of h) accounts

all_at : (l : List Account) → All IsPassAccount l → (at : ℕ) (account : Account) → get_elem? l at ≡ some account → IsPassAccount account
all_at [] all at account e = absurd (some-ne-none account (sym e))
all_at (x ∷ xs) all zero account e = subst IsPassAccount (some-injective x account e) (All-head IsPassAccount x xs all)
all_at (x ∷ xs) all (suc at) account e = all_at xs (All-tail IsPassAccount x xs all) at account e

all_from : (l : List Account) → ((at : ℕ) (account : Account) → get_elem? l at ≡ some account → IsPassAccount account) → All IsPassAccount l
all_from [] each = All-nil IsPassAccount
all_from (x ∷ xs) each = All-cons IsPassAccount x xs (each 0 x refl) (all_from xs (λ at. each (suc at)))

no_owner : (account : Account) → IsPassAccount account → account.owns ≡ false
no_owner account is = ⊎_elim (λ (p : (account.owns ≡ false) × (1 ≤ account.parts)). p.0) (λ (p : account ≡ spent). ap (λ (x : Account). x.owns) p) is

pub kept : (tickets : List ℕ) (accounts : List Account) → LaneAccount tickets accounts → Kept tickets accounts
kept tickets accounts a = subst (Kept tickets) (sym a.all) record {
  taken = a.taken;
  led = (a.owner, refl, a.owns);
  owner = owner;
  pass = pass;
  as_often = λ h. a.as_often h ∙ sym (sum_by-cons (weight_of h) a.owner a.passes);
}
  where
    whole : List Account
    whole = a.owner ∷ a.passes

    first : IsOwnerOf (a.taken ++ tickets) (sum_by parts_of whole) 0 a.owner
    first o = (refl, a.put, a.parts_add_up ∙ sym (sum_by-cons parts_of a.owner a.passes))

    owner : (at : ℕ) (account : Account) → get_elem? whole at ≡ some account → IsOwnerOf (a.taken ++ tickets) (sum_by parts_of whole) at account
    owner zero account e = subst (IsOwnerOf (a.taken ++ tickets) (sum_by parts_of whole) 0) (some-injective a.owner account e) first
    owner (suc at) account e = λ o. absurd (not_both account.owns o (no_owner account (all_at a.passes a.each_pass at account e)))

    pass : (at : ℕ) (account : Account) → get_elem? whole at ≡ some account → IsPassAt at account
    pass zero account e = subst (IsPassAt 0) (some-injective a.owner account e) (λ not. absurd (not_both a.owner.owns a.owns not))
    pass (suc at) account e = λ _. ⊎_elim (λ (p : (account.owns ≡ false) × (1 ≤ account.parts)). inl p.1) (λ (p : account ≡ spent). inr p) (all_at a.passes a.each_pass at account e)

pub told : (tickets : List ℕ) (accounts : List Account) → Kept tickets accounts → LaneAccount tickets accounts
told tickets [] k = absurd (some-ne-none k.led.0 (sym k.led.1))
told tickets (x ∷ xs) k = record {
  owner = x;
  passes = xs;
  all = refl;
  owns = owns;
  each_pass = all_from xs (λ at u e. by_role at u e u.owns refl);
  parts_add_up = (k.owner 0 x refl owns).2 ∙ sum_by-cons parts_of x xs;
  taken = k.taken;
  put = (k.owner 0 x refl owns).1;
  as_often = λ h. k.as_often h ∙ sum_by-cons (weight_of h) x xs;
}
  where
    owns : x.owns ≡ true
    owns = ap (λ (y : Account). y.owns) (some-injective x k.led.0 k.led.1) ∙ k.led.2

    by_role : (at : ℕ) (u : Account) → get_elem? xs at ≡ some u → (b : Bool) → u.owns ≡ b → IsPassAccount u
    by_role at u e true o = absurd (suc_none at (k.owner (suc at) u e o).0)
    by_role at u e false o = ⊎_elim (λ (p : 1 ≤ u.parts). inl (o, p)) (λ (p : u ≡ spent). inr p) (k.pass (suc at) u e o)
