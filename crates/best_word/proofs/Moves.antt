-- Each step keeps the account.
use Rattle.std.proofs.Common.{◌≡◌, ◌≢◌, ◌⊎◌, ℕ, zero, suc, ◌+◌, ◌<◌, ◌≤◌, min, List, [], ◌∷◌, ◌++◌, set, refl, sym, ap, ◌∙◌, subst, inl, inr, ⊎_elim, arith, le_refl, le_trans, le_of_eq, le_antisymm}
use Rattle.std.proofs.Math.Nat.{min-le_left, min-le_right}
use Rattle.std.specs.Prelude.{slice_index, slice_set}
use mathlib.Core.Option.{some, some-ne-none, some-injective}
use mathlib.Core.Logic.{dite}
use native.Mathlib.Decide.{ℕ_discrete}
use lib.ListN.{get_elem?}
use Rattle.atomic_table.specs.Table.{State, Me, keeps, Allows, Splits, Joins, Final, Seen}
use Rattle.atomic_table.proofs.Lists.{set_else}
use Rattle.std.specs.List.{All, sum_by}
use Rattle.std.proofs.lemmas.List.Sums.{sum_by-cons, sum_by_push}
use Rattle.std.proofs.lemmas.List.Elements.{All-nil, All-cons, All-head, All-tail, All-set, All-push, All-weaker}
use Rattle.best_word.specs.declared.account.Account.{Account}
use Rattle.best_word.specs.WordAccount.{unset, least_put, spent, WordAccount, looked, published, keeping, cut_off, joined}

-- what holds of each seat holds of the one at a place
all_at : (P : Account → Type 0) (seats : List Account) → All P seats → (at : ℕ) (seat : Account) → get_elem? seats at ≡ some seat → P seat
all_at P [] all at seat e = absurd (some-ne-none seat (sym e))
all_at P (x ∷ xs) all zero seat e = subst P (some-injective x seat e) (All-head P x xs all)
all_at P (x ∷ xs) all (suc at) seat e = all_at P xs (All-tail P x xs all) at seat e

all_from : (P : Account → Type 0) (seats : List Account) → ((at : ℕ) (seat : Account) → get_elem? seats at ≡ some seat → P seat) → All P seats
all_from P [] each = All-nil P
all_from P (x ∷ xs) each = All-cons P x xs (each 0 x refl) (all_from P xs (λ at. each (suc at)))

least_below : (seats : List Account) (at : ℕ) (seat : Account) → get_elem? seats at ≡ some seat → least_put seats ≤ seat.put
least_below [] at seat e = absurd (some-ne-none seat (sym e))
least_below (x ∷ xs) zero seat e = subst (λ (y : Account). min x.put (least_put xs) ≤ y.put) (some-injective x seat e) (min-le_left x.put (least_put xs))
least_below (x ∷ xs) (suc at) seat e = le_trans (min-le_right x.put (least_put xs)) (least_below xs at seat e)

least_unset : (seats : List Account) → least_put seats ≤ unset
least_unset [] = le_refl unset
least_unset (x ∷ xs) = le_trans (min-le_right x.put (least_put xs)) (least_unset xs)

-- what is below each is below the least
least_greatest : (n : ℕ) (seats : List Account) → n ≤ unset → All (λ seat. n ≤ seat.put) seats → n ≤ least_put seats
least_greatest n [] top all = top
least_greatest n (x ∷ xs) top all = let p = All-head (λ seat. n ≤ seat.put) x xs all in let q = least_greatest n xs top (All-tail (λ seat. n ≤ seat.put) x xs all) in omega arith

least_lowered : (seats : List Account) (at : ℕ) (v w : Account) (cost : ℕ) → get_elem? seats at ≡ some v → w.put ≡ min v.put cost → least_put (set seats at w) ≡ min (least_put seats) cost
least_lowered [] at v w cost e low = absurd (some-ne-none v (sym e))
least_lowered (x ∷ xs) zero v w cost e low = let s : x.put ≡ v.put = ap (λ (y : Account). y.put) (some-injective x v e) in omega arith
least_lowered (x ∷ xs) (suc at) v w cost e low = let p = least_lowered xs at v w cost e low in omega arith

least_same : (seats : List Account) (at : ℕ) (v w : Account) → get_elem? seats at ≡ some v → w.put ≡ v.put → least_put (set seats at w) ≡ least_put seats
least_same [] at v w e same = absurd (some-ne-none v (sym e))
least_same (x ∷ xs) zero v w e same = let s : x.put ≡ v.put = ap (λ (y : Account). y.put) (some-injective x v e) in ap (λ n. min n (least_put xs)) (same ∙ sym s)
least_same (x ∷ xs) (suc at) v w e same = ap (min x.put) (least_same xs at v w e same)

least_more : (seats : List Account) (w : Account) → w.put ≡ unset → least_put (seats ++ w ∷ []) ≡ least_put seats
least_more [] w is = let top = le_refl unset in omega arith
least_more (x ∷ xs) w is = ap (min x.put) (least_more xs w is)

abbrev parts_of : Account → ℕ
parts_of seat = seat.parts

parts_set : (seats : List Account) (at : ℕ) (v w : Account) → get_elem? seats at ≡ some v → sum_by parts_of (set seats at w) + v.parts ≡ sum_by parts_of seats + w.parts
parts_set [] at v w e = absurd (some-ne-none v (sym e))
parts_set (x ∷ xs) zero v w e =
    let s : x.parts ≡ v.parts = ap parts_of (some-injective x v e) in
    let c = sum_by-cons parts_of x xs in
    let d : sum_by parts_of (set (x ∷ xs) 0 w) ≡ w.parts + sum_by parts_of xs = sum_by-cons parts_of w xs in
    omega arith
parts_set (x ∷ xs) (suc at) v w e =
    let p = parts_set xs at v w e in
    let c = sum_by-cons parts_of x xs in
    let d : sum_by parts_of (set (x ∷ xs) (suc at) w) ≡ x.parts + sum_by parts_of (set xs at w) = sum_by-cons parts_of x (set xs at w) in
    omega arith

-- a seat's parts are among all
parts_below : (seats : List Account) (at : ℕ) (v : Account) → get_elem? seats at ≡ some v → v.parts ≤ sum_by parts_of seats
parts_below [] at v e = absurd (some-ne-none v (sym e))
parts_below (x ∷ xs) zero v e = let s : x.parts ≡ v.parts = ap parts_of (some-injective x v e) in let c = sum_by-cons parts_of x xs in omega arith
parts_below (x ∷ xs) (suc at) v e = let p = parts_below xs at v e in let c = sum_by-cons parts_of x xs in omega arith

-- and those of two seats together
parts_two : (seats : List Account) (at other : ℕ) (v u : Account) → at ≢ other → get_elem? seats at ≡ some v → get_elem? seats other ≡ some u → v.parts + u.parts ≤ sum_by parts_of seats
parts_two [] at other v u apart e f = absurd (some-ne-none v (sym e))
parts_two (x ∷ xs) zero zero v u apart e f = absurd (apart refl)
parts_two (x ∷ xs) zero (suc other) v u apart e f = let s : x.parts ≡ v.parts = ap parts_of (some-injective x v e) in let p = parts_below xs other u f in let c = sum_by-cons parts_of x xs in omega arith
parts_two (x ∷ xs) (suc at) zero v u apart e f = let s : x.parts ≡ u.parts = ap parts_of (some-injective x u f) in let p = parts_below xs at v e in let c = sum_by-cons parts_of x xs in omega arith
parts_two (x ∷ xs) (suc at) (suc other) v u apart e f = let p = parts_two xs at other v u (λ same. apart (ap suc same)) e f in let c = sum_by-cons parts_of x xs in omega arith

set_there : (seats : List Account) (at : ℕ) (v w : Account) → get_elem? seats at ≡ some v → get_elem? (set seats at w) at ≡ some w
set_there [] at v w e = absurd (some-ne-none v (sym e))
set_there (x ∷ xs) zero v w e = refl
set_there (x ∷ xs) (suc at) v w e = set_there xs at v w e

abbrev HasPart : Account → Type 0
HasPart seat = (1 ≤ seat.parts) ⊎ (seat ≡ spent)

-- one seat changes and keeps its parts, and the word becomes n
changed : (parts : ℕ) (words : List ℕ) (seats : List Account) → WordAccount parts words seats → (at : ℕ) (v w : Account) (n : ℕ) (now : List ℕ) → get_elem? seats at ≡ some v → 1 ≤ v.parts → w.parts ≡ v.parts → now ≡ n ∷ []
    → least_put (set seats at w) ≡ n → n ≤ least_put seats → n ≤ w.seen → WordAccount parts now (set seats at w)
changed parts words seats a at v w n now e some_part same word least low seen = let p = parts_set seats at v w e in let q = a.parts_add_up in record {
  word = word ∙ ap (λ (k : ℕ). k ∷ []) (sym least);
  seen = subst (λ (k : ℕ). All (λ u. k ≤ u.seen) (set seats at w)) (sym least) (All-set (λ u. n ≤ u.seen) seats at w seen (All-weaker (λ u. least_put seats ≤ u.seen) (λ u. n ≤ u.seen) (λ u k. le_trans low k) seats a.seen));
  some_part = All-set HasPart seats at w (inl (omega arith)) a.some_part;
  parts_add_up = omega arith;
}

-- the least of all stays where one seat takes in another
least_joined : (seats : List Account) (at other : ℕ) (v u : Account) → ¬ (other ≡ at) → get_elem? seats at ≡ some v → get_elem? seats other ≡ some u → least_put (set (set seats at (joined v u)) other spent) ≡ least_put seats
least_joined seats at other v u apart e f = le_antisymm (least_greatest (least_put now) seats (least_unset now) (all_from (λ x. least_put now ≤ x.put) seats old)) (least_greatest (least_put seats) now (least_unset seats) new)
  where
    now : List Account
    now = set (set seats at (joined v u)) other spent

    mine : least_put now ≤ min v.put u.put
    mine = least_below now at (joined v u) (set_else (set seats at (joined v u)) other at spent (λ same. apart (sym same)) ∙ set_there seats at v (joined v u) e)

    old : (j : ℕ) (x : Account) → get_elem? seats j ≡ some x → least_put now ≤ x.put
    old j x g = dite (ℕ_discrete j at)
        (λ same. let s : v ≡ x = some-injective v x (sym e ∙ (ap (get_elem? seats) (sym same) ∙ g)) in le_trans mine (subst (λ (y : Account). min v.put u.put ≤ y.put) s (min-le_left v.put u.put)))
        (λ not_at. dite (ℕ_discrete j other)
        (λ same. let s : u ≡ x = some-injective u x (sym f ∙ (ap (get_elem? seats) (sym same) ∙ g)) in le_trans mine (subst (λ (y : Account). min v.put u.put ≤ y.put) s (min-le_right v.put u.put)))
        (λ not_other. least_below now j x (set_else (set seats at (joined v u)) other j spent not_other ∙ (set_else seats at j (joined v u) not_at ∙ g))))

    new : All (λ x. least_put seats ≤ x.put) now
    new = let p = least_below seats at v e in let q = least_below seats other u f in
        All-set (λ x. least_put seats ≤ x.put) (set seats at (joined v u)) other spent (least_unset seats) (All-set (λ x. least_put seats ≤ x.put) seats at (joined v u) (omega arith) (all_from (λ x. least_put seats ≤ x.put) seats (least_below seats)))

module _ {S : Type 0} where
  abbrev Law : ℕ → State S Account → Type 0
  Law parts state = WordAccount parts state.words state.views

  pub looks : (parts slots id : ℕ) (me : Me S Account) → 1 ≤ me.0.parts → Allows (Law parts) slots id me 0 (λ n. n) (λ n after. (n ≤ me.0.put) × (n ≤ me.0.seen) × (after ≡ (looked me.0 n, me.1)))
  looks parts slots id me some_part s a _ at _ =
      let n : ℕ = slice_index s.words 0 in
      let is : n ≡ least_put s.views = ap (λ (ws : List ℕ). slice_index ws 0) a.word in
      let put = least_below s.views id me.0 at in
      let seen = all_at (λ u. least_put s.views ≤ u.seen) s.views a.seen id me.0 at in (
        looked me.0 n,
        keeps,
        tt,
        changed parts s.words s.views a id me.0 (looked me.0 n) (least_put s.views) (slice_set s.words 0 n) at some_part refl (ap (λ (ws : List ℕ). slice_set ws 0 (slice_index ws 0)) a.word) (least_same s.views id me.0 (looked me.0 n) at refl)
            (le_refl (least_put s.views)) (omega arith),
        (omega arith, omega arith, refl),
      )

  pub publishes : (parts slots id cost : ℕ) (me : Me S Account) → 1 ≤ me.0.parts → Allows (Law parts) slots id me 0 (λ n. min n cost) (λ n after. (n ≤ me.0.put) × (n ≤ me.0.seen) × (after ≡ (published me.0 cost n, me.1)))
  publishes parts slots id cost me some_part s a _ at _ =
      let n : ℕ = slice_index s.words 0 in
      let w : Account = published me.0 cost n in
      let low : ℕ = min (least_put s.views) cost in
      let is : n ≡ least_put s.views = ap (λ (ws : List ℕ). slice_index ws 0) a.word in
      let put = least_below s.views id me.0 at in
      let seen = all_at (λ u. least_put s.views ≤ u.seen) s.views a.seen id me.0 at in (
        w,
        keeps,
        tt,
        changed parts s.words s.views a id me.0 w low (slice_set s.words 0 (min n cost)) at some_part refl (ap (λ (ws : List ℕ). slice_set ws 0 (min (slice_index ws 0) cost)) a.word) (least_lowered s.views id me.0 w cost at refl)
            (min-le_left (least_put s.views) cost) (omega arith),
        (omega arith, omega arith, refl),
      )

  pub splits : (parts id some : ℕ) (v : Account) → 1 ≤ some → some < v.parts → Splits (Law parts) id v (keeping some v) (cut_off some v)
  splits parts id k v low high s a at =
      let w : Account = keeping k v in
      let new : Account = cut_off k v in
      let same : least_put (set s.views id w ++ new ∷ []) ≡ least_put s.views = least_more (set s.views id w) new refl ∙ least_same s.views id v w at refl in
      let p = parts_set s.views id v w at in
      let q = sum_by_push parts_of (set s.views id w) new in
      let r = a.parts_add_up in
      let seen = all_at (λ u. least_put s.views ≤ u.seen) s.views a.seen id v at in
      record {
        word = a.word ∙ ap (λ (n : ℕ). n ∷ []) (sym same);
        seen = subst (λ (n : ℕ). All (λ u. n ≤ u.seen) (set s.views id w ++ new ∷ [])) (sym same)
            (All-push (λ u. least_put s.views ≤ u.seen) (set s.views id w) new (All-set (λ u. least_put s.views ≤ u.seen) s.views id w seen a.seen) seen);
        some_part = All-push HasPart (set s.views id w) new (All-set HasPart s.views id w (inl (omega arith)) a.some_part) (inl low);
        parts_add_up = omega arith;
      }

  pub joins : (parts id : ℕ) (v : Account) (other : ℕ) (u : Account) → 1 ≤ v.parts → Joins (Law parts) id v other u (joined v u) spent
  joins parts id v other u some_part s a at apart there =
      let w : Account = joined v u in
      let was : get_elem? s.views other ≡ some u = sym (set_else s.views id other w apart) ∙ there in
      let same = least_joined s.views id other v u apart at was in
      let p = parts_set s.views id v w at in
      let q = parts_set (set s.views id w) other u spent there in
      let r = a.parts_add_up in
      let seen = all_at (λ u. least_put s.views ≤ u.seen) s.views a.seen id v at in
      let seen' = all_at (λ x. least_put s.views ≤ x.seen) s.views a.seen other u was in
      record {
        word = a.word ∙ ap (λ (n : ℕ). n ∷ []) (sym same);
        seen = subst (λ (n : ℕ). All (λ x. n ≤ x.seen) (set (set s.views id w) other spent)) (sym same)
            (All-set (λ x. least_put s.views ≤ x.seen) (set s.views id w) other spent (least_unset s.views) (All-set (λ x. least_put s.views ≤ x.seen) s.views id w (omega arith) a.seen));
        some_part = All-set HasPart (set s.views id w) other spent (inr refl) (All-set HasPart s.views id w (inl (omega arith)) a.some_part);
        parts_add_up = omega arith;
      }

  -- the seat that has all parts put the least
  pub closes : (parts id : ℕ) (v : Account) (words : List ℕ) (slots : List S) (best : ℕ) → v.parts ≡ parts → v.put ≤ unset → Final (Seen (Law parts) id v) words slots → get_elem? words 0 ≡ some best → (best ≡ v.put) × (best ≤ v.seen)
  closes parts id v words slots best all top (s, (a, at), same, _, _) there =
      let is : least_put s.views ≡ best = some-injective (least_put s.views) best (ap (λ (ws : List ℕ). get_elem? ws 0) (sym a.word ∙ same) ∙ there) in
      let below = least_below s.views id v at in
      let seen = all_at (λ u. least_put s.views ≤ u.seen) s.views a.seen id v at in
      let above : v.put ≤ least_put s.views = least_greatest v.put s.views top (all_from (λ u. v.put ≤ u.put) s.views (others s a at)) in
      (omega arith, omega arith)
    where
      others : (s : State S Account) → Law parts s → get_elem? s.views id ≡ some v → (j : ℕ) (u : Account) → get_elem? s.views j ≡ some u → v.put ≤ u.put
      others s a at j u e = dite (ℕ_discrete id j)
          (λ same. le_of_eq (ap (λ (y : Account). y.put) (some-injective v u (sym at ∙ (ap (get_elem? s.views) same ∙ e)))))
          (λ apart. let p = parts_two s.views id j v u apart at e in let r = a.parts_add_up in
          ⊎_elim (λ (some_part : 1 ≤ u.parts). absurd (omega arith)) (λ (is : u ≡ spent). subst (λ (y : Account). v.put ≤ y.put) (sym is) top) (all_at HasPart s.views a.some_part j u e))
