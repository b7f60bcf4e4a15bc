-- Each step keeps the account.
use Rattle.std.proofs.Common.{◌≡◌, ◌≢◌, ◌⊎◌, ℕ, ◌+◌, ◌<◌, ◌≤◌, Bool, true, false, true≢false, List, [], ◌∷◌, ◌++◌, length, drop, set, refl, sym, ap, ◌∙◌, subst, inl, inr, ⊎_elim, arith, append_assoc, length-append}
use Rattle.std.specs.List.{sum_by}
use Rattle.std.proofs.lemmas.List.Elements.{All-nil}
use Rattle.std.proofs.lemmas.List.Sums.{sum_by-append, sum_by_push}
use lib.Seq.{drop-append_seam}
use mathlib.Core.Option.{some}
use mathlib.Core.List.{append-nil}
use lib.ListN.{get_elem?}
use Rattle.crossbeam_deque.specs.Tasks.{Pushes, Takes, Finds, Forks, Merges}
use Rattle.crossbeam_deque.proofs.Lists.{at_snoc, at_longer}
use Rattle.steal_pool.specs.declared.account.Account.{Account}
use Rattle.steal_pool.specs.LaneAccount.{fresh, spent, opened, weight_of, LaneAccount, pushed, took, gone, holding, keeping, released, regained, parted}
use Rattle.steal_pool.proofs.Sums.{sum_set, sum_two, sum_alone, weight_one, each_set}
use Rattle.steal_pool.proofs.Kept.{parts_of, IsOwnerOf, IsPassAt, IsPassAccount, not_both, led_set, Kept, kept, told}

pub begins : LaneAccount [] (opened ∷ [])
begins = record {
  owner = opened;
  passes = [];
  all = refl;
  owns = refl;
  each_pass = All-nil IsPassAccount;
  parts_add_up = refl;
  taken = [];
  put = refl;
  as_often = λ h. refl;
}

pub pushes : (at : ℕ) (v : Account) (xs : List ℕ) → v.owns ≡ true → Pushes LaneAccount at v xs (λ w. w ≡ pushed v xs)
pushes at v xs owns items accounts before here =
    let a = kept items accounts before in
    let w : Account = pushed v xs in
    let mine = a.owner at v here owns in
    let parts = sum_set parts_of accounts at v w here in
    let same : sum_by parts_of (set accounts at w) ≡ sum_by parts_of accounts = omega arith in (
      w,
      told (items ++ xs) (set accounts at w) record {
        taken = a.taken;
        led = led_set accounts at v w here refl a.led;
        owner = each_set (IsOwnerOf (a.taken ++ (items ++ xs)) (sum_by parts_of (set accounts at w))) accounts at w (λ _. (mine.0, ap (λ l. l ++ xs) mine.1 ∙ append_assoc a.taken items xs, mine.2 ∙ sym same))
            (λ j u apart e o. absurd (apart ((a.owner j u e o).0 ∙ sym mine.0)));
        pass = each_set IsPassAt accounts at w (λ no. absurd (not_both v.owns owns no)) (λ j u _ e. a.pass j u e);
        as_often = λ h. let p = sum_set (weight_of h) accounts at v w here in let q = a.as_often h in omega arith;
      },
      refl,
    )

-- the account after tickets left the lane at the front, for the owner or a pass
taken_by : (at : ℕ) (v : Account) → (v.owns ≡ false → 1 ≤ v.parts) → (xs items : List ℕ) (accounts : List Account) → Kept (xs ++ items) accounts → get_elem? accounts at ≡ some v → LaneAccount items (set accounts at (took v xs))
taken_by at v some_part xs items accounts a here =
    let w : Account = took v xs in
    let parts = sum_set parts_of accounts at v w here in
    let same : sum_by parts_of accounts ≡ sum_by parts_of (set accounts at w) = omega arith in
    let moved = sym (append_assoc a.taken xs items) in
    told items (set accounts at w) record {
      taken = a.taken ++ xs;
      led = led_set accounts at v w here refl a.led;
      owner = each_set (IsOwnerOf ((a.taken ++ xs) ++ items) (sum_by parts_of (set accounts at w))) accounts at w (λ o. let m = a.owner at v here o in (m.0, m.1 ∙ moved, m.2 ∙ same))
          (λ j u _ e o. let m = a.owner j u e o in (m.0, m.1 ∙ moved, m.2 ∙ same));
      pass = each_set IsPassAt accounts at w (λ no. inl (some_part no)) (λ j u _ e. a.pass j u e);
      as_often = λ h. let p = sum_set (weight_of h) accounts at v w here in let q = a.as_often h in let r = sum_by-append h a.taken xs in let s = sum_by-append h v.got xs in omega arith;
    }

pub takes : (at : ℕ) (v : Account) → (v.owns ≡ false → 1 ≤ v.parts) → Takes LaneAccount at v 1 (λ xs w. w ≡ took v xs)
takes at v some_part xs items accounts _ _ before here = (took v xs, taken_by at v some_part xs items accounts (kept (xs ++ items) accounts before) here, refl)

-- an owner with all parts: the others took nothing that counts
alone : (at : ℕ) (v : Account) → v.owns ≡ true → v.parts ≡ v.whole → (items : List ℕ) (accounts : List Account) (a : Kept items accounts) → get_elem? accounts at ≡ some v → (h : ℕ → ℕ) → sum_by h a.taken ≡ weight_of h v
alone at v owns all items accounts a here h = a.as_often h ∙ sum_alone (weight_of h) accounts at v here none
  where
    mine : (at ≡ 0) × (v.put ≡ a.taken ++ items) × (v.whole ≡ sum_by parts_of accounts)
    mine = a.owner at v here owns

    spent_none : (u : Account) → u ≡ spent → weight_of h u ≡ 0
    spent_none u is = ap (weight_of h) is

    by_role : (j : ℕ) (u : Account) → j ≢ at → get_elem? accounts j ≡ some u → (b : Bool) → u.owns ≡ b → weight_of h u ≡ 0
    by_role j u apart e true o = absurd (apart ((a.owner j u e o).0 ∙ sym mine.0))
    by_role j u apart e false o = let p = sum_two parts_of accounts at j v u (λ same. apart (sym same)) here e in let q = mine.2 in ⊎_elim (λ (x : 1 ≤ u.parts). absurd (omega arith)) (spent_none u) (a.pass j u e o)

    none : (j : ℕ) (u : Account) → j ≢ at → get_elem? accounts j ≡ some u → weight_of h u ≡ 0
    none j u apart e = by_role j u apart e u.owns refl

all_gone : (at : ℕ) (v : Account) → v.owns ≡ true → v.parts ≡ v.whole → (items : List ℕ) (accounts : List Account) (a : Kept items accounts) → get_elem? accounts at ≡ some v → length a.taken ≡ gone v
all_gone at v owns all items accounts a here =
    let p = alone at v owns all items accounts a here (λ (_ : ℕ). 1) in let q = weight_one a.taken in let r = weight_one v.got in let s = weight_one v.held in omega arith

pub drains : (at : ℕ) (v : Account) → v.owns ≡ true → v.parts ≡ v.whole → Takes LaneAccount at v 1 (λ xs w. (w ≡ took v xs) × (drop (gone v) v.put ≡ xs ++ drop (gone v + length xs) v.put))
drains at v owns all xs items accounts _ _ before_it here =
    let a = kept (xs ++ items) accounts before_it in
    let put = (a.owner at v here owns).1 in
    let n : length a.taken ≡ gone v = all_gone at v owns all (xs ++ items) accounts a here in
    let before : drop (gone v) v.put ≡ xs ++ items = subst (λ (k : ℕ). drop k v.put ≡ xs ++ items) n (ap (drop (length a.taken)) put ∙ drop-append_seam a.taken (xs ++ items)) in
    let m : length (a.taken ++ xs) ≡ gone v + length xs = length-append a.taken xs ∙ ap (λ (k : ℕ). k + length xs) n in
    let after : drop (gone v + length xs) v.put ≡ items =
    subst (λ (k : ℕ). drop k v.put ≡ items) m (ap (drop (length (a.taken ++ xs))) (put ∙ sym (append_assoc a.taken xs items)) ∙ drop-append_seam (a.taken ++ xs) items) in
    (took v xs, taken_by at v (λ no. absurd (not_both v.owns owns no)) xs items accounts a here, (refl, before ∙ ap (λ l. xs ++ l) (sym after)))

pub drained : (at : ℕ) (v : Account) → v.owns ≡ true → v.parts ≡ v.whole → Finds LaneAccount at v ((length v.put ≡ gone v) × ((h : ℕ → ℕ) → sum_by h v.put ≡ weight_of h v))
drained at v owns all accounts before here =
    let a = kept [] accounts before in
    let put : v.put ≡ a.taken = (a.owner at v here owns).1 ∙ append-nil a.taken in
    (ap length put ∙ all_gone at v owns all [] accounts a here, λ h. ap (sum_by h) put ∙ alone at v owns all [] accounts a here h)

-- the owner cuts off a pass, which takes over some of what the owner holds
forks : (at : ℕ) (v left right : Account) → v.owns ≡ true → left.owns ≡ true → left.put ≡ v.put → right.owns ≡ false → (1 ≤ right.parts) ⊎ (right ≡ spent) → left.whole + v.parts ≡ v.whole + (left.parts + right.parts)
    → ((h : ℕ → ℕ) → weight_of h left + weight_of h right ≡ weight_of h v) → Forks LaneAccount at v left right
forks at v left right owns left_owns put right_owns part parts weights items accounts before here =
    let a = kept items accounts before in
    let mine = a.owner at v here owns in
    let now : List Account = set accounts at left ++ right ∷ [] in
    let p = sum_set parts_of accounts at v left here in
    let q = sum_by_push parts_of (set accounts at left) right in
    let whole : left.whole ≡ sum_by parts_of now = let m = mine.2 in omega arith in
    let led = led_set accounts at v left here (left_owns ∙ sym owns) a.led in
    told items now record {
      taken = a.taken;
      led = (led.0, at_longer (set accounts at left) (right ∷ []) 0 led.0 led.1, led.2);
      owner = λ j u e. ⊎_elim
          (each_set (IsOwnerOf (a.taken ++ items) (sum_by parts_of now)) accounts at left (λ _. (mine.0, put ∙ mine.1, whole)) (λ i x apart f o. absurd (apart ((a.owner i x f o).0 ∙ sym mine.0))) j u)
          (λ (is : right ≡ u). λ o. absurd (not_both right.owns (ap (λ (x : Account). x.owns) is ∙ o) right_owns))
          (at_snoc (set accounts at left) right u j e);
      pass = λ j u e. ⊎_elim
          (each_set IsPassAt accounts at left (λ no. absurd (not_both left.owns left_owns no)) (λ i x _ f. a.pass i x f) j u)
          (λ (is : right ≡ u). subst (IsPassAt j) is (λ _. part))
          (at_snoc (set accounts at left) right u j e);
      as_often = λ h. let r = sum_set (weight_of h) accounts at v left here in let s = sum_by_push (weight_of h) (set accounts at left) right in let t = weights h in let k = a.as_often h in omega arith;
    }

pub opens : (at parts : ℕ) (v : Account) → v.owns ≡ true → v.parts ≡ 0 → v.whole ≡ 0 → 1 ≤ parts → Forks LaneAccount at v (parted parts v) (fresh parts)
opens at parts v owns none no_whole some_part = forks at v (parted parts v) (fresh parts) owns owns refl refl (inl some_part) (omega arith) (λ h. omega arith)

pub cuts : (at parts : ℕ) (v : Account) → v.owns ≡ true → 1 ≤ parts → parts < v.parts → Forks LaneAccount at v (keeping parts v) (fresh parts)
cuts at parts v owns low high = forks at v (keeping parts v) (fresh parts) owns owns refl refl (inl low) (omega arith) (λ h. omega arith)

pub releases : (at : ℕ) (v : Account) → v.owns ≡ true → 1 ≤ v.parts → Forks LaneAccount at v (released v) (regained v)
releases at v owns low = forks at v (released v) (regained v) owns owns refl refl (inl low) (omega arith) (λ h. omega arith)

pub blanks : (at : ℕ) (v : Account) → v.owns ≡ true → Forks LaneAccount at v v spent
blanks at v owns = forks at v v spent owns owns refl refl (inr refl) (omega arith) (λ h. omega arith)

pub holds : (at : ℕ) (v : Account) (other : ℕ) (u : Account) → v.owns ≡ true → u.owns ≡ false → u.held ≡ [] → Merges LaneAccount at v other u (holding v u) spent
holds at v other u owns pass none items accounts before here apart there =
    let a = kept items accounts before in
    let w : Account = holding v u in
    let mine = a.owner at v here owns in
    let mid : List Account = set accounts at w in
    let now : List Account = set mid other spent in
    let p = sum_set parts_of accounts at v w here in
    let q = sum_set parts_of mid other u spent there in
    let whole : v.whole ≡ sum_by parts_of now = let m = mine.2 in omega arith in
    told items now record {
      taken = a.taken;
      led = led_set mid other u spent there (sym pass) (led_set accounts at v w here refl a.led);
      owner = each_set (IsOwnerOf (a.taken ++ items) (sum_by parts_of now)) mid other spent (λ o. absurd (true≢false (sym o)))
          (λ j x _ e. each_set (IsOwnerOf (a.taken ++ items) (sum_by parts_of now)) accounts at w (λ _. (mine.0, mine.1, whole)) (λ i y other_than f o. absurd (other_than ((a.owner i y f o).0 ∙ sym mine.0))) j x e);
      pass = each_set IsPassAt mid other spent (λ _. inr refl) (λ j x _ e. each_set IsPassAt accounts at w (λ no. absurd (not_both v.owns owns no)) (λ i y _ f. a.pass i y f) j x e);
      as_often = λ h. let r = sum_set (weight_of h) accounts at v w here in let s = sum_set (weight_of h) mid other u spent there in let t = sum_by-append h v.held u.got in let k = a.as_often h in
          let z : sum_by h u.held ≡ 0 = ap (sum_by h) none in omega arith;
    }
