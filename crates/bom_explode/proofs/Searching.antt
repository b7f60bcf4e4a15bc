-- How the steps of a search keep what every search keeps.
use Rattle.std.proofs.Common.{◌≡◌, ℕ, ◌+◌, ◌-◌, ◌<◌, ◌≤◌, ◌≢◌, ◌==◌, if◌then◌else◌, ◌⊎◌, inl, inr, List, [], ◌∷◌, ◌++◌, length, get_or, set, replicate, refl, sym, ap, ◌∙◌, subst, ⊎_elim, arith}
use Rattle.std.proofs.lemmas.Bool.{cases_lt, cases_eq, eq-eqb, ne_eqb}
use Rattle.std.proofs.lemmas.Grind.{common_steps}
use Rattle.std.proofs.lemmas.List.Sums.{sum_by-set}
use Rattle.std.specs.List.{sum}
use Rattle.bom_explode.specs.declared.search.TheConstants.{UNFOUND}
use Rattle.bom_explode.specs.Structure.{Structure, IsStructure}
use Rattle.bom_explode.specs.Below.{Leads, IsBelow, by_line}
use Rattle.bom_explode.specs.Chains.{AreChains}
use Rattle.bom_explode.specs.Search.{IsOn, IsMarked, AreCursors, IsFollowed, ArePlaced, AreOrdered, IsSearch, IsFound, at_root, by_next, IsGrown, IsTop}
use Rattle.bom_explode.proofs.Chainwise.{IsBelow-join}
use Rattle.bom_explode.proofs.Chaining.{set_same, set_other, push_old, push_new}

-- at the start

unmarked_at_first : (n x : ℕ) → x < n → get_or (replicate n UNFOUND) x 0 ≡ UNFOUND
unmarked_at_first n x h = grind (arith, common_steps)

pub IsSearch-start : (s : Structure) (first next mark : List ℕ) → IsStructure s → AreChains s first next → mark ≡ replicate s.names UNFOUND → IsSearch s first mark [] []
IsSearch-start s first next mark ok h e =
    let none : (n : ℕ) → n < s.names → IsMarked mark n → ⊥ = λ n b p. let q = ap (λ xs. get_or xs n 0) e ∙ unmarked_at_first s.names n b in omega arith in
    record {
      cursors = record { names = h.firsts; most = h.first_most; from = h.first_from };
      followed = record {
        names = rw e (grind (arith, common_steps));
        each = λ l b p. absurd (omega (arith, h.first_above l b));
      };
      places = record {
        path_inside = λ k b. let z : k < 0 = b in absurd (omega arith);
        path_marked = λ k b. let z : k < 0 = b in absurd (omega arith);
        left_inside = λ k b. let z : k < 0 = b in absurd (omega arith);
        left_marked = λ k b. let z : k < 0 = b in absurd (omega arith);
        left_done = λ k b. let z : k < 0 = b in absurd (omega arith);
        placed = λ n b p. absurd (none n b p);
      };
      since = λ n. 0;
      ordered = record {
        early = λ n b p. omega arith;
        bound = λ l i b c q. let z : i < 0 = c in absurd (omega arith);
        reach = λ i j b p q. let z : i < 0 = b in absurd (omega arith);
        open_reach = λ k j b p q. let z : k < 0 = b in absurd (omega arith);
        line = λ k m b c. let z : m < 0 = c in absurd (omega arith);
      };
    }

-- a name is found and entered

pub marked-set : (mark : List ℕ) (x m n : ℕ) → x < length mark → m < UNFOUND → IsMarked mark n → IsMarked (set mark x m) n
marked-set mark x m n b l h = ⊎_elim
    (λ (e : n ≡ x). let q = set_same mark x m n b e in omega arith)
    (λ (e : n ≢ x). let q = set_other mark x m n e in omega arith)
    (cases_eq n x)

marked_before : (mark : List ℕ) (x m n : ℕ) → n ≢ x → IsMarked (set mark x m) n → IsMarked mark n
marked_before mark x m n e h = let q = set_other mark x m n e in omega arith

pub IsOn-push : (xs : List ℕ) (x n : ℕ) → IsOn xs n → IsOn (xs ++ x ∷ []) n
IsOn-push xs x n (k, b, e) = (k, grind (arith, common_steps), push_old xs x k b ∙ e)

pub IsOn-pushed : (xs : List ℕ) (x : ℕ) → IsOn (xs ++ x ∷ []) x
IsOn-pushed xs x = (length xs, grind (arith, common_steps), push_new xs x (length xs) refl)

-- what holds at each place of a list, and of one number more
pub each_push : (P : ℕ → Type 0) (xs : List ℕ) (x : ℕ) → ((k : ℕ) → k < length xs → P (get_or xs k 0)) → P x
    → (k : ℕ) → k < length (xs ++ x ∷ []) → P (get_or (xs ++ x ∷ []) k 0)
each_push P xs x h p k b = ⊎_elim
    (λ (z : k < length xs). subst P (sym (push_old xs x k z)) (h k z))
    (λ (z : length xs ≤ k). let w : k ≡ length xs = grind (arith, common_steps) in subst P (sym (push_new xs x k w)) p)
    (cases_lt k (length xs))

ArePlaced-enter : (s : Structure) (cursor mark path left : List ℕ) (x m : ℕ) → length mark ≡ s.names → ArePlaced s cursor mark path left
    → x < s.names → m < UNFOUND → ArePlaced s cursor (set mark x m) (path ++ x ∷ []) left
ArePlaced-enter s cursor mark path left x m names p b l =
    let kept : (n : ℕ) → IsMarked mark n → IsMarked (set mark x m) n = λ n h. marked-set mark x m n (omega arith) l h in
    record {
      path_inside = each_push (λ n. n < s.names) path x p.path_inside b;
      path_marked = each_push (λ n. IsMarked (set mark x m) n) path x (λ k h. kept _ (p.path_marked k h)) (let q = set_same mark x m x (omega arith) refl in omega arith);
      left_inside = p.left_inside;
      left_marked = λ i h. kept _ (p.left_marked i h);
      left_done = p.left_done;
      placed = λ n h k. ⊎_elim
          (λ (e : n ≡ x). inl (subst (IsOn (path ++ x ∷ [])) (sym e) (IsOn-pushed path x)))
          (λ (e : n ≢ x). ⊎_elim (λ (o : IsOn path n). inl (IsOn-push path x n o)) (λ (o : IsOn left n). inr o) (p.placed n h (marked_before mark x m n e k)))
          (cases_eq n x);
    }

-- since when x is found
abbrev since_with : (ℕ → ℕ) → ℕ → ℕ → ℕ → ℕ
since_with since x now n = if n == x then now else since n

since_new : (since : ℕ → ℕ) (x now n : ℕ) → n ≡ x → since_with since x now n ≡ now
since_new since x now n e = rw (eq-eqb n x e) refl

since_old : (since : ℕ → ℕ) (x now n : ℕ) → n ≢ x → since_with since x now n ≡ since n
since_old since x now n e = rw (ne_eqb n x e) refl

AreOrdered-enter : (s : Structure) (cursor mark path left : List ℕ) (since : ℕ → ℕ) (x m : ℕ)
    → IsFollowed s cursor mark → ArePlaced s cursor mark path left → AreOrdered s mark path left since
    → x < s.names → UNFOUND ≤ get_or mark x 0 → ((k : ℕ) → k < length path → IsBelow s x (get_or path k 0))
    → AreOrdered s (set mark x m) (path ++ x ∷ []) left (since_with since x (length left))
AreOrdered-enter s cursor mark path left since x m f p o b u below =
    let apart : (n : ℕ) → IsMarked mark n → since_with since x (length left) n ≡ since n =
    λ n h. since_old since x (length left) n (λ e. let q = ap (λ y. get_or mark y 0) e in absurd (omega arith)) in
    record {
      early = λ n h k. ⊎_elim
          (λ (e : n ≡ x). let q = since_new since x (length left) n e in omega arith)
          (λ (e : n ≢ x). let q = since_old since x (length left) n e in omega (arith, o.early n h (marked_before mark x m n e k)))
          (cases_eq n x);
      bound = λ l i h k e.
          let d : get_or cursor (s.assembly l) 0 ≡ 0 = ap (λ y. get_or cursor y 0) (sym e) ∙ p.left_done i k in
          omega (arith, apart (s.part l) (f.each l h (omega arith)), o.bound l i h k e);
      reach = λ i j h k g. o.reach i j h (omega (arith, apart (get_or left i 0) (p.left_marked i h))) g;
      open_reach = λ k j h g q. ⊎_elim
          (λ (z : k < length path).
          let w = push_old path x k z in
          let v = ap (since_with since x (length left)) w in
          rw w (o.open_reach k j z (omega (arith, apart (get_or path k 0) (p.path_marked k z))) q))
          (λ (z : length path ≤ k).
          let w : k ≡ length path = grind (arith, common_steps) in
          let v = since_new since x (length left) (get_or (path ++ x ∷ []) k 0) (push_new path x k w) in
          absurd (omega arith))
          (cases_lt k (length path));
      line = λ k n h g. ⊎_elim
          (λ (z : n < length path). rw (push_old path x k (omega arith), push_old path x n z) (o.line k n h z))
          (λ (z : length path ≤ n).
          let w : n ≡ length path = grind (arith, common_steps) in
          rw (push_old path x k (omega arith), push_new path x n w) (below k (omega arith)))
          (cases_lt n (length path));
    }

pub IsSearch-enter : (s : Structure) (cursor mark path left : List ℕ) (x m : ℕ) → IsSearch s cursor mark path left
    → x < s.names → UNFOUND ≤ get_or mark x 0 → m < UNFOUND → ((k : ℕ) → k < length path → IsBelow s x (get_or path k 0))
    → IsSearch s cursor (set mark x m) (path ++ x ∷ []) left
IsSearch-enter s cursor mark path left x m h b u l below = record {
  cursors = h.cursors;
  followed = record {
    names = grind (arith, common_steps, h.followed.names);
    each = λ k d e. marked-set mark x m (s.part k) (omega (arith, h.followed.names)) l (h.followed.each k d e);
  };
  places = ArePlaced-enter s cursor mark path left x m h.followed.names h.places b l;
  since = since_with h.since x (length left);
  ordered = AreOrdered-enter s cursor mark path left h.since x m h.followed h.places h.ordered b u below;
}

-- a line is followed

pub IsSearch-follow : (s : Structure) (first next cursor mark path left : List ℕ) (n c d : ℕ) → IsStructure s → AreChains s first next
    → IsSearch s cursor mark path left → n < s.names → c ≡ get_or cursor n 0 → 0 < c → d ≡ get_or next (c - 1) 0 → IsMarked mark (s.part (c - 1))
    → IsSearch s (set cursor n d) mark path left
IsSearch-follow s first next cursor mark path left n c d ok ch h b ce p de m =
    let len : n < length cursor = omega (arith, h.cursors.names) in
    let most : c ≤ s.lines = omega (arith, h.cursors.most n b) in
    let inside : c - 1 < s.lines = omega arith in
    let from : s.assembly (c - 1) ≡ n = rw ce (h.cursors.from n b (omega arith)) in
    let same : (k : ℕ) → k ≡ n → get_or (set cursor n d) k 0 ≡ d = λ k e. set_same cursor n d k len e in
    let other : (k : ℕ) → k ≢ n → get_or (set cursor n d) k 0 ≡ get_or cursor k 0 = λ k e. set_other cursor n d k e in
    record {
      cursors = record {
        names = grind (arith, common_steps, h.cursors.names);
        most = λ k l. ⊎_elim
            (λ (e : k ≡ n). omega (arith, same k e, ch.next_most (c - 1) inside))
            (λ (e : k ≢ n). omega (arith, other k e, h.cursors.most k l))
            (cases_eq k n);
        from = λ k l q. ⊎_elim
            (λ (e : k ≡ n). ap (λ x. s.assembly (x - 1)) (same k e ∙ de) ∙ ch.next_from (c - 1) inside (omega (arith, same k e)) ∙ from ∙ sym e)
            (λ (e : k ≢ n). ap (λ x. s.assembly (x - 1)) (other k e) ∙ h.cursors.from k l (omega (arith, other k e)))
            (cases_eq k n);
      };
      followed = record {
        names = h.followed.names;
        each = λ l k q. ⊎_elim
            (λ (e : s.assembly l ≡ n). ⊎_elim
            (λ (z : l < c - 1). absurd (omega (arith, same (s.assembly l) e, ch.next_above l (c - 1) z inside (e ∙ sym from))))
            (λ (z : c - 1 ≤ l). ⊎_elim
            (λ (y : l ≡ c - 1). rw y m)
            (λ (y : l ≢ c - 1). h.followed.each l k (let w = ap (λ x. get_or cursor x 0) e in omega arith))
            (cases_eq l (c - 1)))
            (cases_lt l (c - 1)))
            (λ (e : s.assembly l ≢ n). h.followed.each l k (omega (arith, other (s.assembly l) e)))
            (cases_eq (s.assembly l) n);
      };
      places = record {
        path_inside = h.places.path_inside;
        path_marked = h.places.path_marked;
        left_inside = h.places.left_inside;
        left_marked = h.places.left_marked;
        left_done = λ i l. ⊎_elim
            (λ (e : get_or left i 0 ≡ n). let w = ap (λ x. get_or cursor x 0) e in absurd (omega (arith, h.places.left_done i l)))
            (λ (e : get_or left i 0 ≢ n). other (get_or left i 0) e ∙ h.places.left_done i l)
            (cases_eq (get_or left i 0) n);
        placed = h.places.placed;
      };
      since = h.since;
      ordered = h.ordered;
    }

-- the cursors come down, so that a search ends
pub sum-follow : (s : Structure) (first next cursor : List ℕ) (n c d : ℕ) → AreChains s first next → AreCursors s cursor
    → n < s.names → c ≡ get_or cursor n 0 → 0 < c → d ≡ get_or next (c - 1) 0 → sum (set cursor n d) < sum cursor
sum-follow s first next cursor n c d ch h b ce p de =
    let e = sum_by-set (λ x. x) cursor n d 0 (omega (arith, h.names)) in
    let q = ch.next_most (c - 1) (omega (arith, h.most n b)) in
    omega arith

-- a name is left

IsOn-front : (xs : List ℕ) (x n : ℕ) → IsOn (xs ++ x ∷ []) n → IsOn xs n ⊎ (n ≡ x)
IsOn-front xs x n (k, b, e) = ⊎_elim
    (λ (z : k < length xs). inl (k, z, sym (push_old xs x k z) ∙ e))
    (λ (z : length xs ≤ k). let w : k ≡ length xs = grind (arith, common_steps) in inr (sym e ∙ push_new xs x k w))
    (cases_lt k (length xs))

longer : (xs : List ℕ) (x k : ℕ) → k < length xs → k < length (xs ++ x ∷ [])
longer xs x k h = grind (arith, common_steps)

-- what holds at each place of a longer list holds at each of its front, and for the last number
each_front : (P : ℕ → Type 0) (xs : List ℕ) (x : ℕ) → ((k : ℕ) → k < length (xs ++ x ∷ []) → P (get_or (xs ++ x ∷ []) k 0))
    → (k : ℕ) → k < length xs → P (get_or xs k 0)
each_front P xs x h k b = subst P (push_old xs x k b) (h k (longer xs x k b))

each_last : (P : ℕ → Type 0) (xs : List ℕ) (x : ℕ) → ((k : ℕ) → k < length (xs ++ x ∷ []) → P (get_or (xs ++ x ∷ []) k 0)) → P x
each_last P xs x h = subst P (push_new xs x (length xs) refl) (h (length xs) (grind (arith, common_steps)))

ArePlaced-leave : (s : Structure) (cursor mark front left : List ℕ) (n : ℕ) → ArePlaced s cursor mark (front ++ n ∷ []) left
    → get_or cursor n 0 ≡ 0 → ArePlaced s cursor mark front (left ++ n ∷ [])
ArePlaced-leave s cursor mark front left n p z = record {
  path_inside = each_front (λ k. k < s.names) front n p.path_inside;
  path_marked = each_front (IsMarked mark) front n p.path_marked;
  left_inside = each_push (λ k. k < s.names) left n p.left_inside (each_last (λ k. k < s.names) front n p.path_inside);
  left_marked = each_push (IsMarked mark) left n p.left_marked (each_last (IsMarked mark) front n p.path_marked);
  left_done = each_push (λ k. get_or cursor k 0 ≡ 0) left n p.left_done z;
  placed = λ k h m. ⊎_elim
      (λ (o : IsOn (front ++ n ∷ []) k). ⊎_elim
      (λ (q : IsOn front k). inl q)
      (λ (q : k ≡ n). inr (subst (IsOn (left ++ n ∷ [])) (sym q) (IsOn-pushed left n)))
      (IsOn-front front n k o))
      (λ (o : IsOn left k). inr (IsOn-push left n k o))
      (p.placed k h m);
}

AreOrdered-leave : (s : Structure) (cursor mark front left : List ℕ) (n : ℕ) (since : ℕ → ℕ) → IsStructure s
    → IsFollowed s cursor mark → ArePlaced s cursor mark (front ++ n ∷ []) left → AreOrdered s mark (front ++ n ∷ []) left since
    → get_or cursor n 0 ≡ 0 → AreOrdered s mark front (left ++ n ∷ []) since
AreOrdered-leave s cursor mark front left n since ok f p o z =
    let last : length front < length (front ++ n ∷ []) = grind (arith, common_steps) in
    let at_last : get_or (front ++ n ∷ []) (length front) 0 ≡ n = push_new front n (length front) refl in
    let open_at : (j : ℕ) → since n ≤ j → j < length left → IsBelow s (get_or left j 0) n =
    λ j b c. rw at_last at (o.open_reach (length front) j last (let v = ap since at_last in omega arith) c) in
    let len : length (left ++ n ∷ []) ≡ length left + 1 = grind (arith, common_steps) in
    record {
      early = λ k h m. omega (arith, o.early k h m);
      bound = λ l i h k e. ⊎_elim
          (λ (q : i < length left). o.bound l i h q (sym (push_old left n i q) ∙ e))
          (λ (q : length left ≤ i).
          let w : i ≡ length left = omega arith in
          let d : s.assembly l ≡ n = sym e ∙ push_new left n i w in
          let v = ap (λ y. get_or cursor y 0) d in
          omega (arith, o.early (s.part l) (ok.parts l h) (f.each l h (omega arith))))
          (cases_lt i (length left));
      reach = λ i j h b c. ⊎_elim
          (λ (q : i < length left). rw (push_old left n i q, push_old left n j (omega arith)) (o.reach i j q (let v = ap since (push_old left n i q) in omega arith) c))
          (λ (q : length left ≤ i).
          let w : i ≡ length left = omega arith in
          rw (push_new left n i w, push_old left n j (omega arith)) (open_at j (let v = ap since (push_new left n i w) in omega arith) (omega arith)))
          (cases_lt i (length left));
      open_reach = λ k j h b c. ⊎_elim
          (λ (q : j < length left).
          let w = push_old front n k h in
          rw (push_old left n j q) (rw w at (o.open_reach k j (longer front n k h) (let v = ap since w in omega arith) q)))
          (λ (q : length left ≤ j).
          let w : j ≡ length left = omega arith in
          rw (push_new left n j w) (rw (push_old front n k h, at_last) at (o.line k (length front) h last)))
          (cases_lt j (length left));
      line = λ k m h b. rw (push_old front n k (omega arith), push_old front n m b) at (o.line k m h (longer front n m b));
    }

pub IsSearch-leave : (s : Structure) (cursor mark front left : List ℕ) (n : ℕ) → IsStructure s → IsSearch s cursor mark (front ++ n ∷ []) left
    → get_or cursor n 0 ≡ 0 → IsSearch s cursor mark front (left ++ n ∷ [])
IsSearch-leave s cursor mark front left n ok h z = record {
  cursors = h.cursors;
  followed = h.followed;
  places = ArePlaced-leave s cursor mark front left n h.places z;
  since = h.since;
  ordered = AreOrdered-leave s cursor mark front left n h.since ok h.followed h.places h.ordered z;
}

-- what is found from one root on

pub IsGrown-enter : (s : Structure) (before : List ℕ) (root m : ℕ) (mark path : List ℕ) (x : ℕ) → length mark ≡ s.names → IsGrown s before root m mark path
    → x < s.names → UNFOUND ≤ get_or mark x 0 → m < UNFOUND → IsFound s before root x → IsGrown s before root m (set mark x m) (path ++ x ∷ [])
IsGrown-enter s before root m mark path x names g b u l f =
    let len : x < length mark = omega arith in
    record {
      kept = λ n h. set_other mark x m n (λ e. let q = ap (λ y. get_or mark y 0) e in absurd (omega (arith, g.kept n h))) ∙ g.kept n h;
      found = λ n h v k. ⊎_elim
          (λ (e : n ≡ x). rw e f)
          (λ (e : n ≢ x). g.found n h v (marked_before mark x m n e k))
          (cases_eq n x);
      bears = λ n h v k. ⊎_elim
          (λ (e : n ≡ x). set_same mark x m n len e)
          (λ (e : n ≢ x). set_other mark x m n e ∙ g.bears n h v (marked_before mark x m n e k))
          (cases_eq n x);
      root_marked = marked-set mark x m root len l g.root_marked;
      on_path = each_push (IsFound s before root) path x g.on_path f;
    }

pub IsGrown-start : (s : Structure) (before : List ℕ) (root m : ℕ) → length before ≡ s.names → root < s.names → UNFOUND ≤ get_or before root 0 → m < UNFOUND
    → IsGrown s before root m (set before root m) (root ∷ [])
IsGrown-start s before root m names b u l =
    let len : root < length before = omega arith in
    record {
      kept = λ n h. set_other before root m n (λ e. let q = ap (λ y. get_or before y 0) e in absurd (omega arith));
      found = λ n h v k. ⊎_elim
          (λ (e : n ≡ root). rw e at_root)
          (λ (e : n ≢ root). let q = marked_before before root m n e k in absurd (omega arith))
          (cases_eq n root);
      bears = λ n h v k. ⊎_elim
          (λ (e : n ≡ root). set_same before root m n len e)
          (λ (e : n ≢ root). let q = marked_before before root m n e k in absurd (omega arith))
          (cases_eq n root);
      root_marked = let q = set_same before root m root len refl in omega arith;
      on_path = each_push (IsFound s before root) [] root (λ k h. let z : k < 0 = h in absurd (omega arith)) at_root;
    }

pub IsGrown-leave : (s : Structure) (before : List ℕ) (root m : ℕ) (mark front : List ℕ) (n : ℕ) → IsGrown s before root m mark (front ++ n ∷ [])
    → IsGrown s before root m mark front
IsGrown-leave s before root m mark front n g = record {
  kept = g.kept;
  found = g.found;
  bears = g.bears;
  root_marked = g.root_marked;
  on_path = each_front (IsFound s before root) front n g.on_path;
}

-- the last name on the path, and a line of it that leads to a name not found before

pub IsTop-inside : (s : Structure) (cursor mark path left : List ℕ) (n : ℕ) → IsSearch s cursor mark path left → IsTop path n → n < s.names
IsTop-inside s cursor mark path left n h (front, e) = each_last (λ k. k < s.names) front n (rw e at h.places.path_inside)

top_reached : (s : Structure) (mark front left : List ℕ) (since : ℕ → ℕ) (n l x : ℕ) → AreOrdered s mark (front ++ n ∷ []) left since → Leads s l n x
    → (k : ℕ) → k < length (front ++ n ∷ []) → IsBelow s x (get_or (front ++ n ∷ []) k 0)
top_reached s mark front left since n l x o d = each_push (λ a. IsBelow s x a) front n
    (λ k h. IsBelow-join (by_line l d) (rw (push_old front n k h, push_new front n (length front) refl) at (o.line k (length front) h (grind (arith, common_steps)))))
    (by_line l d)

module _ (s : Structure) (first next cursor mark path left : List ℕ) (n c d x m : ℕ) (ok : IsStructure s) (ch : AreChains s first next)
    (h : IsSearch s cursor mark path left) (t : IsTop path n) (ce : c ≡ get_or cursor n 0) (ce0 : 0 < c) (de : d ≡ get_or next (c - 1) 0)
    (xe : x ≡ s.part (c - 1)) (u : UNFOUND ≤ get_or mark x 0) (l : m < UNFOUND) where
  line_inside : c - 1 < s.lines
  line_inside = let b = IsTop-inside s cursor mark path left n h t in omega (arith, h.cursors.most n b)

  leads : Leads s (c - 1) n x
  leads = let b = IsTop-inside s cursor mark path left n h t in
      record { inside = line_inside; from = rw ce (h.cursors.from n b (omega arith)); to = sym xe }

  x_inside : x < s.names
  x_inside = rw xe (ok.parts (c - 1) line_inside)

  pub IsSearch-found : IsSearch s (set cursor n d) (set mark x m) (path ++ x ∷ []) left
  IsSearch-found =
      let o = h.ordered in
      let e = IsSearch-enter s cursor mark path left x m h x_inside u l
      (rw (t.1) (top_reached s mark t.0 left h.since n (c - 1) x (rw (t.1) at o) leads)) in
      IsSearch-follow s first next cursor (set mark x m) (path ++ x ∷ []) left n c d ok ch e
      (IsTop-inside s cursor mark path left n h t) ce ce0 de
      (rw (← xe) (let q = set_same mark x m x (let v = x_inside in omega (arith, h.followed.names)) refl in omega arith))

  pub IsGrown-found : (before : List ℕ) (root : ℕ) → IsGrown s before root m mark path → IsGrown s before root m (set mark x m) (path ++ x ∷ [])
  IsGrown-found before root g =
      let unmarked : UNFOUND ≤ get_or before x 0 = ⊎_elim
      (λ (z : get_or before x 0 < UNFOUND). absurd (omega (arith, g.kept x z)))
      (λ (z : UNFOUND ≤ get_or before x 0). z)
      (cases_lt (get_or before x 0) UNFOUND) in
      IsGrown-enter s before root m mark path x h.followed.names g x_inside u l
      (by_next (c - 1) leads unmarked (each_last (IsFound s before root) t.0 n (rw (t.1) at g.on_path)))
