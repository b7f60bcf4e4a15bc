-- What finished searches tell: the order of leaving, and the components.
use Rattle.std.proofs.Common.{◌≡◌, ℕ, ◌+◌, ◌<◌, ◌≤◌, ◌≢◌, ◌⊎◌, inl, inr, List, [], length, get_or, refl, sym, ap, ◌∙◌, subst, ⊎_elim, arith}
use Rattle.std.proofs.lemmas.Bool.{cases_lt, cases_eq}
use Rattle.bom_explode.specs.declared.search.Search.{Search}
use Rattle.bom_explode.specs.declared.search.TheConstants.{UNFOUND}
use Rattle.bom_explode.specs.declared.structure.Way.TheVariants.{Up}
use Rattle.bom_explode.specs.Structure.{Structure, IsStructure}
use Rattle.bom_explode.specs.Ways.{along}
use Rattle.bom_explode.specs.Below.{Leads, IsBelow, by_line, by_chain, HasNoCircle}
use Rattle.bom_explode.specs.Search.{IsOn, IsMarked, IsIdle, IsFound, at_root, by_next, IsGrown, IsVisited}
use Rattle.bom_explode.specs.Order.{IsOrder, IsAtOrBelow, IsMember, AreGathered, AreComponents}
use Rattle.bom_explode.proofs.Chainwise.{IsBelow-join}

-- a search on no path has left each name that it found

no_place : (path : List ℕ) (n : ℕ) → path ≡ [] → IsOn path n → ⊥
no_place path n e (k, b, q) = omega (arith, ap length e)

pub left-idle : (s : Structure) (search : Search) → IsIdle s search → (n : ℕ) → n < s.names → IsMarked search.mark.items n → IsOn search.left.items n
left-idle s search h n b m = ⊎_elim
    (λ (o : IsOn search.path.items n). absurd (no_place search.path.items n h.no_path o))
    (λ (o : IsOn search.left.items n). o)
    (h.searches.places.placed n b m)

-- and followed all lines of each name that it found
pub followed-idle : (s : Structure) (search : Search) → IsStructure s → IsIdle s search → (l : ℕ) → l < s.lines → IsMarked search.mark.items (s.assembly l)
    → IsMarked search.mark.items (s.part l)
followed-idle s search ok h l b m =
    let o = left-idle s search h (s.assembly l) (ok.assemblies l b) m in
    let d : get_or search.cursor.items (s.assembly l) 0 ≡ 0 = ap (λ x. get_or search.cursor.items x 0) (sym o.2) ∙ h.searches.places.left_done o.0 o.1 in
    h.searches.followed.each l b (omega arith)

-- the order of leaving

pub IsOrder-idle : (s : Structure) (search : Search) → IsIdle s search → ((n : ℕ) → n < s.names → IsMarked search.mark.items n) → IsOrder s search.left.items
IsOrder-idle s search h m = record {
  since = h.searches.since;
  inside = h.searches.places.left_inside;
  covers = λ n b. left-idle s search h n b (m n b);
  bound = h.searches.ordered.bound;
  reach = h.searches.ordered.reach;
}

-- a visit marks the root and keeps the marks
pub marked-visited : (s : Structure) (before : List ℕ) (root m : ℕ) (mark : List ℕ) → IsVisited s before root m mark → IsMarked mark root
marked-visited s before root m mark v = ⊎_elim
    (λ (h : IsMarked before root × (mark ≡ before)). rw (h.1) (h.0))
    (λ (h : (UNFOUND ≤ get_or before root 0) × IsGrown s before root m mark []). h.1.root_marked)
    v

pub kept-visited : (s : Structure) (before : List ℕ) (root m : ℕ) (mark : List ℕ) → IsVisited s before root m mark → (n : ℕ) → IsMarked before n → get_or mark n 0 ≡ get_or before n 0
kept-visited s before root m mark v n k = ⊎_elim
    (λ (h : IsMarked before root × (mark ≡ before)). ap (λ xs. get_or xs n 0) h.1)
    (λ (h : (UNFOUND ≤ get_or before root 0) × IsGrown s before root m mark []). h.1.kept n k)
    v

pub marks-visited : (s : Structure) (before : List ℕ) (root m : ℕ) (mark : List ℕ) → IsVisited s before root m mark → (n : ℕ) → IsMarked before n → IsMarked mark n
marks-visited s before root m mark v n k = let e = kept-visited s before root m mark v n k in omega arith

-- the components

join_at_or : {s : Structure} {p m a : ℕ} → IsAtOrBelow s p m → IsAtOrBelow s m a → IsAtOrBelow s p a
join_at_or {s} {p} {m} {a} h k = ⊎_elim
    (λ (e : p ≡ m). subst (λ x. IsAtOrBelow s x a) (sym e) k)
    (λ (b : IsBelow s p m). ⊎_elim
    (λ (e : m ≡ a). inr (subst (λ x. IsBelow s p x) e b))
    (λ (c : IsBelow s m a). inr (IsBelow-join b c))
    k)
    h

module _ (s : Structure) (order before : List ℕ) (i root : ℕ) (ok : IsStructure s) (ord : IsOrder s order) (inside : i < length order)
    (at : get_or order i 0 ≡ root) (high : (j : ℕ) → i + 1 ≤ j → j < length order → IsMarked before (get_or order j 0)) where
  -- one name more, by a line to a name that is a member
  IsMember-more : (l m n : ℕ) → Leads (along Up s) l m n → UNFOUND ≤ get_or before n 0 → IsMember s order m i → IsMember s order n i
  IsMember-more l m n d u h =
      let c = ord.covers n (rw (← d.to) (ok.assemblies l d.inside)) in
      let low : c.0 ≤ i = ⊎_elim
      (λ (z : c.0 < i + 1). omega arith)
      (λ (z : i + 1 ≤ c.0). let q = ap (λ x. get_or before x 0) c.2 in absurd (omega (arith, high c.0 z c.1)))
      (cases_lt c.0 (i + 1)) in
      record {
        place = c.0;
        here = c.2;
        low = low;
        inside = inside;
        up = join_at_or h.up (inr (by_line l (record { inside = d.inside; from = d.to; to = d.from })));
        down = λ j p q. ⊎_elim
            (λ (z : j < h.place).
            let since : ord.since (get_or order h.place 0) ≤ c.0 =
            rw (h.here ∙ sym d.from) (ord.bound l c.0 d.inside c.1 (c.2 ∙ sym d.to)) in
            join_at_or {m = get_or order h.place 0} (inr (ord.reach h.place j (omega (arith, h.low)) (omega arith) z)) (h.down h.place (omega arith) h.low))
            (λ (z : h.place ≤ j). h.down j z q)
            (cases_lt j h.place);
      }

  IsMember-found : (n : ℕ) → IsFound (along Up s) before root n → IsMember s order n i
  IsMember-found n at_root = record { place = i; here = at; low = omega arith; inside = inside; up = inl at; down = λ j p q. inl (let e : j ≡ i = omega arith in ap (λ x. get_or order x 0) e) }
  IsMember-found n (by_next {m = m} l d u f) = IsMember-more l m n d u (IsMember-found m f)

-- before any search
pub AreGathered-none : (s : Structure) (order mark : List ℕ) (i : ℕ) → length order ≤ i → ((n : ℕ) → n < s.names → IsMarked mark n → ⊥) → IsStructure s
    → AreGathered s order i mark
AreGathered-none s order mark i e none ok = record {
  high = λ j p q. absurd (omega arith);
  least = λ n b m. absurd (none n b m);
  marked = λ l b m. absurd (none (s.part l) (ok.parts l b) m);
  level = λ l b m. absurd (none (s.part l) (ok.parts l b) m);
  member = λ n b m. absurd (none n b m);
}

module _ (s : Structure) (order : List ℕ) (i root : ℕ) (before : List ℕ) (search : Search) (ok : IsStructure s) (ord : IsOrder s order)
    (inside : i < length order) (at : get_or order i 0 ≡ root) (h : AreGathered s order (i + 1) before)
    (idle : IsIdle (along Up s) search) (up_ok : IsStructure (along Up s)) where
  -- after a search from a name that was not found before
  AreGathered-grown : IsGrown (along Up s) before root i search.mark.items [] → AreGathered s order i search.mark.items
  AreGathered-grown g =
      let mark = search.mark.items in
      let kept : (n : ℕ) → IsMarked before n → IsMarked mark n = λ n m. let e = g.kept n m in omega arith in
      let old_or_new : (n : ℕ) → n < s.names → IsMarked mark n → (IsMarked before n × (get_or mark n 0 ≡ get_or before n 0)) ⊎ ((get_or mark n 0 ≡ i) × IsFound (along Up s) before root n) =
      λ n b m. ⊎_elim
      (λ (z : get_or before n 0 < UNFOUND). inl (z, g.kept n z))
      (λ (z : UNFOUND ≤ get_or before n 0). inr (g.bears n b z m, g.found n b z m))
      (cases_lt (get_or before n 0) UNFOUND) in
      let least : (n : ℕ) → n < s.names → IsMarked mark n → i ≤ get_or mark n 0 = λ n b m. ⊎_elim
      (λ (z : IsMarked before n × (get_or mark n 0 ≡ get_or before n 0)). omega (arith, z.1, h.least n b z.0))
      (λ (z : (get_or mark n 0 ≡ i) × IsFound (along Up s) before root n). omega (arith, z.0))
      (old_or_new n b m) in
      let marked : (l : ℕ) → l < s.lines → IsMarked mark (s.part l) → IsMarked mark (s.assembly l) = λ l b m. followed-idle (along Up s) search up_ok idle l b m in
      record {
        high = λ j p q. ⊎_elim
            (λ (z : j < i + 1). let e : i ≡ j = omega arith in rw (ap (λ x. get_or order x 0) (sym e) ∙ at) g.root_marked)
            (λ (z : i + 1 ≤ j). kept (get_or order j 0) (h.high j z q))
            (cases_lt j (i + 1));
        least = least;
        marked = marked;
        level = λ l b m. ⊎_elim
            (λ (z : IsMarked before (s.part l) × (get_or mark (s.part l) 0 ≡ get_or before (s.part l) 0)).
            omega (arith, z.1, h.level l b z.0, g.kept (s.assembly l) (h.marked l b z.0)))
            (λ (z : (get_or mark (s.part l) 0 ≡ i) × IsFound (along Up s) before root (s.part l)).
            omega (arith, z.0, least (s.assembly l) (ok.assemblies l b) (marked l b m)))
            (old_or_new (s.part l) (ok.parts l b) m);
        member = λ n b m. ⊎_elim
            (λ (z : IsMarked before n × (get_or mark n 0 ≡ get_or before n 0)). rw (z.1) (h.member n b z.0))
            (λ (z : (get_or mark n 0 ≡ i) × IsFound (along Up s) before root n). rw (z.0) (IsMember-found s order before i root ok ord inside at h.high n z.1))
            (old_or_new n b m);
      }

  -- and where it was found before
  AreGathered-found : IsMarked before root → search.mark.items ≡ before → AreGathered s order i search.mark.items
  AreGathered-found m e = rw e (record {
    high = λ j p q. ⊎_elim
        (λ (z : j < i + 1). let w : i ≡ j = omega arith in rw (ap (λ x. get_or order x 0) (sym w) ∙ at) m)
        (λ (z : i + 1 ≤ j). h.high j z q)
        (cases_lt j (i + 1));
    least = λ n b k. omega (arith, h.least n b k);
    marked = h.marked;
    level = h.level;
    member = h.member;
  })

  pub AreGathered-visited : IsVisited (along Up s) before root i search.mark.items → AreGathered s order i search.mark.items
  AreGathered-visited v = ⊎_elim
      (λ (z : IsMarked before root × (search.mark.items ≡ before)). AreGathered-found z.0 z.1)
      (λ (z : (UNFOUND ≤ get_or before root 0) × IsGrown (along Up s) before root i search.mark.items []). AreGathered-grown z.1)
      v

pub AreComponents-gathered : (s : Structure) (order mark : List ℕ) → IsStructure s → IsOrder s order → length mark ≡ s.names → AreGathered s order 0 mark
    → AreComponents s mark
AreComponents-gathered s order mark ok ord names h =
    let all : (n : ℕ) → n < s.names → IsMarked mark n = λ n b. let c = ord.covers n b in rw (← c.2) (h.high c.0 (omega arith) c.1) in
    record {
      names = names;
      level = λ l b. h.level l b (all (s.part l) (ok.parts l b));
      joined = λ l b e.
          let a = s.assembly l in
          let p = s.part l in
          let x = h.member a (ok.assemblies l b) (all a (ok.assemblies l b)) in
          let y = h.member p (ok.parts l b) (all p (ok.parts l b)) in
          let root = get_or order (get_or mark p 0) 0 in
          let line : IsBelow s p a = by_line l (record { inside = b; from = refl; to = refl }) in
          let down : IsBelow s root a = ⊎_elim
          (λ (z : root ≡ p). rw z line)
          (λ (z : IsBelow s root p). IsBelow-join z line)
          y.up in
          ⊎_elim
          (λ (z : a ≡ root). subst (λ u. IsBelow s u a) (sym z) down)
          (λ (z : IsBelow s a root). IsBelow-join z down)
          (rw (x.here, e) at (x.down x.place (omega arith) x.low));
    }

-- circles by components

level-below : (s : Structure) (component : List ℕ) (p a : ℕ) → AreComponents s component → IsBelow s p a → get_or component p 0 ≤ get_or component a 0
level-below s component p a h (by_line l d) = rw (← d.from, ← d.to) (h.level l d.inside)
level-below s component p a h (by_chain {m = m} l d r) =
    let e = level-below s component p m h r in
    let f : get_or component m 0 ≤ get_or component a 0 = rw (← d.from, ← d.to) (h.level l d.inside) in
    omega arith

-- a line from n whose ends are in one component
pub record IsJoined (s : Structure) (component : List ℕ) (n l : ℕ) : Type 0 where
  pub inside : l < s.lines
  pub from : s.assembly l ≡ n
  pub same : get_or component (s.assembly l) 0 ≡ get_or component (s.part l) 0

pub joined_on_circle : (s : Structure) (component : List ℕ) (n : ℕ) → AreComponents s component → IsBelow s n n → (l : ℕ) × IsJoined s component n l
joined_on_circle s component n h b = go n refl b
  where
    go : (a : ℕ) → a ≡ n → IsBelow s n a → (l : ℕ) × IsJoined s component n l
    go a e (by_line l d) = (l, record { inside = d.inside; from = d.from ∙ e; same = rw (d.from, d.to, e) refl })
    go a e (by_chain {m = m} l d r) =
        let x = level-below s component n m h r in
        let y : get_or component m 0 ≤ get_or component a 0 = rw (← d.from, ← d.to) (h.level l d.inside) in
        let z = ap (λ u. get_or component u 0) e in
        (l, record { inside = d.inside; from = d.from ∙ e; same = rw (d.from, d.to) (omega arith) })

-- on a bill without a circle parts are left before their assemblies
pub order_falls : (s : Structure) (order : List ℕ) (l i j : ℕ) → IsOrder s order → HasNoCircle s → l < s.lines → i < length order → j < length order
    → get_or order i 0 ≡ s.assembly l → get_or order j 0 ≡ s.part l → j < i
order_falls s order l i j ord nc b c d e f = ⊎_elim
    (λ (z : j < i). z)
    (λ (z : i ≤ j). absurd (⊎_elim
    (λ (w : i ≡ j). nc (s.part l) (by_line l (record { inside = b; from = sym e ∙ ap (λ x. get_or order x 0) w ∙ f; to = refl })))
    (λ (w : i ≢ j).
    let since : ord.since (get_or order j 0) ≤ i = rw f (ord.bound l i b c e) in
    let r : IsBelow s (s.assembly l) (s.part l) = rw (e, f) at (ord.reach j i d since (omega arith)) in
    nc (s.part l) (IsBelow-join (by_line l (record { inside = b; from = refl; to = refl })) r))
    (cases_eq i j)))
    (cases_lt j i)
