-- The opening state is covered, and an event that applies to a covered state leads to a covered one.
use Rattle.std.proofs.Common.{ℕ, suc, ◌≡◌, ◌+◌, ◌-◌, ◌<◌, ◌≤◌, ◌≢◌, Bool, true, false, not, List, [], ◌∷◌, map, length, get_or, sum_by, Option, Some, None, sym, ap, refl, subst, ◌∙◌, inl, inr, arith}
use Rattle.std.specs.Prelude.{IfSome}
use Rattle.std.proofs.lemmas.Bool.{cases_eq, cases_lt, ne_eqb, eq-eqb}
use Rattle.std.proofs.lemmas.List.Sums.{sum_by-cons}
use Rattle.std.proofs.lemmas.Int.{ints}
use Rattle.tqd_instance.specs.declared.job.Job.{Job}
use Rattle.tqd_instance.specs.declared.plan.Plan.{Plan}
use Rattle.interval_box.specs.declared.boxes.IntervalBox.{IntervalBox}
use Rattle.interval_box.specs.Ranges.{IsBoxOf, IsRoot}
use Rattle.interval_box.specs.Halves.{IsProper, low_half, high_half}
use Rattle.interval_box.specs.Size.{size}
use Rattle.interval_box.proofs.Split.{low_is_box, high_is_box, sizes_add, size_some}
use Rattle.bound_tree.specs.declared.leaf.Leaf.{Leaf}
use Rattle.bound_tree.specs.declared.leaf.Leaf.TheVariants.{Bound, Empty, Winners}
use Rattle.bound_tree.specs.Kills.{Kills}
use Rattle.search_book.specs.declared.node.Node.{Node}
use Rattle.search_book.specs.declared.node.Phase.{Phase}
use Rattle.search_book.specs.declared.node.Phase.TheVariants.{Open, Taken, Split, Closed}
use Rattle.search_book.specs.Nodes.{node_at, area_of, phase_of, HasPhase, with_phase}
use Rattle.search_book.specs.BookState.{BookState, best_cost, IsOpening}
use Rattle.search_book.specs.Events.{Event, take_node, improve, close_node, split_node, give_back, release, IsPlanAt, IsBelowBest, marked, divided, half_node, released, freed, freed_phase, Happens}
use Rattle.search_book.specs.Counts.{names, naming_count, if_waiting, room}
use Rattle.search_book.specs.Covered.{IsSplitInto, PhaseHolds, IsCovered}
use Rattle.search_book.proofs.Marks.{marked_length, marked_area, marked_phase, marked_other, marked_sum, added_sum, added_length, added_before, added_first, added_second, freed_length, freed_at, freed_sum}

-- what holds of a node still holds where the boxes stay
pub still : (s : BookState) (ns : List Node) → length s.nodes ≤ length ns → ((n : ℕ) → n < length s.nodes → area_of ns n ≡ area_of s.nodes n)
    → (k : ℕ) (p : Phase) → k < length s.nodes → PhaseHolds s k p → PhaseHolds (record s { nodes = ns }) k p
still s ns more areas k Open below h = tt
still s ns more areas k Taken below h = tt
still s ns more areas k (Split low high i at) below h = record {
  low_later = h.low_later;
  high_later = h.high_later;
  low_known = omega (arith, h.low_known);
  high_known = omega (arith, h.high_known);
  proper = subst (λ (a : IntervalBox). IsProper a i at) (sym (areas k below)) h.proper;
  low_area = areas low h.low_known ∙ h.low_area ∙ ap (λ (a : IntervalBox). low_half a i at) (sym (areas k below));
  high_area = areas high h.high_known ∙ h.high_area ∙ ap (λ (a : IntervalBox). high_half a i at) (sym (areas k below));
}
still s ns more areas k (Closed leaf) below h = subst (λ (a : IntervalBox). Kills s.job a (best_cost s) leaf) (sym (areas k below)) h

-- a covered state whose nodes change, but not their boxes
pub remade : (s : BookState) (ns : List Node) → IsCovered s → length ns ≡ length s.nodes
    → ((n : ℕ) → n < length s.nodes → area_of ns n ≡ area_of s.nodes n)
    → ((n : ℕ) → n < length s.nodes → PhaseHolds (record s { nodes = ns }) n (phase_of ns n))
    → ((n : ℕ) → naming_count ns n ≡ naming_count s.nodes n)
    → room (record s { nodes = ns }) ≤ room s → IsCovered (record s { nodes = ns })
remade s ns c len areas phases named less =
    let first = areas 0 c.some in
    record {
      some = omega (arith, c.some);
      root = subst (λ (a : IntervalBox). IsRoot s.job a) (sym first) c.root;
      boxes = λ n below. (let known : n < length s.nodes = omega arith in subst (λ (a : IntervalBox). IsBoxOf s.job a) (sym (areas n known)) (c.boxes n known));
      best = c.best;
      phases = λ n below. (let known : n < length s.nodes = omega arith in phases n known);
      named = λ n some below. named n ∙ c.named n some (omega arith);
      bounded = (let e = ap (size s.job) first in omega (arith, c.bounded, e));
    }

-- a node is marked that names no node, and is marked so that it names none
pub covered_marked : (s : BookState) (n : ℕ) (q p : Phase) → IsCovered s → HasPhase s.nodes n q → PhaseHolds s n p
    → ((k : ℕ) → names k q ≡ 0) → ((k : ℕ) → names k p ≡ 0) → ((z : ℕ) → if_waiting p z ≤ if_waiting q z) → IsCovered (marked s n p)
unfolding naming_count room
covered_marked s n q p c at holds no_old no_new less =
    let ns = with_phase s.nodes n p in
    let len = marked_length s.nodes n p in
    let areas = λ (k : ℕ) (below : k < length s.nodes). marked_area s.nodes n p k at.known in
    remade s ns c len areas
    (λ k below. elim (cases_eq k n) [
      | inl here ↦ subst (λ (r : Phase). PhaseHolds (record s { nodes = ns }) k r) (sym (ap (phase_of ns) here ∙ marked_phase s.nodes n p at.known))
          (still s ns (omega arith) areas k p below (subst (λ j. PhaseHolds s j p) (sym here) holds))
      | inr other ↦ subst (λ (r : Phase). PhaseHolds (record s { nodes = ns }) k r) (sym (marked_other s.nodes n p k other))
          (still s ns (omega arith) areas k (phase_of s.nodes k) below (c.phases k below))
    ])
    (λ k. (let all = marked_sum (λ a r. names k r) s.nodes n q p at in omega (arith, no_old k, no_new k)))
    (let all = marked_sum (λ a r. if_waiting r (size s.job a - 1)) s.nodes n q p at in omega (arith, less (size s.job (area_of s.nodes n) - 1)))

-- a lower cost of the best plan keeps the leaves
kills_still : (job : Job) (area : IntervalBox) (best : Option ℕ) (amount : ℕ) (leaf : Leaf) → IfSome best (λ c. amount < c) → Kills job area best leaf → Kills job area (Some amount) leaf
kills_still job area None amount (Bound row) below h = absurd h.1
kills_still job area (Some c) amount (Bound row) below h = (h.0, (let a = h.1 in omega (arith, ints)))
kills_still job area best amount (Empty row) below h = h
kills_still job area best amount Winners below h = h

improved_holds : (s : BookState) (plan : Plan) (amount : ℕ) → IsBelowBest s amount → (k : ℕ) (p : Phase) → PhaseHolds s k p → PhaseHolds (record s { best = Some (plan, amount) }) k p
improved_holds s plan amount below k Open h = tt
improved_holds s plan amount below k Taken h = tt
improved_holds s plan amount below k (Split low high i at) h = h
improved_holds s plan amount below k (Closed leaf) h = kills_still s.job (area_of s.nodes k) (best_cost s) amount leaf below h

covered_improved : (s : BookState) (plan : Plan) (amount : ℕ) → IsCovered s → IsPlanAt s.job plan amount → IsBelowBest s amount → IsCovered (record s { best = Some (plan, amount) })
unfolding room
covered_improved s plan amount c is_plan below = record {
  some = c.some;
  root = c.root;
  boxes = c.boxes;
  best = is_plan;
  phases = λ n known. improved_holds s plan amount below n (phase_of s.nodes n) (c.phases n known);
  named = c.named;
  bounded = c.bounded;
}

freed_names : (k : ℕ) (p : Phase) → names k (freed_phase p) ≡ names k p
freed_names k Open = refl
freed_names k Taken = refl
freed_names k (Split low high i at) = refl
freed_names k (Closed leaf) = refl

pub freed_waiting : (p : Phase) (z : ℕ) → if_waiting (freed_phase p) z ≡ if_waiting p z
freed_waiting Open z = refl
freed_waiting Taken z = refl
freed_waiting (Split low high i at) z = refl
freed_waiting (Closed leaf) z = refl

freed_holds : (s : BookState) (k : ℕ) (p : Phase) → PhaseHolds s k p → PhaseHolds s k (freed_phase p)
freed_holds s k Open h = tt
freed_holds s k Taken h = tt
freed_holds s k (Split low high i at) h = h
freed_holds s k (Closed leaf) h = h

covered_released : (s : BookState) → IsCovered s → IsCovered (released s)
unfolding naming_count room
covered_released s c =
    let ns = map freed s.nodes in
    let areas = λ (k : ℕ) (below : k < length s.nodes). ap (λ (x : Node). x.area) (freed_at s.nodes k below) in
    remade s ns c (freed_length s.nodes) areas
    (λ k below. subst (λ (r : Phase). PhaseHolds (record s { nodes = ns }) k r) (sym (ap (λ (x : Node). x.phase) (freed_at s.nodes k below)))
    (still s ns (omega (arith, freed_length s.nodes)) areas k _ below (freed_holds s k (phase_of s.nodes k) (c.phases k below))))
    (λ k. freed_sum (λ (x : Node). names k x.phase) (λ x. freed_names k x.phase) s.nodes)
    (let e = freed_sum (λ (x : Node). if_waiting x.phase (size s.job x.area - 1)) (λ x. freed_waiting x.phase (size s.job x.area - 1)) s.nodes in omega arith)

-- a sum of zeros
pub sum_of_zeros : (f : Node → ℕ) (d : Node) (xs : List Node) → ((k : ℕ) → k < length xs → f (get_or xs k d) ≡ 0) → sum_by f xs ≡ 0
sum_of_zeros f d [] zeros = refl
sum_of_zeros f d (x ∷ xs) zeros =
    let here : f x ≡ 0 = zeros 0 (omega arith) in
    let rest = sum_of_zeros f d xs (λ k below. zeros (suc k) (omega arith)) in
    omega (arith, sum_by-cons f x xs)

names_none_at : (s : BookState) (k m : ℕ) (p : Phase) → length s.nodes ≤ m → PhaseHolds s k p → names m p ≡ 0
names_none_at s k m Open past h = refl
names_none_at s k m Taken past h = refl
names_none_at s k m (Split low high i at) past h =
    let a : low ≡ m → ⊥ = λ e. omega (arith, h.low_known) in
    let b : high ≡ m → ⊥ = λ e. omega (arith, h.high_known) in
    rw (ne_eqb low m a, ne_eqb high m b)
names_none_at s k m (Closed leaf) past h = refl

-- no node is named that is not there
pub none_named : (s : BookState) (m : ℕ) → IsCovered s → length s.nodes ≤ m → naming_count s.nodes m ≡ 0
unfolding naming_count
none_named s m c past = sum_of_zeros (λ (x : Node). names m x.phase) (node_at [] 0) s.nodes (λ k below. names_none_at s k m (phase_of s.nodes k) past (c.phases k below))

half_names : (area : IntervalBox) (kept : Bool) (k : ℕ) → names k (half_node area kept).phase ≡ 0
half_names area true k = refl
half_names area false k = refl

pub half_waiting : (area : IntervalBox) (kept : Bool) (z : ℕ) → if_waiting (half_node area kept).phase z ≡ z
half_waiting area true z = refl
half_waiting area false z = refl

pub half_holds : (s : BookState) (k : ℕ) (area : IntervalBox) (kept : Bool) → PhaseHolds s k (half_node area kept).phase
half_holds s k area true = tt
half_holds s k area false = tt

-- the node itself, after a split of it
split_names : (k a b i at : ℕ) → (a ≡ k → ⊥) → (b ≡ k → ⊥) → names k (Split a b i at) ≡ 0
split_names k a b i at first second = rw (ne_eqb a k first, ne_eqb b k second)

first_named : (k i at : ℕ) → names k (Split k (k + 1) i at) ≡ 1
first_named k i at = (let other : k + 1 ≡ k → ⊥ = λ e. omega arith in rw (eq-eqb k k refl, ne_eqb (k + 1) k other))

second_named : (k i at : ℕ) → names (k + 1) (Split k (k + 1) i at) ≡ 1
second_named k i at = (let other : k ≡ k + 1 → ⊥ = λ e. omega arith in rw (ne_eqb k (k + 1) other, eq-eqb (k + 1) (k + 1) refl))

-- the nodes of a state in which node n was split
pub record IsDivided (s : BookState) (n i at : ℕ) (keep_low : Bool) (ns : List Node) : Type 0 where
  pub len : length ns ≡ length s.nodes + 2
  pub areas : (k : ℕ) → k < length s.nodes → area_of ns k ≡ area_of s.nodes k
  pub here : phase_of ns n ≡ Split (length s.nodes) (length s.nodes + 1) i at
  pub others : (k : ℕ) → k < length s.nodes → k ≢ n → phase_of ns k ≡ phase_of s.nodes k
  pub low : node_at ns (length s.nodes) ≡ half_node (low_half (area_of s.nodes n) i at) keep_low
  pub high : node_at ns (length s.nodes + 1) ≡ half_node (high_half (area_of s.nodes n) i at) (not keep_low)

pub is_divided : (s : BookState) (n i at : ℕ) (keep_low : Bool) → n < length s.nodes → IsDivided s n i at keep_low (divided s n i at keep_low).nodes
is_divided s n i at keep_low known =
    let p = Split (length s.nodes) (length s.nodes + 1) i at in
    let ms = with_phase s.nodes n p in
    let a = half_node (low_half (area_of s.nodes n) i at) keep_low in
    let b = half_node (high_half (area_of s.nodes n) i at) (not keep_low) in
    let len = marked_length s.nodes n p in
    let before = λ (k : ℕ) (below : k < length s.nodes). added_before ms a b k (omega arith) in
    record {
      len = omega (arith, added_length ms a b);
      areas = λ k below. ap (λ (x : Node). x.area) (before k below) ∙ marked_area s.nodes n p k known;
      here = ap (λ (x : Node). x.phase) (before n known) ∙ marked_phase s.nodes n p known;
      others = λ k below other. ap (λ (x : Node). x.phase) (before k below) ∙ marked_other s.nodes n p k other;
      low = added_first ms a b (length s.nodes) (sym len);
      high = added_second ms a b (length s.nodes + 1) (omega arith);
    }

-- of each node of a divided state: one that was there, or the node of the low or of the high half
pub data Which (size k : ℕ) : Type 0 where
  was_there : k < size → Which size k
  is_low : k ≡ size → Which size k
  is_high : k ≡ size + 1 → Which size k

pub which : (size k : ℕ) → k < size + 2 → Which size k
which size k below = elim (cases_lt k size) [
  | inl there ↦ was_there there
  | inr past ↦ elim (cases_eq k size) [ inl low ↦ is_low low | inr other ↦ is_high (omega arith) ]
]

divided_split : (s : BookState) (n i at : ℕ) (keep_low : Bool) (ns : List Node) → n < length s.nodes → IsProper (area_of s.nodes n) i at → IsDivided s n i at keep_low ns
    → IsSplitInto ns n (length s.nodes) (length s.nodes + 1) i at
divided_split s n i at keep_low ns known proper d =
    let same = d.areas n known in
    record {
      low_later = omega arith;
      high_later = omega arith;
      low_known = omega (arith, d.len);
      high_known = omega (arith, d.len);
      proper = subst (λ (a : IntervalBox). IsProper a i at) (sym same) proper;
      low_area = ap (λ (x : Node). x.area) d.low ∙ ap (λ (a : IntervalBox). low_half a i at) (sym same);
      high_area = ap (λ (x : Node). x.area) d.high ∙ ap (λ (a : IntervalBox). high_half a i at) (sym same);
    }

divided_boxes : (s : BookState) (n i at : ℕ) (keep_low : Bool) (ns : List Node) → IsCovered s → n < length s.nodes → IsProper (area_of s.nodes n) i at → IsDivided s n i at keep_low ns
    → (k : ℕ) → Which (length s.nodes) k → IsBoxOf s.job (area_of ns k)
divided_boxes s n i at keep_low ns c known proper d k (was_there below) = subst (λ (a : IntervalBox). IsBoxOf s.job a) (sym (d.areas k below)) (c.boxes k below)
divided_boxes s n i at keep_low ns c known proper d k (is_low here) =
    subst (λ (a : IntervalBox). IsBoxOf s.job a) (sym (ap (area_of ns) here ∙ ap (λ (x : Node). x.area) d.low)) (low_is_box s.job (area_of s.nodes n) i at (c.boxes n known) proper)
divided_boxes s n i at keep_low ns c known proper d k (is_high here) =
    subst (λ (a : IntervalBox). IsBoxOf s.job a) (sym (ap (area_of ns) here ∙ ap (λ (x : Node). x.area) d.high)) (high_is_box s.job (area_of s.nodes n) i at (c.boxes n known) proper)

divided_phases : (s : BookState) (n i at : ℕ) (keep_low : Bool) (ns : List Node) → IsCovered s → n < length s.nodes → IsProper (area_of s.nodes n) i at → IsDivided s n i at keep_low ns
    → (k : ℕ) → Which (length s.nodes) k → PhaseHolds (record s { nodes = ns }) k (phase_of ns k)
divided_phases s n i at keep_low ns c known proper d k (was_there below) = elim (cases_eq k n) [
  | inl here ↦ subst (λ j. PhaseHolds (record s { nodes = ns }) j (phase_of ns j)) (sym here)
      (subst (λ (r : Phase). PhaseHolds (record s { nodes = ns }) n r) (sym d.here) (divided_split s n i at keep_low ns known proper d))
  | inr other ↦ subst (λ (r : Phase). PhaseHolds (record s { nodes = ns }) k r) (sym (d.others k below other))
      (still s ns (omega (arith, d.len)) d.areas k (phase_of s.nodes k) below (c.phases k below))
]
divided_phases s n i at keep_low ns c known proper d k (is_low here) =
    subst (λ (r : Phase). PhaseHolds (record s { nodes = ns }) k r) (sym (ap (phase_of ns) here ∙ ap (λ (x : Node). x.phase) d.low))
    (half_holds (record s { nodes = ns }) k (low_half (area_of s.nodes n) i at) keep_low)
divided_phases s n i at keep_low ns c known proper d k (is_high here) =
    subst (λ (r : Phase). PhaseHolds (record s { nodes = ns }) k r) (sym (ap (phase_of ns) here ∙ ap (λ (x : Node). x.phase) d.high))
    (half_holds (record s { nodes = ns }) k (high_half (area_of s.nodes n) i at) (not keep_low))

-- a sum over the nodes after a split: the node's part is replaced by those of the split node and of both halves
pub divided_sum : (g : IntervalBox → Phase → ℕ) (s : BookState) (n i at : ℕ) (keep_low : Bool) → HasPhase s.nodes n Taken
    → sum_by (λ (x : Node). g x.area x.phase) (divided s n i at keep_low).nodes + g (area_of s.nodes n) Taken
    ≡ sum_by (λ (x : Node). g x.area x.phase) s.nodes + g (area_of s.nodes n) (Split (length s.nodes) (length s.nodes + 1) i at)
    + (g (low_half (area_of s.nodes n) i at) (half_node (low_half (area_of s.nodes n) i at) keep_low).phase
    + g (high_half (area_of s.nodes n) i at) (half_node (high_half (area_of s.nodes n) i at) (not keep_low)).phase)
divided_sum g s n i at keep_low taken =
    let p = Split (length s.nodes) (length s.nodes + 1) i at in
    let a = half_node (low_half (area_of s.nodes n) i at) keep_low in
    let b = half_node (high_half (area_of s.nodes n) i at) (not keep_low) in
    let mark = marked_sum g s.nodes n Taken p taken in
    let add = added_sum (λ (x : Node). g x.area x.phase) (with_phase s.nodes n p) a b in
    omega arith

divided_named : (s : BookState) (n i at : ℕ) (keep_low : Bool) → IsCovered s → HasPhase s.nodes n Taken → IsDivided s n i at keep_low (divided s n i at keep_low).nodes
    → (k : ℕ) → 0 < k → Which (length s.nodes) k → naming_count (divided s n i at keep_low).nodes k ≡ 1
unfolding naming_count
divided_named s n i at keep_low c taken d k some (was_there below) =
    let all = divided_sum (λ a p. names k p) s n i at keep_low taken in
    let none = split_names k (length s.nodes) (length s.nodes + 1) i at (λ e. omega arith) (λ e. omega arith) in
    omega (arith, c.named k some below, half_names (low_half (area_of s.nodes n) i at) keep_low k, half_names (high_half (area_of s.nodes n) i at) (not keep_low) k)
divided_named s n i at keep_low c taken d k some (is_low here) =
    let all = divided_sum (λ a p. names (length s.nodes) p) s n i at keep_low taken in
    rw here (omega (
      arith,
      none_named s (length s.nodes) c (omega arith),
      first_named (length s.nodes) i at,
      half_names (low_half (area_of s.nodes n) i at) keep_low (length s.nodes),
      half_names (high_half (area_of s.nodes n) i at) (not keep_low) (length s.nodes),
    ))
divided_named s n i at keep_low c taken d k some (is_high here) =
    let all = divided_sum (λ a p. names (length s.nodes + 1) p) s n i at keep_low taken in
    rw here (omega (
      arith,
      none_named s (length s.nodes + 1) c (omega arith),
      second_named (length s.nodes) i at,
      half_names (low_half (area_of s.nodes n) i at) keep_low (length s.nodes + 1),
      half_names (high_half (area_of s.nodes n) i at) (not keep_low) (length s.nodes + 1),
    ))

-- a split takes 1 from the room
divided_room : (s : BookState) (n i at : ℕ) (keep_low : Bool) → IsCovered s → HasPhase s.nodes n Taken → IsProper (area_of s.nodes n) i at
    → room (divided s n i at keep_low) + 1 ≡ room s
unfolding room
divided_room s n i at keep_low c taken proper =
    let area = area_of s.nodes n in
    let box = c.boxes n taken.known in
    let all = divided_sum (λ a p. if_waiting p (size s.job a - 1)) s n i at keep_low taken in
    let l = half_waiting (low_half area i at) keep_low (size s.job (low_half area i at) - 1) in
    let h = half_waiting (high_half area i at) (not keep_low) (size s.job (high_half area i at) - 1) in
    omega (arith, sizes_add s.job area i at box proper, size_some s.job (low_half area i at) (low_is_box s.job area i at box proper), size_some s.job (high_half area i at) (high_is_box s.job area i at box proper))

covered_divided : (s : BookState) (n i at : ℕ) (keep_low : Bool) → IsCovered s → HasPhase s.nodes n Taken → IsProper (area_of s.nodes n) i at → IsCovered (divided s n i at keep_low)
covered_divided s n i at keep_low c taken proper =
    let d = is_divided s n i at keep_low taken.known in
    let ns = (divided s n i at keep_low).nodes in
    let first = d.areas 0 c.some in
    let at_place = λ (k : ℕ) (below : k < length ns). which (length s.nodes) k (omega (arith, d.len)) in
    record {
      some = omega (arith, d.len);
      root = subst (λ (a : IntervalBox). IsRoot s.job a) (sym first) c.root;
      boxes = λ k below. divided_boxes s n i at keep_low ns c taken.known proper d k (at_place k below);
      best = c.best;
      phases = λ k below. divided_phases s n i at keep_low ns c taken.known proper d k (at_place k below);
      named = λ k some below. divided_named s n i at keep_low c taken d k some (at_place k below);
      bounded = (let e = ap (size s.job) first in omega (arith, c.bounded, d.len, divided_room s n i at keep_low c taken proper));
    }

-- an event that applies keeps the cover
pub keeps_cover : (s t : BookState) (event : Event) → IsCovered s → Happens s event t → IsCovered t
keeps_cover s t (take_node n) c h = subst IsCovered (sym h.1) (covered_marked s n Open Taken c h.0 tt (λ k. refl) (λ k. refl) (λ z. omega arith))
keeps_cover s t (improve plan amount) c h = subst IsCovered (sym h.2) (covered_improved s plan amount c h.0 h.1)
keeps_cover s t (close_node n leaf) c h = subst IsCovered (sym h.2) (covered_marked s n Taken (Closed leaf) c h.0 h.1 (λ k. refl) (λ k. refl) (λ z. omega arith))
keeps_cover s t (split_node n i at keep_low) c h = subst IsCovered (sym h.2) (covered_divided s n i at keep_low c h.0 h.1)
keeps_cover s t (give_back n) c h = subst IsCovered (sym h.1) (covered_marked s n Taken Open c h.0 tt (λ k. refl) (λ k. refl) (λ z. omega arith))
keeps_cover s t release c h = subst IsCovered (sym h) (covered_released s c)

opening : (job : Job) (root : IntervalBox) → IsRoot job root → IsCovered (record { job = job; nodes = record { area = root; phase = Open } ∷ []; best = None })
unfolding room naming_count
opening job root is_root = record {
  some = omega arith;
  root = is_root;
  boxes = λ n below. (let first : n ≡ 0 = omega arith in rw first is_root.of_job);
  best = tt;
  phases = λ n below. (let first : n ≡ 0 = omega arith in rw first tt);
  named = λ n some below. absurd (omega arith);
  bounded = (let one = size_some job root is_root.of_job in omega (arith, sum_by-cons (λ (x : Node). if_waiting x.phase (size job x.area - 1)) (record { area = root; phase = Open }) []));
}

pub state_is : (s : BookState) (job : Job) (nodes : List Node) (best : Option (Plan × ℕ)) → s.job ≡ job → s.nodes ≡ nodes → s.best ≡ best → s ≡ record { job = job; nodes = nodes; best = best }
state_is s job nodes best a b c = rw (← a, ← b, ← c)

pub opening_covered : (job : Job) (s : BookState) → IsOpening job s → IsCovered s
opening_covered job s o = subst IsCovered (sym (state_is s job _ _ o.job_is o.nodes o.best)) (opening job o.root o.is_root)
