-- What a book keeps of its counts after an event.
use Rattle.std.proofs.Common.{ℕ, suc, ◌≡◌, ◌+◌, ◌-◌, ◌<◌, ◌≤◌, ◌≢◌, min, Bool, true, false, not, cond, List, [], ◌∷◌, ◌++◌, append_assoc, map, length, take, drop, count_by, Option, Some, None, sym, ap, refl, ◌∙◌, inl, inr, ◌⊎◌, arith}
use Rattle.std.specs.Prelude.{MatchOption, option_map}
use Rattle.std.proofs.lemmas.Bool.{cases_eq, cases_Bool}
use Rattle.std.proofs.lemmas.List.Sums.{sum_by-cons, get_or-le-sum_by}
use Rattle.std.proofs.Math.Seq.{take-append_seam}
use Rattle.tqd_instance.specs.declared.job.Job.{Job}
use Rattle.tqd_instance.specs.declared.plan.Plan.{Plan}
use Rattle.tqd_instance.specs.Plan.{units}
use Rattle.tqd_instance.specs.Cost.{cost}
use Rattle.tqd_instance.specs.Least.{Least, HasNoPurchase}
use Rattle.interval_box.specs.declared.boxes.IntervalBox.{IntervalBox}
use Rattle.tqd_base.specs.declared.limits.TheConstants.{SUPPLIERS_MAX}
use Rattle.interval_box.specs.Ranges.{IsBoxOf, IsRoot}
use Rattle.interval_box.proofs.Split.{place}
use Rattle.interval_box.specs.Halves.{IsProper, low_half, high_half}
use Rattle.bound_tree.specs.declared.leaf.Leaf.{Leaf}
use Rattle.search_book.specs.declared.node.Node.{Node}
use Rattle.search_book.specs.declared.node.Phase.{Phase}
use Rattle.search_book.specs.declared.node.Phase.TheVariants.{Open, Taken, Split, Closed}
use Rattle.search_book.specs.Nodes.{node_at, area_of, phase_of, HasPhase, with_phase, IsWaiting}
use Rattle.search_book.specs.BookState.{BookState, best_cost}
use Rattle.search_book.specs.Events.{take_node, improve, close_node, split_node, give_back, release, marked, divided, half_node, released, freed, freed_phase, Happens}
use Rattle.search_book.specs.Counts.{is_open, is_taken}
use Rattle.search_book.specs.Kept.{IsKept}
use Rattle.search_book.specs.Answers.{IsSettled, IsUnsettled, HasLeast}
use Rattle.search_book.proofs.Marks.{marked_length, marked_phase, marked_other, marked_sum, freed_length}
use Rattle.search_book.proofs.Covers.{keeps_cover, is_divided, divided_sum, opening_covered}
use Rattle.search_book.proofs.Remains.{settled_decides}

-- what is written through a slice of a vector
pub vec_marked : (xs ys ns : List Node) (len n : ℕ) (p : Phase) → ys ≡ xs → length ys ≡ len → ns ≡ with_phase ys n p → take len (ns ++ drop (length ns) xs) ≡ with_phase xs n p
vec_marked xs ys ns len n p same long is =
    let e : length ns ≡ len = ap length is ∙ marked_length ys n p ∙ long in
    rw (← e) (take-append_seam ns (drop (length ns) xs) ∙ is ∙ ap (λ zs. with_phase zs n p) same)

-- no node below a number is Open still
none_open : (nodes : List Node) (n f g : ℕ) (p : Phase) → n < length nodes → ((m : ℕ) → m < f → phase_of nodes m ≢ Open) → g ≤ f → (p ≡ Open → g ≤ n)
    → (m : ℕ) → m < g → phase_of (with_phase nodes n p) m ≢ Open
none_open nodes n f g p known none less later m below e = elim (cases_eq m n) [
  | inl here ↦ (let past = later (sym (marked_phase nodes n p known) ∙ (sym (ap (phase_of (with_phase nodes n p)) here) ∙ e)) in omega arith)
  | inr other ↦ none m (omega arith) (sym (marked_other nodes n p m other) ∙ e)
]

pub kept_taken : (s : BookState) (n open_nodes taken_nodes first : ℕ) → IsKept s open_nodes taken_nodes first → HasPhase s.nodes n Open → IsKept (marked s n Taken) (open_nodes - 1) (taken_nodes + 1) first
kept_taken s n open_nodes taken_nodes first k at =
    let opens = marked_sum (λ a p. cond (is_open p) 1 0) s.nodes n Open Taken at in
    let takes = marked_sum (λ a p. cond (is_taken p) 1 0) s.nodes n Open Taken at in
    record {
      covered = keeps_cover s (marked s n Taken) (take_node n) k.covered (at, refl);
      open_is = omega (arith, k.open_is);
      taken_is = omega (arith, k.taken_is);
      within = omega (arith, k.within, marked_length s.nodes n Taken);
      none_below = none_open s.nodes n first first Taken at.known k.none_below (omega arith) (λ e. absurd (cc));
    }

pub kept_closed : (s : BookState) (n : ℕ) (leaf : Leaf) (open_nodes taken_nodes first : ℕ) → IsKept s open_nodes taken_nodes first → Happens s (close_node n leaf) (marked s n (Closed leaf))
    → IsKept (marked s n (Closed leaf)) open_nodes (taken_nodes - 1) first
kept_closed s n leaf open_nodes taken_nodes first k h =
    let opens = marked_sum (λ a p. cond (is_open p) 1 0) s.nodes n Taken (Closed leaf) h.0 in
    let takes = marked_sum (λ a p. cond (is_taken p) 1 0) s.nodes n Taken (Closed leaf) h.0 in
    record {
      covered = keeps_cover s (marked s n (Closed leaf)) (close_node n leaf) k.covered h;
      open_is = omega (arith, k.open_is);
      taken_is = omega (arith, k.taken_is);
      within = omega (arith, k.within, marked_length s.nodes n (Closed leaf));
      none_below = none_open s.nodes n first first (Closed leaf) h.0.known k.none_below (omega arith) (λ e. absurd (cc));
    }

pub kept_given : (s : BookState) (n open_nodes taken_nodes first least : ℕ) → IsKept s open_nodes taken_nodes first → HasPhase s.nodes n Taken → least ≡ min first n
    → IsKept (marked s n Open) (open_nodes + 1) (taken_nodes - 1) least
kept_given s n open_nodes taken_nodes first least k at is =
    let opens = marked_sum (λ a p. cond (is_open p) 1 0) s.nodes n Taken Open at in
    let takes = marked_sum (λ a p. cond (is_taken p) 1 0) s.nodes n Taken Open at in
    record {
      covered = keeps_cover s (marked s n Open) (give_back n) k.covered (at, refl);
      open_is = omega (arith, k.open_is);
      taken_is = omega (arith, k.taken_is);
      within = omega (arith, k.within, marked_length s.nodes n Open);
      none_below = none_open s.nodes n first least Open at.known k.none_below (omega arith) (λ e. omega arith);
    }

pub kept_improved : (s : BookState) (plan : Plan) (amount open_nodes taken_nodes first : ℕ) → IsKept s open_nodes taken_nodes first → Happens s (improve plan amount) (record s { best = Some (plan, amount) })
    → IsKept (record s { best = Some (plan, amount) }) open_nodes taken_nodes first
kept_improved s plan amount open_nodes taken_nodes first k h = record {
  covered = keeps_cover s (record s { best = Some (plan, amount) }) (improve plan amount) k.covered h;
  open_is = k.open_is;
  taken_is = k.taken_is;
  within = k.within;
  none_below = k.none_below;
}

halves_open : (a b : IntervalBox) (keep : Bool) → cond {A = ℕ} (is_open (half_node a keep).phase) 1 0 + cond {A = ℕ} (is_open (half_node b (not keep)).phase) 1 0 ≡ 1
halves_open a b true = refl
halves_open a b false = refl

halves_taken : (a b : IntervalBox) (keep : Bool) → cond {A = ℕ} (is_taken (half_node a keep).phase) 1 0 + cond {A = ℕ} (is_taken (half_node b (not keep)).phase) 1 0 ≡ 1
halves_taken a b true = refl
halves_taken a b false = refl

pub kept_divided : (s : BookState) (n i at : ℕ) (keep_low : Bool) (open_nodes taken_nodes first : ℕ) → IsKept s open_nodes taken_nodes first
    → HasPhase s.nodes n Taken → IsProper (area_of s.nodes n) i at → IsKept (divided s n i at keep_low) (open_nodes + 1) taken_nodes first
kept_divided s n i at keep_low open_nodes taken_nodes first k taken proper =
    let opens = divided_sum (λ a p. cond (is_open p) 1 0) s n i at keep_low taken in
    let takes = divided_sum (λ a p. cond (is_taken p) 1 0) s n i at keep_low taken in
    let d = is_divided s n i at keep_low taken.known in
    let low = low_half (area_of s.nodes n) i at in
    let high = high_half (area_of s.nodes n) i at in
    record {
      covered = keeps_cover s (divided s n i at keep_low) (split_node n i at keep_low) k.covered (taken, proper, refl);
      open_is = omega (arith, k.open_is, halves_open low high keep_low);
      taken_is = omega (arith, k.taken_is, halves_taken low high keep_low);
      within = omega (arith, k.within, d.len);
      none_below = λ m below e. elim (cases_eq m n) [
        | inl here ↦ (let is = sym d.here ∙ (sym (ap (phase_of (divided s n i at keep_low).nodes) here) ∙ e) in cc)
        | inr other ↦ k.none_below m below (sym (d.others m (omega (arith, k.within)) other) ∙ e)
      ];
    }

freed_open : (p : Phase) → cond {A = ℕ} (is_open (freed_phase p)) 1 0 ≡ cond {A = ℕ} (is_open p) 1 0 + cond {A = ℕ} (is_taken p) 1 0
freed_open Open = refl
freed_open Taken = refl
freed_open (Split low high i at) = refl
freed_open (Closed leaf) = refl

freed_taken : (p : Phase) → cond {A = ℕ} (is_taken (freed_phase p)) 1 0 ≡ 0
freed_taken Open = refl
freed_taken Taken = refl
freed_taken (Split low high i at) = refl
freed_taken (Closed leaf) = refl

open_freed : (nodes : List Node) → count_by (λ (x : Node). is_open x.phase) (map freed nodes) ≡ count_by (λ (x : Node). is_open x.phase) nodes + count_by (λ (x : Node). is_taken x.phase) nodes
open_freed [] = refl
open_freed (x ∷ xs) =
    let rest = open_freed xs in
    omega (
      arith,
      sum_by-cons (λ (y : Node). cond {A = ℕ} (is_open y.phase) 1 0) (freed x) (map freed xs),
      sum_by-cons (λ (y : Node). cond {A = ℕ} (is_open y.phase) 1 0) x xs,
      sum_by-cons (λ (y : Node). cond {A = ℕ} (is_taken y.phase) 1 0) x xs,
      freed_open x.phase,
    )

taken_freed : (nodes : List Node) → count_by (λ (x : Node). is_taken x.phase) (map freed nodes) ≡ 0
taken_freed [] = refl
taken_freed (x ∷ xs) =
    let rest = taken_freed xs in
    omega (arith, sum_by-cons (λ (y : Node). cond {A = ℕ} (is_taken y.phase) 1 0) (freed x) (map freed xs), freed_taken x.phase)

pub kept_released : (s : BookState) (open_nodes taken_nodes first : ℕ) → IsKept s open_nodes taken_nodes first → IsKept (released s) (open_nodes + taken_nodes) 0 0
kept_released s open_nodes taken_nodes first k = record {
  covered = keeps_cover s (released s) release k.covered refl;
  open_is = omega (arith, k.open_is, k.taken_is, open_freed s.nodes);
  taken_is = sym (taken_freed s.nodes);
  within = omega arith;
  none_below = λ m below e. absurd (omega arith);
}

pub kept_opened : (job : Job) (root : IntervalBox) (nodes : List Node) → IsRoot job root → nodes ≡ record { area = root; phase = Open } ∷ [] → IsKept (record { job = job; nodes = nodes; best = None }) 1 0 0
kept_opened job root nodes is_root is = record {
  covered = opening_covered job _ (record { job_is = refl; root = root; is_root = is_root; nodes = is; best = refl });
  open_is = rw is refl;
  taken_is = rw is refl;
  within = omega arith;
  none_below = λ m below e. absurd (omega arith);
}

-- a count of 0 leaves no node, and any other some node
counts_none : (p : Phase → Bool) (nodes : List Node) (k : ℕ) → count_by (λ (x : Node). p x.phase) nodes ≡ 0 → k < length nodes → p (phase_of nodes k) ≡ true → ⊥
counts_none p nodes k nothing below e =
    let some = get_or-le-sum_by (λ (x : Node). cond {A = ℕ} (p x.phase) 1 0) nodes k (node_at [] 0) below in
    let here : cond {A = ℕ} (p (phase_of nodes k)) 1 0 ≡ 1 = rw e refl in
    omega arith

counts_some : (p : Phase → Bool) (nodes : List Node) → 0 < count_by (λ (x : Node). p x.phase) nodes → (k : ℕ) × (k < length nodes) × (p (phase_of nodes k) ≡ true)
counts_some p [] some = absurd (omega arith)
counts_some p (x ∷ xs) some = elim (cases_Bool (p x.phase)) [
  | inl passes ↦ (0, omega arith, passes)
  | inr fails ↦
      let here : cond {A = ℕ} (p x.phase) 1 0 ≡ 0 = rw fails refl in
      let found = counts_some p xs (omega (arith, sum_by-cons (λ (y : Node). cond {A = ℕ} (p y.phase) 1 0) x xs)) in
      (suc found.0, omega (arith, found.1), found.2)
]

waits_open : (p : Phase) → is_open p ≡ true → IsWaiting p
waits_open Open e = tt
waits_open Taken e = tt
waits_open (Split low high i at) e = absurd (cc)
waits_open (Closed leaf) e = absurd (cc)

waits_taken : (p : Phase) → is_taken p ≡ true → IsWaiting p
waits_taken Open e = tt
waits_taken Taken e = tt
waits_taken (Split low high i at) e = absurd (cc)
waits_taken (Closed leaf) e = absurd (cc)

waits_so : (p : Phase) → IsWaiting p → (is_open p ≡ true) ⊎ (is_taken p ≡ true)
waits_so Open w = inl refl
waits_so Taken w = inr refl
waits_so (Split low high i at) w = absurd w
waits_so (Closed leaf) w = absurd w

pub unsettled_open : (s : BookState) (open_nodes taken_nodes first : ℕ) → IsKept s open_nodes taken_nodes first → 0 < open_nodes → IsUnsettled s
unsettled_open s open_nodes taken_nodes first k some =
    let found = counts_some is_open s.nodes (omega (arith, k.open_is)) in
    (found.0, found.1, waits_open (phase_of s.nodes found.0) found.2)

pub unsettled_taken : (s : BookState) (open_nodes taken_nodes first : ℕ) → IsKept s open_nodes taken_nodes first → 0 < taken_nodes → IsUnsettled s
unsettled_taken s open_nodes taken_nodes first k some =
    let found = counts_some is_taken s.nodes (omega (arith, k.taken_is)) in
    (found.0, found.1, waits_taken (phase_of s.nodes found.0) found.2)

pub none_open_at_all : (s : BookState) (taken_nodes first : ℕ) → IsKept s 0 taken_nodes first → (n : ℕ) → n < length s.nodes → phase_of s.nodes n ≢ Open
none_open_at_all s taken_nodes first k n below e = counts_none is_open s.nodes n (sym k.open_is) below (ap is_open e)

pub settled : (s : BookState) (first : ℕ) → IsKept s 0 0 first → IsSettled s
settled s first k = λ n below waits. elim (waits_so (phase_of s.nodes n) waits) [
  | inl passes ↦ counts_none is_open s.nodes n (sym k.open_is) below passes
  | inr passes ↦ counts_none is_taken s.nodes n (sym k.taken_is) below passes
]

least_at : (job : Job) (best : Option (Plan × ℕ)) (amount : ℕ) → MatchOption best (HasNoPurchase job) (λ b. Least job (units b.0) × (b.1 ≡ cost job (units b.0)))
    → Some amount ≡ option_map (λ b. b.1) best → (plan : Plan) × (best ≡ Some (plan, amount)) × (amount ≡ cost job (units plan)) × Least job (units plan)
least_at job None amount h e = absurd (cc)
least_at job (Some b) amount h e =
    let same : b.1 ≡ amount = cc in
    (b.0, ap (λ a. Some (b.0, a)) same, sym same ∙ h.1, h.0)

none_at : (job : Job) (best : Option (Plan × ℕ)) → MatchOption best (HasNoPurchase job) (λ b. Least job (units b.0) × (b.1 ≡ cost job (units b.0)))
    → None ≡ option_map (λ b. b.1) best → (best ≡ None) × HasNoPurchase job
none_at job None h e = (refl, h)
none_at job (Some b) h e = absurd (cc)

-- a settled state's best plan is a least purchase, and where it has none, none is feasible
pub has_least : (s : BookState) (first amount : ℕ) → IsKept s 0 0 first → Some amount ≡ best_cost s → HasLeast s amount
has_least s first amount k e =
    let found = least_at s.job s.best amount (settled_decides s k.covered (settled s first k)) e in
    record { plan = found.0; best = found.1; costs = found.2; least = found.3 }

pub has_none : (s : BookState) (first : ℕ) → IsKept s 0 0 first → None ≡ best_cost s → (s.best ≡ None) × HasNoPurchase s.job
has_none s first k e = none_at s.job s.best (settled_decides s k.covered (settled s first k)) e

pub vec_freed : (xs ys ns : List Node) (len : ℕ) → ys ≡ xs → length ys ≡ len → ns ≡ map freed ys → take len (ns ++ drop (length ns) xs) ≡ map freed xs
vec_freed xs ys ns len same long is =
    let e : length ns ≡ len = ap length is ∙ freed_length ys ∙ long in
    rw (← e) (take-append_seam ns (drop (length ns) xs) ∙ is ∙ ap (map freed) same)

-- a node is marked in a vector, and two nodes are added to it
pub vec_divided : (xs ys zs ms ps qs : List Node) (a b low high : Node) (len n : ℕ) (p phase : Phase)
    → ys ≡ xs → zs ≡ ys → length zs ≡ len → p ≡ phase → ms ≡ with_phase zs n p → ps ≡ take len (ms ++ drop (length ms) ys) ++ (a ∷ []) → qs ≡ ps ++ (b ∷ [])
    → a ≡ low → b ≡ high → qs ≡ with_phase xs n phase ++ (low ∷ high ∷ [])
vec_divided xs ys zs ms ps qs a b low high len n p phase same read long p_is marked first second a_is b_is =
    let at : take len (ms ++ drop (length ms) ys) ≡ with_phase xs n phase = vec_marked ys zs ms len n p read long marked ∙ (ap (λ ks. with_phase ks n p) same ∙ ap (with_phase xs n) p_is) in
    second ∙ (ap (λ ks. ks ++ (b ∷ [])) first ∙ (append_assoc (take len (ms ++ drop (length ms) ys)) (a ∷ []) (b ∷ [])
    ∙ (ap (λ ks. ks ++ (a ∷ b ∷ [])) at ∙ (ap (λ x. with_phase xs n phase ++ (x ∷ b ∷ [])) a_is ∙ ap (λ x. with_phase xs n phase ++ (low ∷ x ∷ [])) b_is))))

-- a proper split is at a supplier for which a box has a place
pub box_place : (job : Job) (area : IntervalBox) (i at : ℕ) → IsBoxOf job area → IsProper area i at → i < SUPPLIERS_MAX
box_place job area i at box proper =
    let here = place job area i at box proper in
    omega (arith, here.low, box.low_places)
