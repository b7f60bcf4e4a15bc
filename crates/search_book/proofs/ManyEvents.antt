-- What a list of events leads to.
use Rattle.std.proofs.Common.{ℕ, ◌≡◌, ◌+◌, ◌≤◌, ◌*◌, Bool, true, false, ◌&&◌, not, cond, List, [], ◌∷◌, length, sym, ap, refl, subst, ◌∙◌, arith}
use Rattle.std.proofs.lemmas.List.Sums.{sum_by-cons}
use Rattle.tqd_instance.specs.declared.job.Job.{Job}
use Rattle.interval_box.specs.declared.boxes.IntervalBox.{IntervalBox}
use Rattle.interval_box.specs.Ranges.{IsRoot}
use Rattle.interval_box.specs.Halves.{low_half, high_half}
use Rattle.interval_box.specs.Size.{size}
use Rattle.interval_box.proofs.Root.{root_is_one}
use Rattle.search_book.specs.declared.node.Node.{Node}
use Rattle.search_book.specs.declared.node.Phase.{Phase}
use Rattle.search_book.specs.declared.node.Phase.TheVariants.{Open, Taken, Split, Closed}
use Rattle.search_book.specs.Nodes.{area_of}
use Rattle.search_book.specs.BookState.{BookState, IsOpening}
use Rattle.search_book.specs.Events.{Event, take_node, improve, close_node, split_node, give_back, release, freed_phase, half_node, Happens, Steps}
use Rattle.search_book.specs.Later.{IsLater}
use Rattle.search_book.specs.Counts.{is_split, is_closed, split_count, closed_count}
use Rattle.search_book.specs.Covered.{IsCovered, AllRemain}
use Rattle.search_book.specs.Runs.{Runs, closes, splits, closings, splittings}
use Rattle.search_book.proofs.Marks.{marked_sum, freed_sum}
use Rattle.search_book.proofs.Covers.{keeps_cover, opening_covered, divided_sum}
use Rattle.search_book.proofs.LaterStates.{later_refl, later_trans, steps_later}
use Rattle.search_book.proofs.Remains.{all_remain}

steps_keep_cover : (s t : BookState) (event : Event) (applied : Bool) → IsCovered s → Steps s event applied t → IsCovered t
steps_keep_cover s t event true c h = keeps_cover s t event c h
steps_keep_cover s t event false c h = subst IsCovered (sym h.1) c

runs_keep_cover : (s t : BookState) (events : List (Event × Bool)) → IsCovered s → Runs s events t → IsCovered t
runs_keep_cover s t [] c h = subst IsCovered (sym h) c
runs_keep_cover s t (event ∷ events) c h = runs_keep_cover h.0 t events (steps_keep_cover s h.0 event.0 event.1 c h.1) h.2

pub run_covered : (job : Job) (s t : BookState) (events : List (Event × Bool)) → IsOpening job s → Runs s events t → IsCovered t
run_covered job s t events o h = runs_keep_cover s t events (opening_covered job s o) h

pub run_remains : (job : Job) (s t : BookState) (events : List (Event × Bool)) → IsOpening job s → Runs s events t → AllRemain t
run_remains job s t events o h = all_remain t (run_covered job s t events o h)

pub run_later : (s t : BookState) (events : List (Event × Bool)) → Runs s events t → IsLater s t
run_later s t [] h = subst (IsLater s) (sym h) (later_refl s)
run_later s t (event ∷ events) h = later_trans s h.0 t (steps_later s h.0 event.0 event.1 h.1) (run_later h.0 t events h.2)

half_not_closed : (area : IntervalBox) (kept : Bool) → cond {A = ℕ} (is_closed (half_node area kept).phase) 1 0 ≡ 0
half_not_closed area true = refl
half_not_closed area false = refl

half_not_split : (area : IntervalBox) (kept : Bool) → cond {A = ℕ} (is_split (half_node area kept).phase) 1 0 ≡ 0
half_not_split area true = refl
half_not_split area false = refl

freed_closed : (p : Phase) → cond {A = ℕ} (is_closed (freed_phase p)) 1 0 ≡ cond (is_closed p) 1 0
freed_closed Open = refl
freed_closed Taken = refl
freed_closed (Split low high i at) = refl
freed_closed (Closed leaf) = refl

freed_split : (p : Phase) → cond {A = ℕ} (is_split (freed_phase p)) 1 0 ≡ cond (is_split p) 1 0
freed_split Open = refl
freed_split Taken = refl
freed_split (Split low high i at) = refl
freed_split (Closed leaf) = refl

-- how many nodes one event closes
pub closed_after : (s t : BookState) (event : Event) → Happens s event t → closed_count t ≡ closed_count s + cond (closes event) 1 0
closed_after s t (take_node n) h = rw h.1 (let e = marked_sum (λ a p. cond (is_closed p) 1 0) s.nodes n Open Taken h.0 in omega arith)
closed_after s t (improve plan amount) h = rw h.2 (omega arith)
closed_after s t (close_node n leaf) h = rw h.2 (let e = marked_sum (λ a p. cond (is_closed p) 1 0) s.nodes n Taken (Closed leaf) h.0 in omega arith)
closed_after s t (split_node n i at keep_low) h =
    rw h.2 (let e = divided_sum (λ a p. cond (is_closed p) 1 0) s n i at keep_low h.0 in
    omega (arith, half_not_closed (low_half (area_of s.nodes n) i at) keep_low, half_not_closed (high_half (area_of s.nodes n) i at) (not keep_low)))
closed_after s t (give_back n) h = rw h.1 (let e = marked_sum (λ a p. cond (is_closed p) 1 0) s.nodes n Taken Open h.0 in omega arith)
closed_after s t release h = rw h (let e = freed_sum (λ (x : Node). cond (is_closed x.phase) 1 0) (λ x. freed_closed x.phase) s.nodes in omega arith)

-- how many nodes one event splits
pub split_after : (s t : BookState) (event : Event) → Happens s event t → split_count t ≡ split_count s + cond (splits event) 1 0
split_after s t (take_node n) h = rw h.1 (let e = marked_sum (λ a p. cond (is_split p) 1 0) s.nodes n Open Taken h.0 in omega arith)
split_after s t (improve plan amount) h = rw h.2 (omega arith)
split_after s t (close_node n leaf) h = rw h.2 (let e = marked_sum (λ a p. cond (is_split p) 1 0) s.nodes n Taken (Closed leaf) h.0 in omega arith)
split_after s t (split_node n i at keep_low) h =
    rw h.2 (let e = divided_sum (λ a p. cond (is_split p) 1 0) s n i at keep_low h.0 in
    omega (arith, half_not_split (low_half (area_of s.nodes n) i at) keep_low, half_not_split (high_half (area_of s.nodes n) i at) (not keep_low)))
split_after s t (give_back n) h = rw h.1 (let e = marked_sum (λ a p. cond (is_split p) 1 0) s.nodes n Taken Open h.0 in omega arith)
split_after s t release h = rw h (let e = freed_sum (λ (x : Node). cond (is_split x.phase) 1 0) (λ x. freed_split x.phase) s.nodes in omega arith)

closed_by : (s t : BookState) (event : Event) (applied : Bool) → Steps s event applied t → closed_count t ≡ closed_count s + cond (applied && closes event) 1 0
closed_by s t event true h = closed_after s t event h
closed_by s t event false h = rw h.1 (omega arith)

split_by : (s t : BookState) (event : Event) (applied : Bool) → Steps s event applied t → split_count t ≡ split_count s + cond (applied && splits event) 1 0
split_by s t event true h = split_after s t event h
split_by s t event false h = rw h.1 (omega arith)

closings_add : (s t : BookState) (events : List (Event × Bool)) → Runs s events t → closed_count t ≡ closed_count s + closings events
closings_add s t [] h = rw h (omega arith)
closings_add s t (event ∷ events) h =
    let first = closed_by s h.0 event.0 event.1 h.1 in
    let rest = closings_add h.0 t events h.2 in
    omega (arith, sum_by-cons (λ (x : Event × Bool). cond (x.1 && closes x.0) 1 0) event events)

splittings_add : (s t : BookState) (events : List (Event × Bool)) → Runs s events t → split_count t ≡ split_count s + splittings events
splittings_add s t [] h = rw h (omega arith)
splittings_add s t (event ∷ events) h =
    let first = split_by s h.0 event.0 event.1 h.1 in
    let rest = splittings_add h.0 t events h.2 in
    omega (arith, sum_by-cons (λ (x : Event × Bool). cond (x.1 && splits x.0) 1 0) event events)

pub run_closings : (job : Job) (s t : BookState) (events : List (Event × Bool)) → IsOpening job s → Runs s events t → closings events ≡ closed_count t
run_closings job s t events o h =
    let none : closed_count s ≡ 0 = rw o.nodes refl in
    omega (arith, closings_add s t events h)

pub run_splittings : (job : Job) (s t : BookState) (events : List (Event × Bool)) → IsOpening job s → Runs s events t → splittings events ≡ split_count t
run_splittings job s t events o h =
    let none : split_count s ≡ 0 = rw o.nodes refl in
    omega (arith, splittings_add s t events h)

pub run_bounded : (job : Job) (root : IntervalBox) (s t : BookState) (events : List (Event × Bool)) → IsRoot job root → IsOpening job s → Runs s events t → length t.nodes + 1 ≤ 2 * size job root
run_bounded job root s t events is_root o h =
    let c = run_covered job s t events o h in
    let e = (run_later s t events h).job ∙ o.job_is in
    let first = root_is_one job (area_of t.nodes 0) root (subst (λ (j : Job). IsRoot j (area_of t.nodes 0)) e c.root) is_root in
    let same : size t.job (area_of t.nodes 0) ≡ size job root = ap (λ (j : Job). size j (area_of t.nodes 0)) e ∙ ap (size job) first in
    omega (arith, c.bounded)
