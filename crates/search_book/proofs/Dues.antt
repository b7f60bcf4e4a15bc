-- The size that is due, after an event.
use Rattle.std.proofs.Common.{ℕ, ◌≡◌, ◌+◌, ◌-◌, ◌*◌, Bool, not, Option, Some, refl, arith}
use Rattle.tqd_instance.specs.declared.plan.Plan.{Plan}
use Rattle.interval_box.specs.Halves.{IsProper, low_half, high_half}
use Rattle.interval_box.specs.Size.{size}
use Rattle.interval_box.proofs.Split.{low_is_box, high_is_box, sizes_add, size_some}
use Rattle.search_book.specs.declared.node.Node.{Node}
use Rattle.search_book.specs.declared.node.Phase.{Phase}
use Rattle.search_book.specs.declared.node.Phase.TheVariants.{Open, Taken, Closed}
use Rattle.search_book.specs.Nodes.{area_of, HasPhase}
use Rattle.search_book.specs.BookState.{BookState}
use Rattle.search_book.specs.Events.{Event, take_node, improve, close_node, split_node, give_back, release, marked, divided, released, Happens}
use Rattle.search_book.specs.Counts.{if_waiting, due_size, DueAfter}
use Rattle.search_book.specs.Covered.{IsCovered}
use Rattle.search_book.proofs.Marks.{marked_sum, freed_sum}
use Rattle.search_book.proofs.Covers.{divided_sum, half_waiting, freed_waiting}

pub due_marked : (s : BookState) (n : ℕ) (q p : Phase) → HasPhase s.nodes n q
    → due_size (marked s n p) + if_waiting q (2 * size s.job (area_of s.nodes n) - 1) ≡ due_size s + if_waiting p (2 * size s.job (area_of s.nodes n) - 1)
unfolding due_size
due_marked s n q p at = marked_sum (λ a r. if_waiting r (2 * size s.job a - 1)) s.nodes n q p at

pub due_divided : (s : BookState) (n i at : ℕ) (keep_low : Bool) → IsCovered s → HasPhase s.nodes n Taken → IsProper (area_of s.nodes n) i at
    → due_size (divided s n i at keep_low) + 1 ≡ due_size s
unfolding due_size
due_divided s n i at keep_low c taken proper =
    let area = area_of s.nodes n in
    let box = c.boxes n taken.known in
    let all = divided_sum (λ a p. if_waiting p (2 * size s.job a - 1)) s n i at keep_low taken in
    let l = half_waiting (low_half area i at) keep_low (2 * size s.job (low_half area i at) - 1) in
    let h = half_waiting (high_half area i at) (not keep_low) (2 * size s.job (high_half area i at) - 1) in
    omega (arith, sizes_add s.job area i at box proper, size_some s.job (low_half area i at) (low_is_box s.job area i at box proper), size_some s.job (high_half area i at) (high_is_box s.job area i at box proper))

pub due_released : (s : BookState) → due_size (released s) ≡ due_size s
unfolding due_size
due_released s = freed_sum (λ (x : Node). if_waiting x.phase (2 * size s.job x.area - 1)) (λ x. freed_waiting x.phase (2 * size s.job x.area - 1)) s.nodes

pub due_improved : (s : BookState) (best : Option (Plan × ℕ)) → due_size (record s { best = best }) ≡ due_size s
unfolding due_size
due_improved s best = refl

pub due_falls : (s t : BookState) (event : Event) → IsCovered s → Happens s event t → DueAfter event (due_size s) (due_size t)
due_falls s t (take_node n) c h = rw h.1 (let e = due_marked s n Open Taken h.0 in omega arith)
due_falls s t (improve plan amount) c h = rw h.2 (due_improved s (Some (plan, amount)))
due_falls s t (close_node n leaf) c h = rw h.2 (let e = due_marked s n Taken (Closed leaf) h.0 in omega (arith, size_some s.job (area_of s.nodes n) (c.boxes n h.0.known)))
due_falls s t (split_node n i at keep_low) c h = rw h.2 (due_divided s n i at keep_low c h.0 h.1)
due_falls s t (give_back n) c h = rw h.1 (let e = due_marked s n Taken Open h.0 in omega arith)
due_falls s t release c h = rw h (due_released s)
