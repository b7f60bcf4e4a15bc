-- No feasible purchase is lost in a covered state.
use Rattle.std.proofs.Common.{ℕ, zero, suc, ◌≡◌, ◌+◌, ◌<◌, ◌≤◌, length, Option, Some, None, sym, refl, subst, inl, inr, arith}
use Rattle.std.specs.Prelude.{IfSome, IsSomeAnd, MatchOption, option_map}
use Rattle.tqd_instance.specs.declared.job.Job.{Job}
use Rattle.tqd_instance.specs.declared.plan.Plan.{Plan}
use Rattle.tqd_instance.specs.Plan.{units}
use Rattle.tqd_instance.specs.Purchase.{Purchase}
use Rattle.tqd_instance.specs.Feasible.{Feasible}
use Rattle.tqd_instance.specs.Cost.{cost}
use Rattle.tqd_instance.specs.Least.{Least, HasNoPurchase}
use Rattle.interval_box.specs.declared.boxes.IntervalBox.{IntervalBox}
use Rattle.interval_box.specs.Ranges.{IsIn}
use Rattle.interval_box.proofs.Split.{in_one_half}
use Rattle.interval_box.proofs.Root.{root_has}
use Rattle.bound_tree.specs.declared.leaf.Leaf.{Leaf}
use Rattle.bound_tree.specs.declared.leaf.Leaf.TheVariants.{Bound, Empty, Winners}
use Rattle.bound_tree.specs.Kills.{Shows}
use Rattle.bound_tree.proofs.Soundness.{sound}
use Rattle.search_book.specs.declared.node.Phase.{Phase}
use Rattle.search_book.specs.declared.node.Phase.TheVariants.{Open, Taken, Split, Closed}
use Rattle.search_book.specs.Nodes.{area_of, phase_of, IsWaiting}
use Rattle.search_book.specs.BookState.{BookState, best_cost}
use Rattle.search_book.specs.Events.{IsPlanAt}
use Rattle.search_book.specs.Covered.{PhaseHolds, IsCovered, Remains, AllRemain}
use Rattle.search_book.specs.Answers.{IsSettled, Decides}

-- a feasible purchase in a box that a leaf kills costs no less than the best plan
costs_no_less : (job : Job) (area : IntervalBox) (best : Option ℕ) (leaf : Leaf) (x : Purchase) → Feasible job x → IsIn job area x → Shows job area best leaf → IsSomeAnd best (λ c. c ≤ cost job x)
costs_no_less job area None (Bound row) x f inside shows = absurd shows
costs_no_less job area (Some c) (Bound row) x f inside shows = shows x f inside
costs_no_less job area best (Empty row) x f inside shows = absurd (shows x f inside)
costs_no_less job area best Winners x f inside shows = absurd (shows x f inside)

-- a purchase in the box of a node remains where those in the boxes of later nodes do
remains_at : (s : BookState) (x : Purchase) (n : ℕ) (p : Phase) → IsCovered s → Feasible s.job x → n < length s.nodes → IsIn s.job (area_of s.nodes n) x
    → ((k : ℕ) → n < k → k < length s.nodes → IsIn s.job (area_of s.nodes k) x → Remains s x) → phase_of s.nodes n ≡ p → PhaseHolds s n p → Remains s x
remains_at s x n Open c f known inside next e h = inl (n, known, subst IsWaiting (sym e) tt, inside)
remains_at s x n Taken c f known inside next e h = inl (n, known, subst IsWaiting (sym e) tt, inside)
remains_at s x n (Split low high i at) c f known inside next e h =
    elim ((in_one_half s.job (area_of s.nodes n) i at x (c.boxes n known) h.proper).either.0 inside) [
      | inl below ↦ next low h.low_later h.low_known (subst (λ (a : IntervalBox). IsIn s.job a x) (sym h.low_area) below)
      | inr above ↦ next high h.high_later h.high_known (subst (λ (a : IntervalBox). IsIn s.job a x) (sym h.high_area) above)
    ]
remains_at s x n (Closed leaf) c f known inside next e h = inr (costs_no_less s.job (area_of s.nodes n) (best_cost s) leaf x f inside (sound s.job (area_of s.nodes n) (best_cost s) leaf h))

remains_from : (s : BookState) (x : Purchase) (left n : ℕ) → IsCovered s → Feasible s.job x → length s.nodes ≤ n + left → n < length s.nodes → IsIn s.job (area_of s.nodes n) x → Remains s x
remains_from s x zero n c f all known inside = absurd (omega arith)
remains_from s x (suc left) n c f all known inside =
    remains_at s x n (phase_of s.nodes n) c f known inside (λ k later there within. remains_from s x left k c f (omega arith) there within) refl (c.phases n known)

pub all_remain : (s : BookState) → IsCovered s → AllRemain s
all_remain s c = λ x f. remains_from s x (length s.nodes) 0 c f (omega arith) c.some (root_has s.job (area_of s.nodes 0) x c.root f)

-- once no node waits, every feasible purchase costs no less than the best plan
pub none_less : (s : BookState) → IsCovered s → IsSettled s → (x : Purchase) → Feasible s.job x → IsSomeAnd (best_cost s) (λ c. c ≤ cost s.job x)
none_less s c settled x f = elim (all_remain s c x f) [ inl waits ↦ absurd (settled waits.0 waits.1 waits.2) | inr less ↦ less ]

decides : (job : Job) (best : Option (Plan × ℕ)) → IfSome best (λ b. IsPlanAt job b.0 b.1)
    → ((x : Purchase) → Feasible job x → IsSomeAnd (option_map (λ b. b.1) best) (λ c. c ≤ cost job x))
    → MatchOption best (HasNoPurchase job) (λ b. Least job (units b.0) × (b.1 ≡ cost job (units b.0)))
decides job None is_plan less = λ x f. less x f
decides job (Some b) is_plan less =
    (record { feasible = is_plan.costs.feasible; least = λ y f. (let h = less y f in let e = is_plan.costs.is_cost in omega arith) }, is_plan.costs.is_cost)

pub settled_decides : (s : BookState) → IsCovered s → IsSettled s → Decides s
settled_decides s c settled = decides s.job s.best c.best (none_less s c settled)
