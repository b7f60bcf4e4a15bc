use Rattle.std.proofs.Common.{List, Option, ℕ, ◌≡◌, ◌++◌, ◌-◌, ◌<◌, take, drop, length, sym, subst, ap, ◌∙◌, refl}
use Rattle.interval_box.specs.declared.boxes.IntervalBox.{IntervalBox}
use Rattle.bound_tree.specs.Kills.{Kills}
use Rattle.search_book.specs.declared.node.Node.{Node}
use Rattle.search_book.specs.declared.node.Phase.TheVariants.{Taken, Closed}
use Rattle.search_book.specs.Nodes.{area_of, HasPhase, with_phase}
use Rattle.search_book.specs.BookState.{BookState, best_cost}
use Rattle.search_book.specs.Events.{marked, close_node, Happens}
use Rattle.search_book.specs.Later.{IsLater}
use Rattle.search_book.specs.Counts.{due_size}
use Rattle.search_book.specs.Kept.{IsKept}
use Rattle.search_book.proofs.Keeps.{vec_marked, kept_closed}
use Rattle.search_book.proofs.LaterStates.{happens_later}
use Rattle.search_book.proofs.Dues.{due_falls}
use Rattle.search_book.proofs.Takes.{book_takes}
use Rattle.search_book.proofs.book.Book.close.Goals as goal

-- the book as it was, and as it is once the node is closed
abbrev was : goal.After-self-2-1 → BookState
was c = record { job = c.self.inside.job.now; nodes = c.self.inside.nodes.items; best = c.self.inside.best }

abbrev is_now : goal.After-self-2-1 → BookState
is_now c = marked (was c) c.args.n (Closed c.args.leaf)

-- the leaf kills the box against the best plan
applies : (c : goal.After-self-2-1) → Happens (was c) (close_node c.args.n c.args.leaf) (is_now c)
applies c =
    let s = was c in
    let at = subst (λ (x : BookState). HasPhase x.nodes c.args.n Taken) (sym c.self.view_is) c.requires.taken in
    let area = c.area-area.ensures.value ∙ ap (λ (x : BookState). area_of x.nodes c.args.n) (sym c.self.view_is) in
    let best = c.best-best.ensures ∙ sym (ap best_cost c.self.view_is) in
    let kills = subst (λ (b : Option ℕ). Kills s.job c.area-area.result b c.args.leaf) best (c.if-not-kills.ensures.0 refl) in
    (at, subst (λ (a : IntervalBox). Kills s.job a (best_cost s) c.args.leaf) area kills, refl)

nodes_are : (c : goal.After-self-2-1)
    → take c.self.inside.nodes.len (c.mark.new.nodes ++ drop (length c.mark.new.nodes) c.self.inside.nodes.items)
    ≡ with_phase c.self.inside.nodes.items c.args.n (Closed c.args.leaf)
nodes_are c =
    vec_marked c.self.inside.nodes.items c.deref_mut.result.now c.mark.new.nodes c.self.inside.nodes.len c.args.n (Closed c.args.leaf)
    c.deref_mut.ensures.value c.deref_mut.ensures.len c.mark.ensures

pub invariant_of-self : goal.invariant_of-self
invariant_of-self c =
    subst (λ (xs : List Node). IsKept (record (was c) { nodes = xs }) c.self.inside.open_nodes (c.self.inside.taken_nodes - 1) c.self.inside.first_open)
    (sym (nodes_are c))
    (kept_closed (was c) c.args.n c.args.leaf c.self.inside.open_nodes c.self.inside.taken_nodes c.self.inside.first_open c.self.invariant (applies c))

pub returns-clause-later : goal.returns-clause-later
returns-clause-later c =
    subst (λ (xs : List Node). IsLater c.args.self.now (record (was c) { nodes = xs })) (sym (nodes_are c))
    (subst (λ (x : BookState). IsLater x (is_now c)) c.self.view_is
    (happens_later (was c) (is_now c) (close_node c.args.n c.args.leaf) (applies c)))

pub returns-clause-due : goal.returns-clause-due
returns-clause-due c = λ closed.
    subst (λ (xs : List Node). due_size (record (was c) { nodes = xs }) < due_size c.args.self.now) (sym (nodes_are c))
    (subst (λ (x : BookState). due_size (is_now c) < due_size x) c.self.view_is
    (due_falls (was c) (is_now c) (close_node c.args.n c.args.leaf) c.self.invariant.covered (applies c)))

pub returns-clause-takes : goal.returns-clause-takes
returns-clause-takes c = λ closed.
    book_takes (was c) c.args.self.now _ _ (close_node c.args.n c.args.leaf) (applies c) c.self.view_is (nodes_are c)
