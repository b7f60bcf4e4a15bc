use Rattle.std.proofs.Common.{List, ◌≡◌, ◌++◌, ◌+◌, ◌-◌, take, drop, length, sym, subst, ap, ◌∙◌, refl}
use Rattle.search_book.specs.declared.node.Node.{Node}
use Rattle.search_book.specs.declared.node.Phase.TheVariants.{Open, Taken}
use Rattle.search_book.specs.Nodes.{HasPhase, with_phase}
use Rattle.search_book.specs.BookState.{BookState}
use Rattle.search_book.specs.Events.{marked, take_node, Happens}
use Rattle.search_book.specs.Counts.{due_size}
use Rattle.search_book.specs.Kept.{IsKept}
use Rattle.search_book.proofs.Keeps.{vec_marked, kept_taken}
use Rattle.search_book.proofs.Dues.{due_falls}
use Rattle.search_book.proofs.Takes.{book_takes}
use Rattle.search_book.proofs.book.Book.take_open.Goals as goal

-- the book as it was, and as it is now
abbrev was : goal.After-self-3-1 → BookState
was c = record { job = c.self.inside.job.now; nodes = c.self.inside.nodes.items; best = c.self.inside.best }

applies : (c : goal.After-self-3-1) → Happens (was c) (take_node c.args.n) (marked (was c) c.args.n Taken)
applies c = (subst (λ (x : BookState). HasPhase x.nodes c.args.n Open) (sym c.self.view_is) c.requires, refl)

nodes_are : (c : goal.After-self-3-1)
    → take c.self.inside.nodes.len (c.mark.new.nodes ++ drop (length c.mark.new.nodes) c.self.inside.nodes.items)
    ≡ with_phase c.self.inside.nodes.items c.args.n Taken
nodes_are c =
    vec_marked c.self.inside.nodes.items c.deref_mut.result.now c.mark.new.nodes c.self.inside.nodes.len c.args.n Taken
    c.deref_mut.ensures.value c.deref_mut.ensures.len c.mark.ensures

pub invariant_of-self : goal.invariant_of-self
invariant_of-self c =
    subst (λ (xs : List Node). IsKept (record (was c) { nodes = xs }) (c.self.inside.open_nodes - 1) (c.self.inside.taken_nodes + 1) c.self.inside.first_open)
    (sym (nodes_are c))
    (kept_taken (was c) c.args.n c.self.inside.open_nodes c.self.inside.taken_nodes c.self.inside.first_open c.self.invariant (applies c).0)

pub returns-clause-due : goal.returns-clause-due
returns-clause-due c =
    ap (λ (xs : List Node). due_size (record (was c) { nodes = xs })) (nodes_are c)
    ∙ (due_falls (was c) (marked (was c) c.args.n Taken) (take_node c.args.n) c.self.invariant.covered (applies c) ∙ ap due_size c.self.view_is)

pub returns-clause-takes : goal.returns-clause-takes
returns-clause-takes c = book_takes (was c) c.args.self.now _ _ (take_node c.args.n) (applies c) c.self.view_is (nodes_are c)
