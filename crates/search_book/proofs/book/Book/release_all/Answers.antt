use Rattle.std.proofs.Common.{sym, subst, ap, refl, ◌∙◌, ◌+◌}
use Rattle.search_book.specs.BookState.{BookState}
use Rattle.search_book.specs.Events.{release}
use Rattle.search_book.specs.Counts.{due_size}
use Rattle.search_book.specs.Kept.{IsKept}
use Rattle.search_book.proofs.Keeps.{vec_freed, kept_released}
use Rattle.search_book.proofs.Dues.{due_released}
use Rattle.search_book.proofs.Takes.{book_takes}
use Rattle.search_book.proofs.book.Book.release_all.Goals as goal

pub invariant_of-self : goal.invariant_of-self
invariant_of-self c =
    let s : BookState = record { job = c.self.inside.job.now; nodes = c.self.inside.nodes.items; best = c.self.inside.best } in
    let ns = vec_freed c.self.inside.nodes.items c.deref_mut.result.now c.release.new.nodes c.self.inside.nodes.len c.deref_mut.ensures.value c.deref_mut.ensures.len c.release.ensures in
    subst (λ xs. IsKept (record s { nodes = xs }) (c.self.inside.open_nodes + c.self.inside.taken_nodes) 0 0) (sym ns)
    (kept_released s c.self.inside.open_nodes c.self.inside.taken_nodes c.self.inside.first_open c.self.invariant)

pub returns-clause-due : goal.returns-clause-due
returns-clause-due c =
    let s : BookState = record { job = c.self.inside.job.now; nodes = c.self.inside.nodes.items; best = c.self.inside.best } in
    let ns = vec_freed c.self.inside.nodes.items c.deref_mut.result.now c.release.new.nodes c.self.inside.nodes.len c.deref_mut.ensures.value c.deref_mut.ensures.len c.release.ensures in
    ap (λ xs. due_size (record s { nodes = xs })) ns ∙ (due_released s ∙ ap due_size c.self.view_is)

pub returns-clause-takes : goal.returns-clause-takes
returns-clause-takes c =
    let s : BookState = record { job = c.self.inside.job.now; nodes = c.self.inside.nodes.items; best = c.self.inside.best } in
    let ns = vec_freed c.self.inside.nodes.items c.deref_mut.result.now c.release.new.nodes c.self.inside.nodes.len c.deref_mut.ensures.value c.deref_mut.ensures.len c.release.ensures in
    book_takes s c.args.self.now _ _ release refl c.self.view_is ns
