use Rattle.std.proofs.Common.{ℕ, List, ◌≡◌, ◌<◌, length, sym, subst, ap, ◌∙◌, arith}
use Rattle.search_book.specs.declared.node.Node.{Node}
use Rattle.search_book.specs.Nodes.{area_of, phase_of}
use Rattle.search_book.specs.BookState.{BookState}
use Rattle.search_book.specs.Counts.{names}
use Rattle.search_book.specs.SplitAbove.{Names}
use Rattle.search_book.proofs.BoxAbove.{above_has_place, none_above, root_is}
use Rattle.search_book.proofs.book.Book.+area.Goals as goal

pub of-requires-clause-supplier : goal.of-requires-clause-supplier
of-requires-clause-supplier t c =
    let s : BookState = record { job = c.self.inside.job.now; nodes = c.self.inside.nodes.items; best = c.self.inside.best } in
    let known = subst (λ (x : BookState). c.args.n < length x.nodes) (sym c.self.view_is) c.requires in
    let above = c.in-Some-split_above.above in
    let half = c.in-Some-split_above.half in
    let named = subst (λ (xs : List Node). Names (phase_of xs above) c.args.n half) c.deref.ensures.value c.in-Some-split_above.ensures.1 in
    above_has_place s c.args.n above half c.self.invariant.covered (omega (arith, c.in-Some-split_above.ensures.0)) named

pub returns-in-None-clause-value : goal.returns-in-None-clause-value
returns-in-None-clause-value t c =
    let s : BookState = record { job = c.self.inside.job.now; nodes = c.self.inside.nodes.items; best = c.self.inside.best } in
    let known = subst (λ (x : BookState). c.args.n < length x.nodes) (sym c.self.view_is) c.requires in
    let none = subst (λ (xs : List Node). (k : ℕ) → k < c.args.n → names c.args.n (phase_of xs k) ≡ 0) c.deref.ensures.value c.in-None.ensures in
    let first = none_above s c.args.n c.self.invariant.covered known none in
    sym (root_is s c.args.n c.root.result c.self.invariant.covered first c.root.ensures.whole)
    ∙ ap (λ (x : BookState). area_of x.nodes c.args.n) c.self.view_is
