use Rattle.std.proofs.Common.{None, subst, sym, ap, ◌∙◌, ◌≡◌, arith}
use Rattle.tqd_instance.specs.Least.{HasNoPurchase}
use Rattle.search_book.specs.BookState.{BookState, best_cost}
use Rattle.search_book.specs.Answers.{IsUnsettled, HasLeast}
use Rattle.search_book.specs.Kept.{IsKept}
use Rattle.search_book.proofs.Keeps.{unsettled_open, unsettled_taken, has_least, has_none}
use Rattle.search_book.proofs.book.Book.verdict.Goals as goal
use Rattle.search_book.proofs.book.Book.verdict.Goals.{then-self-ne0-via-then-self-ne0, then-self-ne0-via-else-self-ne0+then-self-ne0-2}

pub returns-then-self-ne0-clause-settled : goal.returns-then-self-ne0-clause-settled
returns-then-self-ne0-clause-settled c =
    let s : BookState = record { job = c.self.inside.job.now; nodes = c.self.inside.nodes.items; best = c.self.inside.best } in
    subst IsUnsettled c.self.view_is (elim c.then-self-ne0.branch [
      | then-self-ne0-via-then-self-ne0 w ↦ unsettled_open s c.self.inside.open_nodes c.self.inside.taken_nodes c.self.inside.first_open c.self.invariant (let some = w.if-self-ne0.true in omega arith)
      | then-self-ne0-via-else-self-ne0+then-self-ne0-2 w ↦ unsettled_taken s c.self.inside.open_nodes c.self.inside.taken_nodes c.self.inside.first_open c.self.invariant (let some = w.if-self-ne0-2.true in omega arith)
    ])

pub returns-in-Some-clause-verdict : goal.returns-in-Some-clause-verdict
returns-in-Some-clause-verdict c =
    let s : BookState = record { job = c.self.inside.job.now; nodes = c.self.inside.nodes.items; best = c.self.inside.best } in
    let kept = subst (λ n. IsKept s 0 n c.self.inside.first_open) c.if-self-ne0-2.false (subst (λ n. IsKept s n c.self.inside.taken_nodes c.self.inside.first_open) c.if-self-ne0.false c.self.invariant) in
    subst (λ (x : BookState). HasLeast x c.in-Some.cost) c.self.view_is (has_least s c.self.inside.first_open c.in-Some.cost kept (c.in-Some.ensures ∙ sym (ap best_cost c.self.view_is)))

pub returns-in-None-clause-verdict : goal.returns-in-None-clause-verdict
returns-in-None-clause-verdict c =
    let s : BookState = record { job = c.self.inside.job.now; nodes = c.self.inside.nodes.items; best = c.self.inside.best } in
    let kept = subst (λ n. IsKept s 0 n c.self.inside.first_open) c.if-self-ne0-2.false (subst (λ n. IsKept s n c.self.inside.taken_nodes c.self.inside.first_open) c.if-self-ne0.false c.self.invariant) in
    subst (λ (x : BookState). (x.best ≡ None) × HasNoPurchase x.job) c.self.view_is (has_none s c.self.inside.first_open kept (c.in-None.ensures ∙ sym (ap best_cost c.self.view_is)))
