use Rattle.std.proofs.Common.{Option, ℕ, ◌<◌, sym, subst, ap, ◌∙◌, Some, refl}
use Rattle.std.specs.Prelude.{IfSome}
use Rattle.search_book.specs.BookState.{BookState}
use Rattle.search_book.specs.Events.{IsPlanAt, IsBelowBest}
use Rattle.search_book.specs.Counts.{due_size}
use Rattle.search_book.proofs.Keeps.{kept_improved}
use Rattle.search_book.proofs.Dues.{due_improved}
use Rattle.search_book.proofs.book.Book.improve.Goals as goal
use Rattle.search_book.proofs.book.Book.improve.Goals.{in-Some+else-best-cost, in_default}

pub invariant_of-self : goal.invariant_of-self
invariant_of-self c =
    let s : BookState = record { job = c.self.inside.job.now; nodes = c.self.inside.nodes.items; best = c.self.inside.best } in
    let below : IsBelowBest c.args.self.now c.args.cost = elim c.match-best.branch [
      | in-Some+else-best-cost w ↦ subst (λ (o : Option ℕ). IfSome o (λ b. c.args.cost < b)) (sym w.in-Some.is ∙ c.best.ensures) w.if-best-cost.false
      | in_default w ↦ subst (λ (o : Option ℕ). IfSome o (λ b. c.args.cost < b)) (sym w.in_default.is ∙ c.best.ensures) tt
    ] in
    let plan : IsPlanAt c.args.self.now.job c.args.plan c.args.cost = record { sized = c.requires.sized; costs = c.requires.costs } in
    kept_improved s c.args.plan c.args.cost c.self.inside.open_nodes c.self.inside.taken_nodes c.self.inside.first_open c.self.invariant
    (subst (λ (x : BookState). IsPlanAt x.job c.args.plan c.args.cost) (sym c.self.view_is) plan, subst (λ (x : BookState). IsBelowBest x c.args.cost) (sym c.self.view_is) below, refl)

pub returns-clause-due : goal.returns-clause-due
returns-clause-due c =
    let s : BookState = record { job = c.self.inside.job.now; nodes = c.self.inside.nodes.items; best = c.self.inside.best } in
    due_improved s (Some (c.args.plan, c.args.cost)) ∙ ap due_size c.self.view_is
