-- The text, the tree and the answer, one after the other.
use Rattle.std.proofs.lemmas.Result.{err_from_is_err_and}
use Rattle.tqd_top.proofs.Solutions.{solved_lost, solved_saved, solves_nothing}
use Rattle.tqd_top.proofs.solve.solve_job.Goals as goal

pub returns-in_err-done : goal.returns-in_err-done
returns-in_err-done g c =
    let p = err_from_is_err_and c.from_residual.result c.from_residual.ensures.1 in
    λ from f. rw (p.1, p.2) (solves_nothing _ from _ _)

pub solution_text-requires-clause-solution : goal.solution_text-requires-clause-solution
solution_text-requires-clause-solution g c = (c.requires.finished _ c.in_ok-done.was).solution

pub save_given-requires-clause-finished : goal.save_given-requires-clause-finished
save_given-requires-clause-finished g c = c.requires.finished _ c.in_ok-done.was

pub returns-in_err-text : goal.returns-in_err-text
returns-in_err-text g c =
    let p = err_from_is_err_and c.from_residual-in_err-text.result c.from_residual-in_err-text.ensures.1 in
    λ from f. rw (p.1, p.2) (solves_nothing _ from _ _)

pub returns-in_err-save_given : goal.returns-in_err-save_given
returns-in_err-save_given g c =
    let p = err_from_is_err_and c.from_residual-in_err-save_given.result c.from_residual-in_err-save_given.ensures.1 in
    λ from f. rw (p.1, p.2) (solved_lost _ from _ _ _ _ _ (f _ c.in_ok-done.was) (c.in_err-save_given.ensures (f _ c.in_ok-done.was).finished))

pub returns : goal.returns
returns g c = λ from f. solved_saved _ from _ _ _ _ _ _ _ (f _ c.in_ok-done.was) c.solution_answer.ensures c.in_ok-text.ensures
    (c.in_ok-save_given.ensures (f _ c.in_ok-done.was).finished)
