use Rattle.std.proofs.Common.{◌++◌, take, sym, ◌∙◌, subst}
use Rattle.tree_checker.specs.Run.{job_of, IsAt, KeepsProgress}
use Rattle.tree_checker.proofs.Bytewise.{piece_ends, piece_kept}
use Rattle.tree_checker.proofs.run.CheckRun.read.Goals as goal

pub returns-in-Some-clause-at : goal.returns-in-Some-clause-at
unfolding job_of
returns-in-Some-clause-at c = λ lines line phase k whole.
    let job = c.args.self.now.judge.job.now in
    let piece = c.args.piece.now in
    let at = c.in-Some.at in
    subst (IsAt c.end_line.new.self) (sym (piece_ends job lines line phase piece at whole (sym c.line_end.ensures.value ∙ c.in-Some.is)))
    (c.end_line.ensures.at lines (line ++ take at piece) phase (k.0, c.add.ensures line k.1, k.2))

pub returns-in-None-clause-at : goal.returns-in-None-clause-at
unfolding job_of
returns-in-None-clause-at c = λ lines line phase k whole.
    let run = c.args.self.now in
    let job = run.judge.job.now in
    let piece = c.args.piece.now in
    subst (KeepsProgress job run.lines c.add-in-None.new.self run.judge.due run.judge.plan run.judge.boxes run.judge.slots) (sym (piece_kept job lines line phase piece whole (sym c.line_end.ensures.value ∙ c.in-None.is)))
    (k.0, c.add-in-None.ensures line k.1, k.2)
