use Rattle.std.proofs.Common.{◌+◌, ◌<◌, length, take, sym, ◌∙◌, subst, arith}
use Rattle.std.proofs.lemmas.List.{length-take-le}
use Rattle.tree_checker.specs.declared.rejection.Why.TheVariants.{Trailing}
use Rattle.tree_checker.specs.Verdict.{stopped}
use Rattle.tree_checker.specs.Run.{job_of, IsAt}
use Rattle.tree_checker.proofs.Runs.{ended_stays, whole_ends}
use Rattle.tree_checker.proofs.run.CheckRun.feed_line.Goals as goal

pub returns-in-Ended-clause-at : goal.returns-in-Ended-clause-at
unfolding job_of
returns-in-Ended-clause-at c = λ progress k.
    let run = c.args.self.now in
    let is = sym c.due.ensures ∙ c.in-Ended.is in
    let bytes = take c.pass_over.result c.args.piece.now in
    subst (IsAt c.pass_over.new.self)
    (sym (ended_stays run.judge.job.now run.lines run.line run.judge.due run.judge.plan run.judge.boxes run.judge.slots progress c.in-Ended.field-0 bytes is k))
    (c.pass_over.ensures.at (stopped c.in-Ended.field-0) is)

pub returns-then-is_whole-clause-at : goal.returns-then-is_whole-clause-at
unfolding job_of
returns-then-is_whole-clause-at c = λ progress k.
    let run = c.args.self.now in
    let passed = c.pass_over-then-is_whole in
    let bytes = take passed.result c.args.piece.now in
    let some : 0 < length bytes = omega (arith, length-take-le passed.result c.args.piece.now (omega (arith, passed.ensures.all)), passed.ensures.all, c.requires.some) in
    subst (IsAt passed.new.self)
    (sym (whole_ends run.judge.job.now run.lines run.line run.judge.due run.judge.plan run.judge.boxes run.judge.slots progress bytes (sym c.is_whole.ensures ∙ c.if-is_whole.true) k some))
    (passed.ensures.at (stopped (record { line = run.lines + 1; why = Trailing })) c.end.ensures.due)
