use Rattle.std.proofs.Common.{◌+◌, ◌∙◌}
use Rattle.tree_checker.specs.Run.{Stands, job_of}
use Rattle.tree_checker.specs.Verdict.{verdict, at_first, after_bytes}
use Rattle.tree_checker.specs.Judged.{verdict_by}
use Rattle.tree_checker.proofs.Runs.{verdict_kept}
use Rattle.tree_checker.proofs.run.CheckRun.finish.Goals as goal

pub returns : goal.returns
unfolding Stands verdict job_of
returns c = λ fed stands.
    let run = c.args.self in
    let job = run.judge.job.now in
    c.verdict_by.ensures ∙ (λ j. verdict_by (c.due.ensures j) (c.has_no_box.ensures j) (run.lines + 1))
    ∙ verdict_kept job run.lines run.line run.judge.due run.judge.plan run.judge.boxes run.judge.slots (after_bytes job at_first fed) stands.1
