use Rattle.std.proofs.Common.{◌<◌, arith, sym, subst}
use Rattle.search_run.specs.declared.thought.Stage.{Stage}
use Rattle.search_run.specs.Stages.{rank}
use Rattle.search_run.proofs.Thoughts.{at_stage}
use Rattle.search_run.proofs.think.think.Goals as goal

pub returns-in-Weighted-clause-thought : goal.returns-in-Weighted-clause-thought
returns-in-Weighted-clause-thought c =
    at_stage c.args.job.now c.args.task.now.area c.args.task.now.stage c.try_weighted.result
    (subst (λ (s : Stage). 0 < rank s) (sym c.in-Weighted.is) (omega arith)) c.try_weighted.ensures.thought

pub returns-in-Least-clause-thought : goal.returns-in-Least-clause-thought
returns-in-Least-clause-thought c =
    at_stage c.args.job.now c.args.task.now.area c.args.task.now.stage c.try_least.result
    (subst (λ (s : Stage). 0 < rank s) (sym c.in-Least.is) (omega arith)) c.try_least.ensures.thought
