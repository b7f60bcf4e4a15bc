use Rattle.std.proofs.Common.{sym, subst}
use Rattle.std.specs.List.{All}
use Rattle.interval_box.specs.Ranges.{IsBoxOf}
use Rattle.tree_checker.proofs.Judging.{rest_of_all}
use Rattle.tree_checker.proofs.judge.Judge.after_leaf.Goals as goal

pub invariant_of-self-clause-of_job : goal.invariant_of-self-clause-of_job
invariant_of-self-clause-of_job c =
    let job = c.args.self.now.job.now in
    subst (All (IsBoxOf job)) (sym c.drop_first.ensures) (rest_of_all (IsBoxOf job) c.args.self.now.boxes c.args.self.now.of_job)
