use Rattle.tree_checker.proofs.Judging.{can_split, boxes_split}
use Rattle.tree_checker.proofs.judge.Judge.after_split.Goals as goal

pub split-requires : goal.split-requires
split-requires c = record {
  some = can_split c.args.self.now.job.now c.args.self.now.boxes c.args.area.now c.args.supplier c.args.at c.in-Some.i c.in-Some.s c.requires c.in-Some.ensures;
}

pub invariant_of-self-clause-of_job : goal.invariant_of-self-clause-of_job
invariant_of-self-clause-of_job c =
    boxes_split c.args.self.now.job.now c.args.self.now.boxes c.split.new.self c.args.area.now c.args.supplier c.args.at c.in-Some.i c.in-Some.s
    c.requires c.in-Some.ensures c.split.ensures c.args.self.now.of_job
