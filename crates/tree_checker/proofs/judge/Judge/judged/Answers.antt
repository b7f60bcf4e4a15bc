use Rattle.std.proofs.Common.{Ok}
use Rattle.tqd_instance.specs.declared.standing.Standing.TheVariants.{Feasible}
use Rattle.tree_checker.proofs.Judging.{judged_as, judged_right, judged_wrong, judged_failing}
use Rattle.tree_checker.proofs.judge.Judge.judged.Goals as goal

pub returns-then-said-real-clause-leads : goal.returns-then-said-real-clause-leads
returns-then-said-real-clause-leads c = λ store x same rows.
    let job = c.args.self.now.job.now in
    let after = c.from_root.new.self in
    judged_as job c.args.self.now.plan after.plan after.boxes after.slots store (Ok c.from_root.result) c.args.said x (Feasible c.in-Feasible.real) c.in-Feasible.ensures same
    (judged_right job after.plan after.boxes after.slots store c.from_root.result c.args.said c.in-Feasible.real c.if-said-real.true (c.from_root.ensures.leads store rows))

pub returns-else-said-real-clause-leads : goal.returns-else-said-real-clause-leads
returns-else-said-real-clause-leads c = λ store x same rows.
    let self = c.args.self.now in
    judged_as self.job.now self.plan self.plan self.boxes self.slots store c.rejected.result c.args.said x (Feasible c.in-Feasible.real) c.in-Feasible.ensures same
    (judged_wrong self.job.now self.plan self.boxes self.slots store c.rejected.result c.args.said c.in-Feasible.real c.if-said-real.false c.rejected.ensures)

pub returns-in_default-clause-leads : goal.returns-in_default-clause-leads
returns-in_default-clause-leads c = λ store x same rows.
    let self = c.args.self.now in
    judged_as self.job.now self.plan self.plan self.boxes self.slots store c.rejected-in_default.result c.args.said x c.standing.result c.standing.ensures same
    (judged_failing self.job.now self.plan self.boxes self.slots store c.rejected-in_default.result c.args.said c.standing.result c.in_default.not-Feasible c.rejected-in_default.ensures)
