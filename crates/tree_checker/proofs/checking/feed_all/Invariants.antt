use Rattle.std.proofs.Common.{◌≡◌, ◌-◌, ◌≤◌}
use Rattle.tqd_base.specs.declared.limits.TheConstants.{TREE_MAX}
use Rattle.tree_checker.specs.Run.{job_of, taken_by}
use Rattle.tree_checker.proofs.Feeding.{IsFedFrom}
use Rattle.tree_checker.proofs.checking.feed_all.Given as goal

abbrev pub invariant-loop-run : goal.invariant-loop-run
invariant-loop-run g l = record {
  fed : IsFedFrom (g.D.Desk.state l.initial.desk) (g.D.Desk.state l.desk) l.slot l.run;
  job : job_of l.run ≡ job_of l.initial.run;
  within : taken_by l.run ≤ TREE_MAX;
}

abbrev pub decreases-loop-run : goal.decreases-loop-run
decreases-loop-run g l = TREE_MAX - taken_by l.run
