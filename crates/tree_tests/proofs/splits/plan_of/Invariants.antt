use Rattle.tqd_instance.specs.Plan.{IsSizedFor}
use Rattle.tree_tests.proofs.splits.plan_of.Given as goal

abbrev pub invariant-loop-k : goal.invariant-loop-k
invariant-loop-k g l = IsSizedFor l.job l.plan
