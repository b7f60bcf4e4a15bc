use Rattle.tqd_instance.specs.Plan.{IsSizedFor}
use Rattle.report_tests.proofs.answers.plan_of.Given as goal

abbrev pub invariant-loop-i : goal.invariant-loop-i
invariant-loop-i g l = IsSizedFor l.job l.plan
