use Rattle.std.proofs.Common.{◌≤◌, ◌<◌, ◌-◌}
use Rattle.break_even.specs.LeastCut.{Gains, NoneGainsTo}
use Rattle.break_even.proofs.cut.halved.Given as goal

abbrev pub invariant-loop-vain : goal.invariant-loop-vain
invariant-loop-vain g l = record {
  below : l.vain < l.cut;
  within : l.cut ≤ 1000;
  gains : Gains l.job l.i l.before l.cut l.after;
  none : NoneGainsTo l.job l.i l.before l.vain;
}

abbrev pub decreases-loop-vain : goal.decreases-loop-vain
decreases-loop-vain g l = l.cut - l.vain
