use Rattle.tqd_instance.specs.Plan.{units}
use Rattle.branching.proofs.Greatest.{IsGreatestTo}
use Rattle.branching.proofs.choice.greatest_gap.Given as goal

abbrev pub invariant-loop-i : goal.invariant-loop-i
invariant-loop-i l = IsGreatestTo l.job l.area (units l.plan) l.i l.chosen l.greatest
