use Rattle.std.proofs.Common.{ℕ, ◌<◌}
use Rattle.tqd_instance.specs.Plan.{units}
use Rattle.interval_box.specs.Ranges.{PicksIn}
use Rattle.interval_box.proofs.boxes.IntervalBox.holds.Given as goal

abbrev pub invariant-loop-i : goal.invariant-loop-i
invariant-loop-i l = (i : ℕ) → i < l.i → PicksIn l.job l.self (units l.plan) i
