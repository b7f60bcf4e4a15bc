use Rattle.interval_box.proofs.Singles.{IsPickedTo}
use Rattle.interval_box.proofs.boxes.IntervalBox.of_picks.Given as goal

abbrev pub invariant-loop-i : goal.invariant-loop-i
invariant-loop-i l = IsPickedTo l.area l.picks l.i
