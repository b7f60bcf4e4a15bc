use Rattle.interval_box.proofs.Root.{IsBegun}
use Rattle.interval_box.proofs.boxes.IntervalBox.root.Given as goal

abbrev pub invariant-loop-i : goal.invariant-loop-i
invariant-loop-i l = IsBegun l.job l.area l.i
