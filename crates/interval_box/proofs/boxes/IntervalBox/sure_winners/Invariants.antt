use Rattle.std.proofs.Common.{◌≡◌, ◌≤◌}
use Rattle.tqd_base.specs.Sum.{sum_to}
use Rattle.interval_box.specs.Winners.{must_win}
use Rattle.interval_box.proofs.boxes.IntervalBox.sure_winners.Given as goal

abbrev pub invariant-loop-i : goal.invariant-loop-i
invariant-loop-i l = record {
  is_sum : l.number ≡ sum_to l.i (must_win l.self);
  fits : l.number ≤ l.i;
}
