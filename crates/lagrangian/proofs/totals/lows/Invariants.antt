use Rattle.std.proofs.Common.{◌≡◌, ◌*◌, ◌≤◌}
use Rattle.tqd_base.specs.Sum.{sum_to}
use Rattle.tqd_instance.specs.Job.{low}
use Rattle.interval_box.specs.Ranges.{low_of}
use Rattle.lagrangian.proofs.totals.lows.Given as goal

abbrev pub invariant-loop-i : goal.invariant-loop-i
invariant-loop-i l = record {
  is_sum : l.sum ≡ sum_to l.i (λ i. low l.job i (low_of l.area i));
  fits : l.sum ≤ l.i * 100000000;
}
