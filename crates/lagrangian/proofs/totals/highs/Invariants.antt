use Rattle.std.proofs.Common.{◌≡◌, ◌*◌, ◌≤◌, min}
use Rattle.tqd_base.specs.Sum.{sum_to}
use Rattle.tqd_instance.specs.Job.{high}
use Rattle.interval_box.specs.Ranges.{high_of}
use Rattle.lagrangian.specs.Repair.{caps}
use Rattle.lagrangian.proofs.totals.highs.Given as goal

abbrev pub invariant-loop-i : goal.invariant-loop-i
invariant-loop-i l = record {
  is_sum : l.sum ≡ sum_to l.i (λ i. min (high l.job i (high_of l.area i)) (caps l.job i));
  fits : l.sum ≤ l.i * 100000000;
}
