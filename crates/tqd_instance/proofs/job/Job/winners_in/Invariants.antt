use Rattle.std.proofs.Common.{◌≡◌, ◌≤◌}
use Rattle.tqd_base.specs.Sum.{sum_to}
use Rattle.tqd_instance.specs.Purchase.{wins}
use Rattle.tqd_instance.specs.Plan.{units}
use Rattle.tqd_instance.proofs.job.Job.winners_in.Given as goal

abbrev pub invariant-loop-i : goal.invariant-loop-i
invariant-loop-i l = record {
  is_sum : l.number ≡ sum_to l.i (wins l.self (units l.plan));
  fits : l.number ≤ l.i;
}
