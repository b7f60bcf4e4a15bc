use Rattle.std.proofs.Common.{◌≡◌, ◌*◌, ◌≤◌}
use Rattle.tqd_base.specs.Sum.{sum_to}
use Rattle.box_bound.specs.Relaxed.{sure_fee}
use Rattle.box_bound.proofs.flow.sure_fees.Given as goal

abbrev pub invariant-loop-i : goal.invariant-loop-i
invariant-loop-i l = record {
  is_sum : l.sum ≡ sum_to l.i (sure_fee l.job l.area);
  within : l.sum ≤ l.i * 1000000000000;
}
