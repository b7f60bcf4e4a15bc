use Rattle.std.proofs.Common.{◌≡◌, ◌≤◌, ◌*◌, length}
use Rattle.tqd_base.specs.declared.limits.TheConstants.{GOODS_MAX}
use Rattle.tqd_instance.specs.Job.{goods}
use Rattle.tqd_instance.specs.Plan.{units}
use Rattle.bound_tree.specs.TreeText.{lines_to, buy_line}
use Rattle.bound_tree.proofs.write.buy_count.Given as goal

abbrev pub invariant-loop-i : goal.invariant-loop-i
invariant-loop-i l = record {
  counted : l.count ≡ length (lines_to l.i (λ i. lines_to (goods l.job) (buy_line (units l.plan) i)));
  few : l.count ≤ l.i * GOODS_MAX;
}
