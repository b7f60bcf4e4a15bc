use Rattle.std.proofs.Common.{◌≡◌, ◌≤◌, length}
use Rattle.tqd_instance.specs.Plan.{units}
use Rattle.bound_tree.specs.TreeText.{lines_to, buy_line}
use Rattle.bound_tree.proofs.write.supplier_buy_count.Given as goal

abbrev pub invariant-loop-k : goal.invariant-loop-k
invariant-loop-k l = record {
  counted : l.count ≡ length (lines_to l.k (buy_line (units l.plan) l.i));
  few : l.count ≤ l.k;
}
