use Rattle.std.proofs.Common.{◌≡◌, ◌+◌, ◌*◌, ◌+ℤ◌, ◌≤ℤ◌, neg_ℤ, pos}
use Rattle.tqd_base.specs.Sum.{signed_sum_to}
use Rattle.bound_tree.specs.Value.{goods_value}
use Rattle.price_climb.proofs.Untouched.{supplier_in}
use Rattle.price_climb.proofs.table.value_of.Given as goal

abbrev pub invariant-loop-i : goal.invariant-loop-i
invariant-loop-i l = record {
  is_sum : l.sum ≡ goods_value l.job l.row.goods +ℤ signed_sum_to l.i (supplier_in l.job l.area l.row);
  not_less : neg_ℤ (pos (25600000000000000000000000000 + l.i * 1000000000000000000000000000)) ≤ℤ l.sum;
  not_more : l.sum ≤ℤ pos (25600000000000000000000000000 + l.i * 1000000000000000000000000000);
}
