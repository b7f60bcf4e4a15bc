use Rattle.std.proofs.Common.{subst}
use Rattle.interval_box.specs.declared.boxes.IntervalBox.{IntervalBox}
use Rattle.bound_tree.specs.Prices.{Fits}
use Rattle.tree_tests.proofs.shares.root_leaf.Goals as goal

pub one_leaf-requires : goal.one_leaf-requires
one_leaf-requires g c =
    subst (λ (area : IntervalBox). Fits c.args.job.now area c.in_ok-row.row) ((c.root_is_one_box.ensures c.args.job.now c.root-root.result).0 c.root-root.ensures.whole) c.in_ok-row.ensures
