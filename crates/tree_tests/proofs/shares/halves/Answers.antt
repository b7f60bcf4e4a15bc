use Rattle.std.proofs.Common.{subst, ap, ◌∙◌, rules}
use Rattle.interval_box.specs.declared.boxes.IntervalBox.{IntervalBox}
use Rattle.interval_box.specs.Halves.{IsProper, low_half, high_half}
use Rattle.bound_tree.specs.Prices.{Fits}
use Rattle.tree_tests.proofs.shares.halves.Goals as goal

pub row-requires : goal.row-requires
row-requires g c = c.halves.ensures.low_of_job c.args.job.now c.root-root.ensures.of_job

pub row-requires-2 : goal.row-requires-2
row-requires-2 g c = c.halves.ensures.high_of_job c.args.job.now c.root-root.ensures.of_job

pub two_leaves-requires-clause-proper : goal.two_leaves-requires-clause-proper
two_leaves-requires-clause-proper g c =
    let root = (c.root_is_one_box.ensures c.args.job.now c.root-root.result).0 c.root-root.ensures.whole in
    let proper : IsProper c.root-root.result 0 0 = search rules in
    subst (λ (area : IntervalBox). IsProper area 0 0) root proper

pub two_leaves-requires-clause-low : goal.two_leaves-requires-clause-low
two_leaves-requires-clause-low g c =
    let root = (c.root_is_one_box.ensures c.args.job.now c.root-root.result).0 c.root-root.ensures.whole in
    subst (λ (area : IntervalBox). Fits c.args.job.now area c.in_ok-low_row.low_row) (c.halves.ensures.low ∙ ap (λ (area : IntervalBox). low_half area 0 0) root) c.in_ok-low_row.ensures

pub two_leaves-requires-clause-high : goal.two_leaves-requires-clause-high
two_leaves-requires-clause-high g c =
    let root = (c.root_is_one_box.ensures c.args.job.now c.root-root.result).0 c.root-root.ensures.whole in
    subst (λ (area : IntervalBox). Fits c.args.job.now area c.in_ok-high_row.high_row) (c.halves.ensures.high ∙ ap (λ (area : IntervalBox). high_half area 0 0) root) c.in_ok-high_row.ensures
