use Rattle.std.proofs.Common.{◌∙◌, ap}
use Rattle.tree_checker.specs.Verdict.{prices_wanted}
use Rattle.bound_tree.proofs.Roots.{root_is_value}
use Rattle.tree_checker.proofs.slots.RowSlots.start.Goals as goal

pub returns-clause-rows : goal.returns-clause-rows
returns-clause-rows c =
    let job = c.args.job.now in
    c.with_room.ensures.rows job (c.prices_wanted.ensures.value ∙ ap (prices_wanted job) (root_is_value job c.root.result c.root.ensures.whole))
