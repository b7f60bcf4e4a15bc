use Rattle.std.proofs.Common.{subst, sym}
use Rattle.interval_box.specs.Ranges.{IsRoot}
use Rattle.bound_tree.proofs.Roots.{root_is, root_is_value}
use Rattle.bound_tree.proofs.laws.root_is_one_box.Goals as goal

pub returns : goal.returns
returns c = λ job area. (root_is_value job area, λ e. subst (IsRoot job) (sym e) (root_is job))
