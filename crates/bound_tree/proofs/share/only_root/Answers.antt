use Rattle.std.proofs.Common.{◌∙◌, ap, List, [], ◌∷◌, ◌++◌}
use Rattle.interval_box.specs.declared.boxes.IntervalBox.{IntervalBox}
use Rattle.bound_tree.proofs.Roots.{root_is_value}
use Rattle.bound_tree.proofs.share.only_root.Goals as goal

pub returns : goal.returns
returns c = c.in_ok-push.ensures.items ∙ (ap (λ (xs : List IntervalBox). xs ++ c.root.result ∷ []) c.new-due.ensures.items ∙ ap (λ (area : IntervalBox). area ∷ []) (root_is_value c.args.job.now c.root.result c.root.ensures.whole))
