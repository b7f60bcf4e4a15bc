use Rattle.std.proofs.Common.{ℕ, ℤ, List, take, ap, sym, ◌∙◌, subst}
use Rattle.bound_tree.specs.Prices.{Fits, row_of}
use Rattle.bound_tree.specs.LineHead.{prices_of}
use Rattle.tree_checker.proofs.Leaves.{row_fits}
use Rattle.requote.proofs.SaidLines.{none_there}
use Rattle.requote.proofs.said.Target.leaf.Goals as goal

pub judged-requires-2 : goal.judged-requires-2
judged-requires-2 c =
    let job = c.args.self.now.job.now in
    let area = c.args.self.now.area in
    let read = c.read_row.ensures in
    let none = none_there c.read_row.result (sym c.is_some.ensures ∙ c.if-is_some.false) in
    subst (λ (prices : List ℤ). Fits job area (row_of job prices))
    (sym (ap (λ (n : ℕ). take n c.read_row.new.places) c.prices_wanted-wanted.ensures.value ∙ read.kept none))
    (row_fits job area (prices_of c.args.line.now) (sym read.fault ∙ none))
