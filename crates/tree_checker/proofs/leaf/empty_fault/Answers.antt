use Rattle.std.proofs.Common.{ℕ, ℤ, List, take, ap, sym, ◌∙◌, subst}
use Rattle.bound_tree.specs.Prices.{Fits, row_of}
use Rattle.bound_tree.specs.LineHead.{prices_of}
use Rattle.tree_checker.proofs.Leaves.{row_fits}
use Rattle.tree_checker.proofs.leaf.empty_fault.Goals as goal

pub value_free_in-requires-clause-fits : goal.value_free_in-requires-clause-fits
value_free_in-requires-clause-fits c =
    let job = c.args.job.now in
    let read = c.read_row.ensures in
    let prices = read.kept c.in_default.is in
    subst (λ (ps : List ℤ). Fits job c.args.area.now (row_of job ps))
    (sym (ap (λ (n : ℕ). take n c.read_row.new.places) c.prices_wanted.ensures.value ∙ prices))
    (row_fits job c.args.area.now (prices_of c.args.line.now) (sym read.fault ∙ c.in_default.is))
